use Rattle.std.proofs.Common.{◌≡◌, cond, count_by, nat_le, refl, rules, tests, arith}
use Rattle.std.proofs.lemmas.Iterator.{YieldsList-from_slice, YieldsList-from_map}
use Rattle.std.proofs.lemmas.Iterator.Consumers.{YieldsList-at, sum_by_from_yields_List, fits_by_from_yields_list}
use Rattle.std.proofs.lemmas.List.Recursion.{is_count_by}
use Rattle.std.proofs.lemmas.List.Sums.{count_by-le-length}
use Rattle.std.proofs.lemmas.Bool.Decides.{nat_tests}
use Rattle.kinds.specs.ArrivalKinds.{at_most}
use Rattle.arrivals.proofs.steps.in_time.Goals as goal

-- no more than there are entries, which are in memory
pub sum-requires-clause-fits : goal.sum-requires-clause-fits
sum-requires-clause-fits c =
    let few = count_by-le-length (λ x. nat_le x c.args.most) c.args.entries.now in
    fits_by_from_yields_list (λ x. cond (nat_le x c.args.most) 1 0) c.args.entries.now c.map.result _
    (YieldsList-from_map _ (λ x. cond (nat_le x c.args.most) 1 0) (YieldsList-at c.map.ensures.source (YieldsList-from_slice c.args.entries.now (cc))) c.map.ensures.closure (λ x r q k. search (rules, tests)))
    (omega (arith, few))

pub returns : goal.returns
returns c =
    let counted = is_count_by (at_most c.args.most) (λ x. nat_le x c.args.most) refl (λ x xs. grind (arith, nat_tests)) c.args.entries.now in
    let value : c.sum.result ≡ count_by (λ x. nat_le x c.args.most) c.args.entries.now =
    sum_by_from_yields_List (λ x. cond (nat_le x c.args.most) 1 0) c.args.entries.now c.map.result _ c.sum.ensures.ran
    (YieldsList-from_map _ (λ x. cond (nat_le x c.args.most) 1 0) (YieldsList-at c.map.ensures.source (YieldsList-from_slice c.args.entries.now (cc))) c.map.ensures.closure (λ x r q k. search (rules, tests))) in
    omega (arith, value, counted)
