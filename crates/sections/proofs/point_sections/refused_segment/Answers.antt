use Rattle.std.proofs.Common.{◌≡◌, ℕ, zero, suc, cond, nat_lt, List, [], ◌∷◌, length, drop, Some, refl, arith, rules}
use Rattle.std.specs.List.{list_any}
use Rattle.std.proofs.lemmas.List.{take_rest}
use Rattle.std.proofs.lemmas.Iterator.{YieldsList-from_slice}
use Rattle.std.proofs.lemmas.Iterator.Search.{any_from_yields_List}
use Rattle.std.proofs.lemmas.Bool.Decides.{nat_tests}
use borrow.Author.Tests.{tests}
use Rattle.model.specs.Sections.{most_cost}
use Rattle.model.specs.declared.fault.Refusal.TheVariants.{Range}
use Rattle.kinds.specs.Numbers.{used}
use Rattle.kinds.specs.SectionKinds.{segments_refused, number_behind}
use Rattle.sections.proofs.point_sections.refused_segment.Goals as goal

-- what is refused about the used numbers, or else about those behind them
apart : (xs : List ℕ) → segments_refused xs ≡ cond (list_any (λ x. nat_lt most_cost x) (used xs)) (Some Range) (number_behind (drop (length (used xs)) xs))
apart [] = refl
apart (zero ∷ xs) = refl
apart (suc x ∷ xs) = let behind = apart xs in grind (arith, nat_tests)

pub returns-then-any : goal.returns-then-any
returns-then-any c =
    let found = any_from_yields_List (λ x. nat_lt most_cost x) _ _ c.any.result c.any.ensures.ran (YieldsList-from_slice c.used-segments.result.now cc) (λ x b q k. search (rules, tests)) in
    let whole = apart c.args.row.now in
    grind (arith, nat_tests)

pub returns : goal.returns
returns c =
    let found = any_from_yields_List (λ x. nat_lt most_cost x) _ _ c.any.result c.any.ensures.ran (YieldsList-from_slice c.used-segments.result.now cc) (λ x b q k. search (rules, tests)) in
    let whole = apart c.args.row.now in
    let rest = take_rest c.args.row.now (length c.used-segments.result.now) in
    grind (arith, nat_tests)
