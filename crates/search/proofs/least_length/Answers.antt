use Rattle.std.proofs.Common.{sym, rules}
use Rattle.model.specs.Least.{NeverMet, LeastMet}
use Rattle.model.proofs.LeastLaws.{some_least, none_least}
use Rattle.search.proofs.Skips.{unmet_further}
use Rattle.search.proofs.least_length.Goals as goal

pub returns-then-wanted-from : goal.returns-then-wanted-from
returns-then-wanted-from g c =
    let met : LeastMet (g.D.Demand.demand c.args.demand.now) c.args.limit c.loop-length.length = record {
      positive = c.loop-length.invariant.0;
      within = search rules;
      met = search rules;
      earlier = c.loop-length.invariant.1;
    } in
    record { value = sym (some_least _ c.args.limit c.loop-length.length met); law = met }

pub returns-then-wanted-from-2 : goal.returns-then-wanted-from-2
returns-then-wanted-from-2 g c =
    let demand = g.D.Demand.demand c.args.demand.now in
    let never : NeverMet demand c.args.limit =
    λ e positive within. unmet_further demand c.args.limit c.loop-length.length (g.D.Demand.rises c.args.demand.now) (search rules) c.loop-length.invariant.1 e positive within (search rules)
    in
    record { value = sym (none_least demand c.args.limit never); law = never }

pub loop-length-preserved : goal.loop-length-preserved
loop-length-preserved g c =
    let demand = g.D.Demand.demand c.args.demand.now in
    (search rules, λ e positive below. unmet_further demand c.args.limit c.loop-length.length (g.D.Demand.rises c.args.demand.now) (search rules) c.loop-length.invariant.1 e positive (search rules) (search rules))

pub returns : goal.returns
returns g c =
    let demand = g.D.Demand.demand c.args.demand.now in
    let never : NeverMet demand c.args.limit = λ e positive within. c.loop-length.invariant.1 e positive (search rules) in
    record { value = sym (none_least demand c.args.limit never); law = never }
