use Rattle.std.proofs.Common.{ℕ, sym, ap, ◌∙◌}
use Rattle.model.specs.Analysis.{work}
use Rattle.model.proofs.WorkLaws.{most_work}
use Rattle.analysis.proofs.Running.{running_none, running_taken, running_passed}
use Rattle.analysis.proofs.demands.LoadDemand.at.Goals as goal
use Rattle.analysis.proofs.demands.LoadDemand.at.Goals.{then-counted, else-counted}

pub loop-other-init : goal.loop-other-init
loop-other-init g c =
    let load = c.args.self.now in
    let m = g.P.Parts.meaning load.parts.now in
    running_none (m.order.counted load.task) (λ o. work m o c.args.length) _ most_work _ c.from-ticks.ensures

pub loop-other-preserved : goal.loop-other-preserved
loop-other-preserved g c =
    let load = c.args.self.now in
    let m = g.P.Parts.meaning load.parts.now in
    let test = m.order.counted load.task in
    let term = λ (o : ℕ). work m o c.args.length in
    let asked = sym (ap (λ o. o.counted load.task c.loop-other.other) c.order.ensures) in
    elim c.if-counted.branch [
      | then-counted w ↦ running_taken test term _ most_work _ _ _ _ c.loop-other.invariant w.ticks-is (asked ∙ sym w.if-counted.ensures) w.work-ticks.ensures.value w.work-ticks.ensures.bound
      | else-counted w ↦ running_passed test term _ most_work _ _ _ c.loop-other.invariant w.ticks-is (asked ∙ sym w.if-counted.ensures)
    ]
