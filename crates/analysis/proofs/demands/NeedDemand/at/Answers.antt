use Rattle.std.proofs.Common.{ℕ, not, eqb, refl, ap, ◌∙◌}
use Rattle.std.proofs.lemmas.Bool.{ne_eqb, eq-eqb, not_from_true, not_from_false}
use Rattle.model.specs.Analysis.{work}
use Rattle.model.specs.Order.{within}
use Rattle.model.proofs.WorkLaws.{most_work}
use Rattle.analysis.proofs.Running.{running_none, running_taken, running_passed}
use Rattle.analysis.proofs.demands.NeedDemand.at.Goals as goal
use Rattle.analysis.proofs.demands.NeedDemand.at.Goals.{then-other-self, else-other-self}

pub loop-other-init : goal.loop-other-init
loop-other-init g c =
    let job = c.args.self.now in
    let m = g.P.Parts.meaning job.parts.now in
    running_none (λ o. not (eqb o job.task)) (λ o. work m o (within (m.order.reach job.task o job.offset) c.args.length)) _ most_work _ refl

pub loop-other-preserved : goal.loop-other-preserved
loop-other-preserved g c =
    let job = c.args.self.now in
    let m = g.P.Parts.meaning job.parts.now in
    let test = λ (o : ℕ). not (eqb o job.task) in
    let term = λ (o : ℕ). work m o (within (m.order.reach job.task o job.offset) c.args.length) in
    elim c.if-other-self.branch [
      | then-other-self w ↦ running_taken test term _ most_work _ _ _ _ c.loop-other.invariant w.ticks-is (not_from_false _ (ne_eqb _ _ w.if-other-self.true))
          (w.work-ticks.ensures.value ∙ ap (λ d. work m c.loop-other.other d) (w.lesser.ensures ∙ ap (λ r. within r c.args.length) (w.reach-reach.ensures ∙ ap (λ o. o.reach job.task c.loop-other.other job.offset) w.order.ensures)))
          w.work-ticks.ensures.bound
      | else-other-self w ↦ running_passed test term _ most_work _ _ _ c.loop-other.invariant w.ticks-is (not_from_true _ (eq-eqb _ _ w.if-other-self.false))
    ]
