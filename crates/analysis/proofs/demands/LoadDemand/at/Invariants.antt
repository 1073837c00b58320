use Rattle.model.specs.Analysis.{work}
use Rattle.model.proofs.WorkLaws.{most_work}
use Rattle.analysis.proofs.Running.{Running}
use Rattle.analysis.proofs.demands.LoadDemand.at.Given as goal

abbrev pub invariant-loop-other : goal.invariant-loop-other
invariant-loop-other g l =
    let m = g.P.Parts.meaning l.self.parts.now in
    Running (m.order.counted l.self.task) (λ o. work m o l.length) l.self.blocked most_work l.other l.ticks
