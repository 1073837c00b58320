use Rattle.std.proofs.Common.{not, eqb}
use Rattle.model.specs.Analysis.{work}
use Rattle.model.specs.Order.{within}
use Rattle.model.proofs.WorkLaws.{most_work}
use Rattle.analysis.proofs.Running.{Running}
use Rattle.analysis.proofs.demands.NeedDemand.at.Given as goal

abbrev pub invariant-loop-other : goal.invariant-loop-other
invariant-loop-other g l =
    let m = g.P.Parts.meaning l.self.parts.now in
    Running (λ o. not (eqb o l.self.task)) (λ o. work m o (within (m.order.reach l.self.task o l.self.offset) l.length)) l.self.own most_work l.other l.ticks
