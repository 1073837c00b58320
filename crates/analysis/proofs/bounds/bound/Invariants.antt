use Rattle.std.proofs.Common.{◌≡◌}
use Rattle.model.specs.Analysis.{response}
use Rattle.model.specs.Sums.{greatest}
use Rattle.analysis.proofs.bounds.bound.Given as goal

abbrev pub invariant-loop-offset : goal.invariant-loop-offset
invariant-loop-offset g l =
    let m = g.P.Parts.meaning l.parts in
    l.most ≡ greatest l.offset (response m l.task)
