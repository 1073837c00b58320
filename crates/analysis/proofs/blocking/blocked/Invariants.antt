use Rattle.std.proofs.Common.{◌≡◌}
use Rattle.model.specs.Analysis.{blocking}
use Rattle.model.specs.Sums.{greatest}
use Rattle.analysis.proofs.blocking.blocked.Given as goal

abbrev pub invariant-loop-lower : goal.invariant-loop-lower
invariant-loop-lower g l = l.most ≡ greatest l.lower (blocking (g.P.Parts.meaning l.parts) l.task)
