use Rattle.std.proofs.Common.{◌≡◌, sym, ap, ◌∙◌, arith}
use Rattle.model.specs.Analysis.{tasks, blocked, blocking}
use Rattle.model.specs.Sums.{greatest}
use Rattle.model.proofs.SumLaws.{greatest_zero}
use Rattle.analysis.proofs.Peaks.{peak_more}
use Rattle.analysis.proofs.blocking.blocked.Goals as goal

pub loop-lower-init : goal.loop-lower-init
loop-lower-init g c = sym (greatest_zero _)

pub loop-lower-preserved : goal.loop-lower-preserved
loop-lower-preserved g c = peak_more _ _ _ _ _ c.loop-lower.invariant c.max-most.ensures c.blocking.ensures

pub returns : goal.returns
unfolding blocked
returns g c =
    let all : c.tasks-lower-end.result ≡ tasks (g.P.Parts.meaning c.args.parts.now) = c.tasks-lower-end.ensures ∙ ap (λ a. a.tasks) c.arrivals.ensures in
    c.loop-lower.invariant ∙ ap (λ n. greatest n (blocking (g.P.Parts.meaning c.args.parts.now) c.args.task)) (omega arith)
