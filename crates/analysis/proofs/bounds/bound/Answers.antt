use Rattle.std.proofs.Common.{sym, ap, ◌∙◌, arith}
use Rattle.model.specs.Analysis.{response}
use Rattle.model.specs.Sums.{greatest}
use Rattle.model.proofs.AnalysisLaws.{window_least}
use Rattle.model.proofs.SumLaws.{greatest_zero}
use Rattle.analysis.proofs.Peaks.{peak_more}
use Rattle.model.proofs.ResponseLaws.{bound_greatest}
use Rattle.analysis.proofs.bounds.bound.Goals as goal

pub loop-offset-init : goal.loop-offset-init
loop-offset-init g c = sym (greatest_zero _)

pub response-requires : goal.response-requires
response-requires g c =
    let m = g.P.Parts.meaning c.args.parts.now in
    let least = window_least m c.args.task c.args.offsets c.requires in
    record { short = omega (arith, least.within, c.loop-offset-test.true); blocking = c.blocked-blocking.ensures }

pub loop-offset-preserved : goal.loop-offset-preserved
loop-offset-preserved g c = peak_more _ _ _ _ _ c.loop-offset.invariant c.max-most.ensures c.response.ensures

pub returns : goal.returns
returns g c =
    let m = g.P.Parts.meaning c.args.parts.now in
    c.loop-offset.invariant
    ∙ ap (λ n. greatest n (response m c.args.task)) (omega arith)
    ∙ sym (bound_greatest m c.args.task c.args.offsets c.requires)
