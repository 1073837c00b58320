use Rattle.std.proofs.Common.{◌≡◌, ◌+◌, ap, ◌∙◌}
use Rattle.model.specs.Analysis.{ready, need as needed, own_need, others_work, longest_window}
use Rattle.model.specs.Least.{least}
use Rattle.analysis.proofs.Searched.{found_within}
use Rattle.analysis.proofs.bounds.ready.Goals as goal

pub returns : goal.returns
unfolding ready needed
returns g c =
    let m = g.P.Parts.meaning c.args.parts.now in
    let share : c.saturating_sub-own.result + 1 ≡ own_need m c.args.task c.args.offset = cc in
    record {
      value = c.least_length.ensures.value ∙ ap (λ own. least (λ d. own + others_work m c.args.task c.args.offset d) longest_window) share;
      within = found_within _ 100000 _ c.least_length.result c.least_length.ensures.law;
    }
