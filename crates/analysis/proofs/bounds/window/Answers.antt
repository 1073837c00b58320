use Rattle.std.proofs.Common.{◌+◌, ap, ◌∙◌}
use Rattle.model.specs.Analysis.{load, window, counted_work, longest_window}
use Rattle.model.specs.Least.{least}
use Rattle.analysis.proofs.bounds.window.Goals as goal

pub returns : goal.returns
unfolding window load
returns g c =
    let m = g.P.Parts.meaning c.args.parts.now in
    c.least_length.ensures.value ∙ ap (λ blocking. least (λ d. blocking + counted_work m c.args.task d) longest_window) c.blocked.ensures
