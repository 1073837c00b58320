use Rattle.std.proofs.Common.{max, vec_items, unwrap_or, ap, ◌∙◌}
use Rattle.std.specs.List.{reduce}
use Rattle.timeline.proofs.Longest.{times, greatest_time}
use Rattle.timeline.proofs.state.Timeline.longest.Goals as goal

pub returns : goal.returns
returns c =
    c.unwrap_or.ensures
    ∙ ap (λ found. unwrap_or found 0) (c.longest_time.ensures ∙ ap (λ jobs. reduce max (times c.args.task jobs)) c.as_slice.ensures.value)
    ∙ greatest_time c.args.task (vec_items c.args.self.now.jobs)
