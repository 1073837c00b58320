-- What a timeline holds.
-- Cited by every call on a timeline.
use Rattle.std.specs.Prelude.{vec_items}
use Rattle.days.specs.Rules.{State}
use Rattle.timeline.specs.declared.state.Timeline.{Timeline}

abbrev pub held_by : Timeline → State
held_by t = record { now = t.now; jobs = vec_items t.jobs }
