-- The greatest number of ticks that stands in a job.
-- Cited by the invariant of a timeline, so that no count in it can wrap.
use Rattle.std.specs.Prelude.{ℕ, max}
use Rattle.days.specs.declared.job.Job.{Job}

abbrev pub latest : Job → ℕ
latest j = max (max j.release j.received) (max j.since j.openings)
