-- What a day shows of a state: of each job its task, its release and, once it has ended, the time that it took.
-- Cited by the calls that show what a book holds, and by closing.
use Rattle.std.specs.Prelude.{ℕ, map, Some, None, Option}
use Rattle.days.specs.Days.{Shown, Reading}
use Rattle.days.specs.Rules.{State}
use Rattle.days.specs.declared.job.Job.{Job}
use Rattle.days.specs.declared.job.JobState.{JobState}
use Rattle.days.specs.declared.job.JobState.TheVariants.{Waiting, Held, Finished}

-- a time as it is shown: only of a finished job
abbrev pub shown_time : JobState → ℕ → Option ℕ
shown_time Waiting time = None
shown_time Held time = None
shown_time Finished time = Some time

-- the job as a day shows it
abbrev pub shown : Job → Shown
shown j = record { task = j.task; release = j.release; took = shown_time j.state j.took }

-- The state as a day shows it.
abbrev pub viewed : State → Reading
viewed s = record { now = s.now; jobs = map shown s.jobs }
