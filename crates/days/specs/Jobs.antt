-- A job of the day book: its states, what one served tick makes of it, and how it compares.
-- Cited by the rules of the day book.
use Rattle.std.specs.Prelude.{ℕ, ◌+◌, ◌-◌, Bool, true, false, not, ◌&&◌, ◌==◌}
use Rattle.model.specs.Order.{job}
use Rattle.model.specs.Sections.{SectionsMeaning}
use Rattle.model.specs.declared.released.Released.{Released}
use Rattle.days.specs.declared.command.Mark.{Mark}
use Rattle.days.specs.declared.command.Mark.TheVariants.{Hold, Open, Done}
use Rattle.days.specs.declared.job.Job.{Job}
use Rattle.days.specs.declared.job.JobState.{JobState}
use Rattle.days.specs.declared.job.JobState.TheVariants.{Waiting, Held, Finished}

abbrev pub is_held : JobState → Bool
is_held Waiting = false
is_held Held = true
is_held Finished = false

abbrev pub is_finished : JobState → Bool
is_finished Waiting = false
is_finished Held = false
is_finished Finished = true

-- the job keeps the processor
abbrev pub held : Job → Bool
held j = is_held j.state

abbrev pub unfinished : Job → Bool
unfinished j = not (is_finished j.state)

abbrev pub of_task : ℕ → Job → Bool
of_task k j = j.task == k

-- an unfinished job of task k
abbrev pub pending : ℕ → Job → Bool
pending k j = of_task k j && unfinished j

-- the job as an order names it
abbrev pub released : Job → Released
released j = job j.task j.release

-- a job of task k as it is released at a tick
abbrev pub new_job : ℕ → ℕ → Job
new_job k tick = record { task = k; release = tick; state = Waiting; received = 0; since = 0; openings = 0; took = 0 }

-- the state of a job after a tick with a mark; a finished job stays so
abbrev pub next_state : JobState → Mark → JobState
next_state Waiting Hold = Held
next_state Waiting Open = Waiting
next_state Waiting Done = Finished
next_state Held Hold = Held
next_state Held Open = Waiting
next_state Held Done = Finished
next_state Finished mark = Finished

-- the ticks since the last opening, which counts from anew after an opening
abbrev pub next_since : Mark → ℕ → ℕ
next_since Hold since = since + 1
next_since Open since = 0
next_since Done since = since + 1

abbrev pub next_openings : Mark → ℕ → ℕ
next_openings Hold openings = openings
next_openings Open openings = openings + 1
next_openings Done openings = openings

-- the time that a job took, which is known once it is done
abbrev pub next_took : Mark → ℕ → ℕ → ℕ
next_took Hold time took = took
next_took Open time took = took
next_took Done time took = time

-- the job after one served tick with a mark; `end` is now after the tick
abbrev pub served : Mark → ℕ → Job → Job
served mark end j = record {
  task = j.task;
  release = j.release;
  state = next_state j.state mark;
  received = j.received + 1;
  since = next_since mark j.since;
  openings = next_openings mark j.openings;
  took = next_took mark (end - j.release) j.took;
}

-- whether the sections allow the mark of one more tick of the job
abbrev pub allowed : SectionsMeaning → Mark → Job → Bool
allowed m Hold j = m.may_hold j.task (j.received + 1) (j.since + 1) j.openings
allowed m Open j = m.may_open j.task (j.received + 1) (j.since + 1) j.openings
allowed m Done j = m.may_finish j.task (j.received + 1) (j.since + 1) j.openings
