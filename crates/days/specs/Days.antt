-- A day of the book: the calls, which of them were taken, and what is read off that alone.
-- Cited by the promise, and by every call on a book.
use Rattle.std.specs.Prelude.{◌≡◌, ℕ, ◌+◌, ◌-◌, Bool, cond, ◌&&◌, List, [], ◌∷◌, ◌++◌, drop, Some, None, is_none, fold, Option, ◌==◌}
use Rattle.model.specs.Analysis.{Parts}
use Rattle.model.specs.Choice.{if_some}
use Rattle.model.specs.declared.fault.Fault.{Fault}
use Rattle.days.specs.Lists.{change_first}
use Rattle.days.specs.Records.{decoded}
use Rattle.days.specs.Rules.{State, new_state, ticks, answer, left}
use Rattle.days.specs.declared.command.Command.{Command}
use Rattle.days.specs.declared.command.Command.TheVariants.{Release, Serve, Idle}
use Rattle.days.specs.declared.command.Mark.TheVariants.{Hold, Open, Done}

-- A call on a book: a command, or the bytes of a record from a place on.
pub data Call : Type 0 where
  single : Command → Call
  recorded : List ℕ → ℕ → Call

-- the command that a call asks for; bytes may be none
abbrev pub asked : Call → Option Command
asked (single c) = Some c
asked (recorded bytes place) = decoded (drop place bytes)

-- What was asked, and whether it was taken.
pub record Event : Type 0 where
  pub command : Option Command
  pub taken : Bool

-- the ticks of an event: those of its command, if it was taken
abbrev pub event_ticks : Event → ℕ
event_ticks e = cond e.taken (if_some e.command 0 ticks) 0

module _ (verdict : Option Fault) (m : Parts) where
  -- what a call on a book is in its day
  abbrev pub event : State → Option Command → Event
  event s c = record { command = c; taken = is_none (answer verdict m s c) }

  -- The day that a list of calls makes of a book.
  abbrev pub day_of : State → List Call → List Event
  day_of s [] = []
  day_of s (c ∷ calls) = event s (asked c) ∷ day_of (left verdict m s (asked c)) calls

  -- A day leads from a new book to a state, call by call.
  pub data Led : List Event → State → Type 0 where
    opened : Led [] new_state
    called : {day : List Event} {s : State} → Led day s → (c : Option Command) → Led (day ++ event s c ∷ []) (left verdict m s c)

-- What a call did: its answer, the state after it, and that it adds one event to whatever day led to the state before.
pub record Followed (verdict : Option Fault) (m : Parts) (s : State) (c : Option Command) (why : Option Fault) (later : State) : Type 0 where
  pub answer : why ≡ answer verdict m s c
  pub left : later ≡ left verdict m s c
  pub day : (day : List Event) → Led verdict m day s → Led verdict m (day ++ event verdict m s c ∷ []) later

-- One state comes of another by more calls: whatever day led to the one leads, with more events, to the other.
abbrev pub GoesOn : Option Fault → Parts → State → State → Type 0
GoesOn verdict m s later = (day : List Event) → Led verdict m day s → (more : List Event) × Led verdict m (day ++ more) later

-- A job as a day shows it: released, and ended after some time or not.
pub record Shown : Type 0 where
  pub task : ℕ
  pub release : ℕ
  pub took : Option ℕ

-- What is read off a day: the time, and the jobs in order of release.
pub record Reading : Type 0 where
  pub now : ℕ
  pub jobs : List Shown

abbrev pub nothing_read : Reading
nothing_read = record { now = 0; jobs = [] }

-- a job of task k that has not ended
abbrev pub not_ended : ℕ → Shown → Bool
not_ended k j = j.task == k && is_none j.took

-- the job ends at a tick
abbrev pub ended_at : ℕ → Shown → Shown
ended_at tick j = record { task = j.task; release = j.release; took = Some (tick - j.release) }

-- What a taken command adds. A release is a job, released now; a service is one tick, and with the mark done it ends the
-- first unfinished job of its task; an idling is its ticks.
abbrev pub read_command : Reading → Command → Reading
read_command r (Release k) = record { now = r.now; jobs = r.jobs ++ record { task = k; release = r.now; took = None } ∷ [] }
read_command r (Serve Hold k) = record { now = r.now + 1; jobs = r.jobs }
read_command r (Serve Open k) = record { now = r.now + 1; jobs = r.jobs }
read_command r (Serve Done k) = record { now = r.now + 1; jobs = change_first (not_ended k) (ended_at (r.now + 1)) r.jobs }
read_command r (Idle n) = record { now = r.now + n; jobs = r.jobs }

-- only what was taken counts
abbrev pub read_event : Reading → Event → Reading
read_event r e = cond e.taken (if_some e.command r (read_command r)) r

-- The reading of a day, off its events alone.
abbrev pub reading : List Event → Reading
reading day = fold read_event nothing_read day
