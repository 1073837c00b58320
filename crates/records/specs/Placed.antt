-- What is answered to the command at a place of a record.
-- Cited by the reader.
use Rattle.std.specs.Prelude.{ℕ, ◌+◌, Bool, cond, not, ◌||◌, Some, None, Ok, Err, Option, Result, ◌==◌}
use Rattle.model.specs.Choice.{if_some}
use Rattle.model.specs.Faults.{number}
use Rattle.model.specs.declared.fault.Fault.{Fault}
use Rattle.model.specs.declared.fault.Refusal.{Refusal}
use Rattle.days.specs.Records.{width}
use Rattle.days.specs.declared.command.Command.{Command}
use Rattle.records.specs.declared.fault.RecordFault.{RecordFault}

-- after these refusals there is a command to go past: after all but unfit and unread
abbrev pub reads_on : Refusal → Bool
reads_on r = not (number r == 6 || number r == 7)

-- the place behind a command
abbrev pub next_place : Option Command → ℕ → ℕ
next_place c place = place + if_some c 0 width

-- The next place, or the place, the next one if there is any, and the book's fault whole.
abbrev pub read_answer : Option Fault → Option Command → ℕ → Result ℕ RecordFault
read_answer None c place = Ok (next_place c place)
read_answer (Some f) c place =
    Err (record { place = place; next = cond (reads_on f.refusal) (Some (next_place c place)) None; fault = f })

-- what the book answered
abbrev pub book_answer : Result ℕ RecordFault → Option Fault
book_answer (Ok next) = None
book_answer (Err f) = Some f.fault
