-- The record format: a letter, and operands of fixed widths with the high byte first.
-- Cited by the call that obeys a command out of a record.
use Rattle.std.specs.Prelude.{ℕ, ◌+◌, ◌*◌, cond, List, [], ◌∷◌, Some, None, Option, ◌==◌}
use Rattle.days.specs.declared.command.Command.{Command}
use Rattle.days.specs.declared.command.Command.TheVariants.{Release, Serve, Idle}
use Rattle.days.specs.declared.command.Mark.TheVariants.{Hold, Open, Done}

-- the letters R, H, O, D and I
abbrev pub release_letter : ℕ
release_letter = 82

abbrev pub hold_letter : ℕ
hold_letter = 72

abbrev pub open_letter : ℕ
open_letter = 79

abbrev pub done_letter : ℕ
done_letter = 68

abbrev pub idle_letter : ℕ
idle_letter = 73

-- an idling by the bytes of its operand
abbrev pub idling : List ℕ → Option Command
idling [] = None
idling (high ∷ []) = None
idling (high ∷ (low ∷ rest)) = Some (Idle (256 * high + low))

-- a command on a task by the byte of its operand
abbrev pub on_task : (ℕ → Command) → List ℕ → Option Command
on_task command [] = None
on_task command (k ∷ rest) = Some (command k)

-- The command that the bytes begin with, if they do.
abbrev pub decoded : List ℕ → Option Command
decoded [] = None
decoded (letter ∷ rest) =
    cond (letter == release_letter) (on_task Release rest)
    (cond (letter == hold_letter) (on_task (Serve Hold) rest)
    (cond (letter == open_letter) (on_task (Serve Open) rest)
    (cond (letter == done_letter) (on_task (Serve Done) rest)
    (cond (letter == idle_letter) (idling rest) None))))

-- the bytes of a command, its letter among them
abbrev pub width : Command → ℕ
width (Release k) = 2
width (Serve mark k) = 2
width (Idle n) = 3
