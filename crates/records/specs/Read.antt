-- What is taken off the front of the bytes of a record.
-- Cited by the reader.
use Rattle.std.specs.Prelude.{◌≡◌, ℕ, ◌≤◌, List, length, drop, Some}
use Rattle.days.specs.Records.{decoded, width}
use Rattle.days.specs.declared.command.Command.{Command}

-- the bytes begin with a command, and these are the rest
pub record Begins (bytes : List ℕ) (c : Command) (rest : List ℕ) : Type 0 where
  pub is : decoded bytes ≡ Some c
  pub behind : rest ≡ drop (width c) bytes
  pub within : width c ≤ length bytes
