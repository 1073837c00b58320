-- The letter that is printed of a command.
-- Cited by the function that prints it.
use Rattle.std.specs.Prelude.{ℕ, Bool, cond, ◌||◌, ◌==◌}
use Rattle.days.specs.Records.{release_letter, hold_letter, open_letter, done_letter, idle_letter}

abbrev pub is_letter : ℕ → Bool
is_letter b = b == release_letter || b == hold_letter || b == open_letter || b == done_letter || b == idle_letter

-- a question mark
abbrev pub unknown : ℕ
unknown = 63

abbrev pub shown_letter : ℕ → ℕ
shown_letter b = cond (is_letter b) b unknown
