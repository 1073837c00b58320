-- Rows of numbers with 0 behind the last.
-- Cited by the kinds whose rows are such.
use Rattle.std.specs.Prelude.{ℕ, zero, suc, List, [], ◌∷◌}

-- the numbers before the first 0
abbrev pub used : List ℕ → List ℕ
used [] = []
used (zero ∷ xs) = []
used (suc x ∷ xs) = suc x ∷ used xs
