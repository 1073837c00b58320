-- Words on lists that the library lacks.
-- Cited by the rules of the day book and by its totals.
use Rattle.std.specs.Prelude.{ℕ, max, Bool, cond, List, [], ◌∷◌}

-- the list with the first element that passes changed
abbrev pub change_first : {X : Type 0} → (X → Bool) → (X → X) → List X → List X
change_first p f [] = []
change_first p f (x ∷ xs) = cond (p x) (f x ∷ xs) (x ∷ change_first p f xs)

-- the greatest f of the elements, or 0
abbrev pub greatest_of : {X : Type 0} → (X → ℕ) → List X → ℕ
greatest_of f [] = 0
greatest_of f (x ∷ xs) = max (f x) (greatest_of f xs)
