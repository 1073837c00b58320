-- Maps: how a change of one element, sums, counts and maxima go through them.
use Rattle.std.proofs.Common.{◌≡◌, ℕ, ◌+◌, max, Bool, true, List, [], ◌∷◌, map, refl, sym, ap, ◌∙◌, ⊎_elim}
use Rattle.std.specs.List.{count_by, sum_by}
use Rattle.std.proofs.lemmas.Bool.{cases_Bool}
use Rattle.std.proofs.lemmas.List.Sums.{sum_by-cons}
use Rattle.days.specs.Lists.{change_first, greatest_of}
use Rattle.days.proofs.SumsOver.{one_if}

module _ {X Y : Type 0} (g : X → Y) where
  -- the first element that passes is changed before the map or after it
  pub map_changed : (p : X → Bool) (q : Y → Bool) (f : X → X) (h : Y → Y) → ((x : X) → q (g x) ≡ p x) → ((x : X) → p x ≡ true → g (f x) ≡ h (g x))
      → (xs : List X) → map g (change_first p f xs) ≡ change_first q h (map g xs)
  map_changed p q f h tests changes [] = refl
  map_changed p q f h tests changes (x ∷ xs) =
      ⊎_elim (λ passes. rw (tests x) (rw passes (ap (λ y. y ∷ map g xs) (changes x passes))))
      (λ fails. rw (tests x) (rw fails (ap (λ ys. g x ∷ ys) (map_changed p q f h tests changes xs)))) (cases_Bool (p x))

  -- a change that the map does not show
  pub map_unchanged : (p : X → Bool) (f : X → X) → ((x : X) → p x ≡ true → g (f x) ≡ g x) → (xs : List X) → map g (change_first p f xs) ≡ map g xs
  map_unchanged p f same [] = refl
  map_unchanged p f same (x ∷ xs) =
      ⊎_elim (λ passes. rw passes (ap (λ y. y ∷ map g xs) (same x passes)))
      (λ fails. rw fails (ap (λ ys. g x ∷ ys) (map_unchanged p f same xs))) (cases_Bool (p x))

  -- a sum over a map
  pub sum_over_map : (f : Y → ℕ) (xs : List X) → sum_by f (map g xs) ≡ sum_by (λ x. f (g x)) xs
  sum_over_map f [] = refl
  sum_over_map f (x ∷ xs) =
      sum_by-cons f (g x) (map g xs) ∙ ap (λ sum. f (g x) + sum) (sum_over_map f xs) ∙ sym (sum_by-cons (λ x. f (g x)) x xs)

  -- how many pass after a map
  pub how_many_map : (p : Y → Bool) (xs : List X) → count_by p (map g xs) ≡ count_by (λ x. p (g x)) xs
  how_many_map p xs = sum_over_map (λ y. one_if (p y)) xs

  -- the greatest number after a map
  pub greatest_of_map : (f : Y → ℕ) (xs : List X) → greatest_of f (map g xs) ≡ greatest_of (λ x. f (g x)) xs
  greatest_of_map f [] = refl
  greatest_of_map f (x ∷ xs) = ap (max (f (g x))) (greatest_of_map f xs)
