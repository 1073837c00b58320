-- The place of the first element that passes a test: which one stands there, and that changing it there changes the first.
use Rattle.std.proofs.Common.{◌≡◌, ℕ, suc, ◌+◌, ◌<◌, Bool, true, false, cond, List, [], ◌∷◌, length, get_or, set, Some, None, sym, refl, ap, ◌∙◌, subst, ⊎_elim, arith, position, find}
use Rattle.std.specs.List.{list_any, position_from}
use Rattle.std.proofs.lemmas.Bool.{cases_Bool}
use Rattle.std.proofs.lemmas.Iterator.Adapters.{position_from-zero}
use Rattle.days.specs.Lists.{change_first}

-- the element at n is the first that passes
pub record Placed {X : Type 0} (p : X → Bool) (xs : List X) (n : ℕ) (d : X) : Type 0 where
  pub within : n < length xs
  pub is_first : find p xs ≡ Some (get_or xs n d)
  pub changed : (f : X → X) → change_first p f xs ≡ set xs n (f (get_or xs n d))

module _ {X : Type 0} (p : X → Bool) (d : X) where
  -- the first element passes
  placed_here : (x : X) (xs : List X) → p x ≡ true → Placed p (x ∷ xs) 0 d
  placed_here x xs so =
      record {
        within = omega arith;
        is_first = ap (λ b. cond b (Some x) (find p xs)) so;
        changed = λ f. ap (λ b. cond b (f x ∷ xs) (x ∷ change_first p f xs)) so;
      }

  -- it does not, and one behind it is the first
  placed_later : (x : X) (xs : List X) (n : ℕ) → p x ≡ false → Placed p xs n d → Placed p (x ∷ xs) (suc n) d
  placed_later x xs n so there =
      record {
        within = omega (arith, there.within);
        is_first = rw so there.is_first;
        changed = λ f. rw (so, there.changed f);
      }

  -- a place that is found, counted from n, is that of the first element that passes
  found_from : (xs : List X) (n k : ℕ) → position_from p n xs ≡ Some k → (i : ℕ) × (k ≡ n + i) × Placed p xs i d
  found_from [] n k found = absurd (let z : ◌≡◌ {A = ℕ} 0 1 = cc in omega arith)
  found_from (x ∷ xs) n k found =
      ⊎_elim (λ so. (0, (let same : k ≡ n = cc in omega arith), placed_here x xs so))
      (λ so. let there = found_from xs (n + 1) k (rw so at found) in (suc there.0, omega (arith, there.1), placed_later x xs there.0 so there.2))
      (cases_Bool (p x))

  -- the place of the first element that passes
  pub first_placed : (xs : List X) (n : ℕ) → position p xs ≡ Some n → Placed p xs n d
  first_placed xs n found =
      let there = found_from xs 0 n (sym (position_from-zero p xs) ∙ found) in
      let same : there.0 ≡ n = omega (arith, there.1) in
      subst (λ i. Placed p xs i d) same there.2

module _ {X : Type 0} (p : X → Bool) where
  -- where no place is found, nothing passes
  none_from : (xs : List X) (n : ℕ) → position_from p n xs ≡ None → list_any p xs ≡ false
  none_from [] n none = refl
  none_from (x ∷ xs) n none =
      ⊎_elim (λ so. absurd (let z : ◌≡◌ {A = ℕ} 0 1 = cc in omega arith)) (λ so. rw so (none_from xs (n + 1) (rw so at none))) (cases_Bool (p x))

  pub none_placed : (xs : List X) → position p xs ≡ None → list_any p xs ≡ false
  none_placed xs none = none_from xs 0 (sym (position_from-zero p xs) ∙ none)
