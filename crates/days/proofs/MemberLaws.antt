-- Members of a list: what the tests over a list say of each, what the first that passes is, and what holds of every
-- member of a list that is longer by one or changed in one place.
use Rattle.std.proofs.Common.{◌≡◌, ℕ, Bool, true, false, List, [], ◌∷◌, ◌++◌, Some, sym, refl, subst, inl, inr, ⊎_elim, arith}
use Rattle.std.specs.List.{AllByRecursion, find, list_any}
use Rattle.std.proofs.lemmas.Bool.{cases_Bool, or_parts, false≢true, both_ways}
use Rattle.days.specs.Lists.{change_first}
use Rattle.days.proofs.Members.{In}

module _ {X : Type 0} (p : X → Bool) where
  -- the head is the first that passes, if it does
  pub first_here : (y : X) (ys : List X) (x : X) → p y ≡ true → find p (y ∷ ys) ≡ Some x → y ≡ x
  first_here y ys x passes found = let here : Some y ≡ Some x = rw passes at found in cc

  -- the first element that passes stands in the list, and passes
  pub first_in : (xs : List X) (x : X) → find p xs ≡ Some x → In x xs × (p x ≡ true)
  first_in [] x found = absurd (let z : ◌≡◌ {A = ℕ} 0 1 = cc in omega arith)
  first_in (y ∷ ys) x found =
      ⊎_elim (λ passes. let same = first_here y ys x passes found in (inl (sym same), rw same at passes))
      (λ fails. let later = first_in ys x (rw fails at found) in (inr later.0, later.1)) (cases_Bool (p y))

  -- where an element passes, the first that does is found
  pub any_first : (xs : List X) → list_any p xs ≡ true → (x : X) × (find p xs ≡ Some x)
  any_first [] some = absurd (false≢true some)
  any_first (y ∷ ys) some =
      ⊎_elim (λ passes. (y, rw passes)) (λ fails. rw fails (any_first ys (rw fails at some))) (cases_Bool (p y))

  -- where one passes, a member does
  pub any_some : (xs : List X) → list_any p xs ≡ true → (x : X) × In x xs × (p x ≡ true)
  any_some xs some =
      let one = any_first xs some in
      let there = first_in xs one.0 one.1 in
      (one.0, there.0, there.1)

  -- where none passes, no member does
  pub any_none : (xs : List X) → list_any p xs ≡ false → (x : X) → In x xs → p x ≡ false
  any_none [] none x member = absurd member
  any_none (y ∷ ys) none x member =
      let both = or_parts (p y) (list_any p ys) none in
      ⊎_elim (λ here. rw here both.0) (any_none ys both.1 x) member

  -- where no member passes, none does
  pub none_any : (xs : List X) → ((x : X) → In x xs → p x ≡ false) → list_any p xs ≡ false
  none_any [] each = refl
  none_any (y ∷ ys) each = rw (each y (inl refl)) (none_any ys (λ x there. each x (inr there)))

  -- where a member passes, one does
  pub some_any : (xs : List X) (x : X) → In x xs → p x ≡ true → list_any p xs ≡ true
  some_any xs x member passes =
      ⊎_elim (λ some. some) (λ none. absurd (both_ways (p x) (any_none xs none x member) passes)) (cases_Bool (list_any p xs))

module _ {X : Type 0} where
  -- one more at the end is a member
  pub push_new : (xs : List X) (x : X) → In x (xs ++ x ∷ [])
  push_new [] x = inl refl
  push_new (y ∷ ys) x = inr (push_new ys x)

  -- what was made of the first that passes is a member
  pub changed_new : (p : X → Bool) (f : X → X) (xs : List X) (x : X) → find p xs ≡ Some x → In (f x) (change_first p f xs)
  changed_new p f [] x found = absurd (let z : ◌≡◌ {A = ℕ} 0 1 = cc in omega arith)
  changed_new p f (y ∷ ys) x found =
      ⊎_elim (λ passes. let same = first_here p y ys x passes found in rw passes (inl (rw same refl)))
      (λ fails. rw fails (inr (changed_new p f ys x (rw fails at found)))) (cases_Bool (p y))

  module _ (P : X → Type 0) where
    -- what holds of the new one, and of every member before, holds of every member of the longer list
    pub each_pushed : (xs : List X) (x : X) → P x → ((y : X) → In y xs → P y) → (y : X) → In y (xs ++ x ∷ []) → P y
    each_pushed [] x new old y member = ⊎_elim (λ here. subst P (sym here) new) (λ none. absurd none) member
    each_pushed (z ∷ zs) x new old y member =
        ⊎_elim (λ here. old y (inl here)) (each_pushed zs x new (λ y there. old y (inr there)) y) member

    -- what holds of what was made of the first that passes, and of every member before, holds of every member of the changed list
    pub each_changed : (p : X → Bool) (f : X → X) (xs : List X) (x : X) → find p xs ≡ Some x → P (f x) → ((y : X) → In y xs → P y)
        → (y : X) → In y (change_first p f xs) → P y
    each_changed p f [] x found new old y member = absurd member
    each_changed p f (z ∷ zs) x found new old y member =
        ⊎_elim
        (λ passes. let same = first_here p z zs x passes found in
        ⊎_elim (λ here. subst P (sym here) (rw same new)) (λ later. old y (inr later)) (rw passes at member))
        (λ fails. ⊎_elim (λ here. old y (inl here))
        (each_changed p f zs x (rw fails at found) new (λ y there. old y (inr there)) y) (rw fails at member))
        (cases_Bool (p z))

    -- what every change keeps, and holds of every member before, holds of every member of a changed list
    pub each_kept : (p : X → Bool) (f : X → X) → ((x : X) → P x → P (f x)) → (xs : List X) → ((y : X) → In y xs → P y)
        → (y : X) → In y (change_first p f xs) → P y
    each_kept p f keeps [] old y member = absurd member
    each_kept p f keeps (z ∷ zs) old y member =
        ⊎_elim
        (λ passes. ⊎_elim (λ here. subst P (sym here) (keeps z (old z (inl refl)))) (λ later. old y (inr later)) (rw passes at member))
        (λ fails. ⊎_elim (λ here. old y (inl here)) (each_kept p f keeps zs (λ y there. old y (inr there)) y) (rw fails at member))
        (cases_Bool (p z))

    -- what holds of every member holds of all
    pub all_from_in : (xs : List X) → ((x : X) → In x xs → P x) → AllByRecursion P xs
    all_from_in [] each = tt
    all_from_in (y ∷ ys) each = (each y (inl refl), all_from_in ys (λ x there. each x (inr there)))

    -- what holds of all holds of every member
    pub in_from_all : (xs : List X) → AllByRecursion P xs → (x : X) → In x xs → P x
    in_from_all [] every x member = absurd member
    in_from_all (y ∷ ys) every x member = ⊎_elim (λ here. rw here every.0) (in_from_all ys every.1 x) member
