-- Sums and counts over the elements of a list: what a change of one makes of them, how they compare, and what they say
-- of the members.
use Rattle.std.proofs.Common.{◌≡◌, ℕ, ◌+◌, ◌*◌, ◌≤◌, Bool, true, false, cond, List, [], ◌∷◌, Some, sym, refl, ◌∙◌, inl, inr, ⊎_elim, mul-add, arith}
use Rattle.std.specs.List.{count_by, find, sum_by}
use Rattle.std.proofs.lemmas.Bool.{cases_Bool}
use Rattle.std.proofs.lemmas.List.Sums.{sum_by-cons}
use Rattle.days.specs.Lists.{change_first}
use Rattle.days.proofs.Members.{In}
use Rattle.days.proofs.MemberLaws.{first_here}

-- 1 for what passes, and else 0
abbrev pub one_if : Bool → ℕ
one_if b = cond b 1 0

-- a test counts at most once
pub one_if_most : (b : Bool) → one_if b ≤ 1
one_if_most true = omega arith
one_if_most false = omega arith

-- and no more than one that it implies
one_if_implies : (b c : Bool) → (b ≡ true → c ≡ true) → one_if b ≤ one_if c
one_if_implies true c implies = rw (implies refl) (omega arith)
one_if_implies false c implies = omega arith

module _ {X : Type 0} where
  -- a change of the first element that passes moves the sum by what it makes of its term
  pub sum_changed : (f : X → ℕ) (p : X → Bool) (h : X → X) (xs : List X) (x : X) → find p xs ≡ Some x → sum_by f (change_first p h xs) + f x ≡ sum_by f xs + f (h x)
  sum_changed f p h [] x found = absurd (let z : ◌≡◌ {A = ℕ} 0 1 = cc in omega arith)
  sum_changed f p h (y ∷ ys) x found =
      ⊎_elim (λ passes. let same = first_here p y ys x passes found in rw passes (rw same (omega (arith, sum_by-cons f (h x) ys, sum_by-cons f x ys))))
      (λ fails. let later = sum_changed f p h ys x (rw fails at found) in rw fails (omega (arith, sum_by-cons f y (change_first p h ys), sum_by-cons f y ys)))
      (cases_Bool (p y))

  -- a sum of terms none of which is greater is no greater
  pub sum_le : (f g : X → ℕ) (xs : List X) → ((x : X) → In x xs → f x ≤ g x) → sum_by f xs ≤ sum_by g xs
  sum_le f g [] each = omega arith
  sum_le f g (y ∷ ys) each =
      omega (arith, each y (inl refl), sum_le f g ys (λ x there. each x (inr there)), sum_by-cons f y ys, sum_by-cons g y ys)

  -- where no term is greater, and that of one member is less by some slack, the sum is less by it
  pub sum_slack : (f g : X → ℕ) (slack : ℕ) (xs : List X) (x : X) → In x xs → ((y : X) → In y xs → f y ≤ g y) → f x + slack ≤ g x → sum_by f xs + slack ≤ sum_by g xs
  sum_slack f g slack [] x member each less = absurd member
  sum_slack f g slack (y ∷ ys) x (inl here) each less =
      let less-there : f y + slack ≤ g y = rw here at less in
      omega (arith, sum_le f g ys (λ z there. each z (inr there)), sum_by-cons f y ys, sum_by-cons g y ys)
  sum_slack f g slack (y ∷ ys) x (inr there) each less =
      omega (arith, each y (inl refl), sum_slack f g slack ys x there (λ z later. each z (inr later)) less, sum_by-cons f y ys, sum_by-cons g y ys)

  -- terms of 0 sum to 0
  pub sum_none : (f : X → ℕ) (xs : List X) → ((x : X) → In x xs → f x ≡ 0) → sum_by f xs ≡ 0
  sum_none f [] each = refl
  sum_none f (y ∷ ys) each = omega (arith, each y (inl refl), sum_none f ys (λ x there. each x (inr there)), sum_by-cons f y ys)

  -- a factor of every term is one of the sum
  pub sum_scaled : (c : ℕ) (f : X → ℕ) (xs : List X) → sum_by (λ x. c * f x) xs ≡ c * sum_by f xs
  sum_scaled c f [] = omega arith
  sum_scaled c f (y ∷ ys) = rw (sum_by-cons (λ x. c * f x) y ys, sum_by-cons f y ys) (omega (arith, sum_scaled c f ys, mul-add c (f y) (sum_by f ys)))

  -- no more pass a test that implies another
  pub count_le : (p q : X → Bool) (xs : List X) → ((x : X) → In x xs → p x ≡ true → q x ≡ true) → count_by p xs ≤ count_by q xs
  count_le p q xs implies = sum_le (λ x. one_if (p x)) (λ x. one_if (q x)) xs (λ x member. one_if_implies (p x) (q x) (implies x member))

  -- at least one passes if a member does
  pub count_some : (p : X → Bool) (xs : List X) (x : X) → In x xs → p x ≡ true → 1 ≤ count_by p xs
  count_some p [] x member passes = absurd member
  count_some p (y ∷ ys) x (inl here) passes =
      let passed : p y ≡ true = rw here at passes in
      let one : one_if (p y) ≡ 1 = rw passed refl in
      omega (arith, sum_by-cons (λ z. one_if (p z)) y ys)
  count_some p (y ∷ ys) x (inr there) passes = omega (arith, count_some p ys x there passes, sum_by-cons (λ z. one_if (p z)) y ys)

  -- at most one passes, so not both the first and a later member
  not_both : (p : X → Bool) (z : X) (zs : List X) (y : X) → count_by p (z ∷ zs) ≤ 1 → p z ≡ true → In y zs → p y ≡ true → ⊥
  not_both p z zs y few first later too =
      let head : one_if (p z) ≡ 1 = rw first refl in
      omega (arith, count_some p zs y later too, sum_by-cons (λ x. one_if (p x)) z zs)

  -- of two members that pass, where at most one does, both are the same
  pub only_one : (p : X → Bool) (xs : List X) (x y : X) → count_by p xs ≤ 1 → In x xs → In y xs → p x ≡ true → p y ≡ true → x ≡ y
  only_one p [] x y few member other passes too = absurd member
  only_one p (z ∷ zs) x y few (inl here) (inl also) passes too = here ∙ sym also
  only_one p (z ∷ zs) x y few (inl here) (inr later) passes too = absurd (not_both p z zs y few (rw here at passes) later too)
  only_one p (z ∷ zs) x y few (inr there) (inl also) passes too = absurd (not_both p z zs x few (rw also at too) there passes)
  only_one p (z ∷ zs) x y few (inr there) (inr later) passes too =
      only_one p zs x y (omega (arith, sum_by-cons (λ u. one_if (p u)) z zs)) there later passes too
