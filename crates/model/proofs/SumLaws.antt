-- Sums and maxima over 0 .. n − 1: their steps, how they compare, and their bounds.
use Rattle.std.proofs.Common.{◌≡◌, ℕ, zero, suc, ◌+◌, ◌*◌, ◌<◌, ◌≤◌, max, Bool, true, false, refl, ⊎_elim, add-one, arith}
use Rattle.std.proofs.lemmas.Bool.{cases_eq, false≢true}
use Rattle.model.specs.Sums.{when, total, greatest}

-- what a test lets through is at most a number, if it is so where the test passes
pub when_below : (b : Bool) (m n : ℕ) → (b ≡ true → m ≤ n) → when b m ≤ n
when_below true m n below = below refl
when_below false m n below = omega arith

-- a test that implies another lets no more through, of a number that is no greater
pub when_implies : (b c : Bool) (m n : ℕ) → (b ≡ true → c ≡ true) → (b ≡ true → m ≤ n) → when b m ≤ when c n
when_implies true true m n passes le = le refl
when_implies true false m n passes le = absurd (false≢true (passes refl))
when_implies false c m n passes le = omega arith

-- a test lets no more through of a number that is no greater
pub when_rises : (b : Bool) (m n : ℕ) → m ≤ n → when b m ≤ when b n
when_rises b m n le = when_implies b b m n (λ passes. passes) (λ _. le)

-- the sum of nothing
pub total_zero : (f : ℕ → ℕ) → total 0 f ≡ 0
unfolding total
total_zero f = refl

-- a sum takes one more term at its end
pub total_more : (n : ℕ) (f : ℕ → ℕ) → total (n + 1) f ≡ total n f + f n
unfolding total
total_more n f = rw add-one

-- the greatest of nothing
pub greatest_zero : (f : ℕ → ℕ) → greatest 0 f ≡ 0
unfolding greatest
greatest_zero f = refl

-- a maximum takes one more number at its end
pub greatest_more : (n : ℕ) (f : ℕ → ℕ) → greatest (n + 1) f ≡ max (greatest n f) (f n)
unfolding greatest
greatest_more n f = rw add-one

-- a sum of terms none of which is greater is no greater
pub total_le : (n : ℕ) (f g : ℕ → ℕ) → ((k : ℕ) → k < n → f k ≤ g k) → total n f ≤ total n g
unfolding total
total_le zero f g each = omega arith
total_le (suc n) f g each = omega (arith, total_le n f g (omega arith))

-- a sum of no more terms, none of which is greater, is no greater
pub total_longer : (n m : ℕ) (f g : ℕ → ℕ) → n ≤ m → ((k : ℕ) → k < n → f k ≤ g k) → total n f ≤ total m g
unfolding total
total_longer zero m f g longer each = omega arith
total_longer (suc n) zero f g longer each = omega arith
total_longer (suc n) (suc m) f g longer each =
    ⊎_elim (λ same. rw (← same) (total_le (suc n) f g each))
    (λ other. omega (arith, total_longer (suc n) m f g (omega arith) each)) (cases_eq n m)

-- n terms of at most b sum to at most n * b
pub total_bound : (n b : ℕ) (f : ℕ → ℕ) → ((k : ℕ) → k < n → f k ≤ b) → total n f ≤ n * b
unfolding total
total_bound zero b f each = omega arith
total_bound (suc n) b f each = omega (arith, total_bound n b f (omega arith))

-- the greatest of numbers of at most b is at most b
pub greatest_below : (n b : ℕ) (f : ℕ → ℕ) → ((k : ℕ) → k < n → f k ≤ b) → greatest n f ≤ b
unfolding greatest
greatest_below zero b f each = omega arith
greatest_below (suc n) b f each = omega (arith, greatest_below n b f (omega arith))

-- no number is above the greatest
pub greatest_at : (n k : ℕ) (f : ℕ → ℕ) → k < n → f k ≤ greatest n f
unfolding greatest
greatest_at zero k f below = omega arith
greatest_at (suc n) k f below =
    ⊎_elim (λ last. rw last (omega arith)) (λ other. omega (arith, greatest_at n k f (omega arith))) (cases_eq k n)

-- the greatest of no more numbers, none of which is greater, is no greater
pub greatest_longer : (n m : ℕ) (f g : ℕ → ℕ) → n ≤ m → ((k : ℕ) → k < n → f k ≤ g k) → greatest n f ≤ greatest m g
greatest_longer n m f g longer each =
    greatest_below n (greatest m g) f (λ k below. omega (arith, each k below, greatest_at m k g (omega arith)))

-- the greatest of as many numbers, none of which is greater, is no greater
pub greatest_le : (n : ℕ) (f g : ℕ → ℕ) → ((k : ℕ) → k < n → f k ≤ g k) → greatest n f ≤ greatest n g
greatest_le n f g each = greatest_longer n n f g (omega arith) each

-- where no term is greater, and one is less by some slack, the sum is less by it
pub total_slack : (n i slack : ℕ) (f g : ℕ → ℕ) → i < n → ((k : ℕ) → k < n → f k ≤ g k) → f i + slack ≤ g i → total n f + slack ≤ total n g
unfolding total
total_slack zero i slack f g below each less = omega arith
total_slack (suc n) i slack f g below each less =
    ⊎_elim (λ last. let less-there : f n + slack ≤ g n = rw last less in omega (arith, total_le n f g (omega arith)))
    (λ other. omega (arith, total_slack n i slack f g (omega arith) (omega arith) less)) (cases_eq n i)
