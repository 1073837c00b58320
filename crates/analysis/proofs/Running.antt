-- A sum that a loop over the tasks runs up, on top of what it starts from: the term of each task that passes a test.
use Rattle.std.proofs.Common.{◌≡◌, ℕ, ◌+◌, ◌*◌, ◌≤◌, Bool, true, false, add-mul, one-mul, arith}
use Rattle.model.specs.Sums.{when, total}
use Rattle.model.proofs.SumLaws.{total_zero, total_more}

-- the sum over the first n tasks, and how large it can be where no term is above `most`
abbrev pub Running : (ℕ → Bool) → (ℕ → ℕ) → ℕ → ℕ → ℕ → ℕ → Type 0
Running test term base most n sum = (sum ≡ base + total n (λ o. when (test o) (term o))) × (sum ≤ base + n * most)

module _ (test : ℕ → Bool) (term : ℕ → ℕ) (base most : ℕ) where
  pub running_none : (sum : ℕ) → sum ≡ base → Running test term base most 0 sum
  running_none sum start = (omega (arith, total_zero (λ o. when (test o) (term o))), omega arith)

  more : (n sum next x : ℕ) → Running test term base most n sum → next ≡ sum + x → x ≡ when (test n) (term n) → x ≤ most → Running test term base most (n + 1) next
  more n sum next x so_far added is small =
      (omega (arith, total_more n (λ o. when (test o) (term o)), so_far.0), omega (arith, add-mul n 1 most, one-mul most, so_far.1))

  -- a task that passes the test adds its term
  pub running_taken : (n sum next x : ℕ) → Running test term base most n sum → next ≡ sum + x → test n ≡ true → x ≡ term n → x ≤ most → Running test term base most (n + 1) next
  running_taken n sum next x so_far added passes is small = more n sum next x so_far added (rw passes is) small

  -- and one that does not, nothing
  pub running_passed : (n sum next : ℕ) → Running test term base most n sum → next ≡ sum → test n ≡ false → Running test term base most (n + 1) next
  running_passed n sum next so_far same fails = more n sum next 0 so_far (omega arith) (rw fails) (omega arith)
