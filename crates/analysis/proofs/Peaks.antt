-- A maximum that a loop runs up.
use Rattle.std.proofs.Common.{◌≡◌, ℕ, ◌+◌, max, arith}
use Rattle.model.specs.Sums.{greatest}
use Rattle.model.proofs.SumLaws.{greatest_more}

-- one number more
pub peak_more : (f : ℕ → ℕ) (n most next x : ℕ) → most ≡ greatest n f → next ≡ max most x → x ≡ f n → next ≡ greatest (n + 1) f
peak_more f n most next x so_far taken is = omega (arith, greatest_more n f)
