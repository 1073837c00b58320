use Rattle.std.proofs.Common.{◌≡◌, ℕ, ◌+◌, ◌-◌, ◌/◌, ◌%◌, ◌<◌, ◌≤◌, ⊎_elim, arith}
use Rattle.std.specs.Int.{div_ceil}
use Rattle.std.proofs.lemmas.Nat.{div_below, le-div}
use Rattle.std.proofs.lemmas.Bool.{cases_lt}
use Rattle.kinds.specs.ArrivalKinds.{rounded_up}
use Rattle.arrivals.proofs.separations.rounded.Goals as goal

-- rounding up after the division and before it
same : (d n : ℕ) → 1 ≤ n → div_ceil d n ≡ rounded_up d n
same d n positive =
    ⊎_elim
    (λ (even : d % n < 1).
    let low = le-div (d / n) (d + (n - 1)) n positive (omega arith) in
    let high = div_below (d + (n - 1)) n (d / n + 1) positive (omega arith) in
    omega arith)
    (λ (over : 1 ≤ d % n).
    let low = le-div (d / n + 1) (d + (n - 1)) n positive (omega arith) in
    let high = div_below (d + (n - 1)) n (d / n + 2) positive (omega arith) in
    omega arith)
    (cases_lt (d % n) 1)

pub returns : goal.returns
returns c = let ceil = same c.args.length c.args.separation c.requires in cc
