-- What the counts of steps are where the making gives no fault, without the maxima of the definition.
-- Cited by the making of steps.
use Rattle.std.specs.Prelude.{◌≡◌, ℕ, ◌/◌, ◌<◌, ◌≤◌, List, length, drop, slice_index}
use Rattle.kinds.specs.ArrivalKinds.{stepped, steps_row, steps_count}
use Rattle.kinds.specs.Numbers.{used}

abbrev pub PlainSteps : List ℕ → Type 0
PlainSteps numbers =
    (k d : ℕ) → k < length numbers / 9 → 1 ≤ d
    → (stepped numbers).count k d ≡ steps_count (slice_index (steps_row numbers k) 0) (used (drop 1 (steps_row numbers k))) d
