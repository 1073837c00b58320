-- What the sheet says of a task of an accepted table, in the words of the analysis and without a search.
-- Cited by the contract of judging.
use Rattle.std.specs.Prelude.{◌≡◌, ℕ, ◌-◌, ◌<◌, ◌≤◌, List, length, None, Option, slice_index}
use Rattle.model.specs.Analysis.{Parts, load, need, ending, longest_window}
use Rattle.model.specs.Least.{LeastMet}
use Rattle.model.specs.Tables.{Table}
use Rattle.model.specs.declared.fault.Fault.{Fault}

-- a job of task i released A ticks into a window of w ticks is ready at d, the least length that its need fills
abbrev pub Ready : Parts → ℕ → ℕ → ℕ → ℕ → Type 0
Ready m i w A d = LeastMet (need m i A) w d

pub record Sealed (m : Parts) (i w b : ℕ) : Type 0 where
  -- the window is the least length that the load fills
  pub window : LeastMet (load m i) longest_window w
  -- every offset of the window is ready in it, and none at which a job can stand gives more than the bound
  pub most : (A : ℕ) → A < w → (d : ℕ) × Ready m i w A d × (A < d → ending m i d - A ≤ b)
  -- one of them gives the bound
  pub reached : (A : ℕ) × (d : ℕ) × (A < w) × Ready m i w A d × (A < d) × (b ≡ ending m i d - A)

-- An accepted table's sheet: each task's window and bound.
abbrev pub SealedSheet : Table → Option Fault → List ℕ → List ℕ → Type 0
SealedSheet t found windows bounds =
    found ≡ None → (k : ℕ) → k < length t.deadlines → Sealed t.parts k (slice_index windows k) (slice_index bounds k)
