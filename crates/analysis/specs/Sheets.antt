-- The columns of a sheet, and what they say of tasks that all keep their deadlines.
-- Cited by the contracts below judging.
use Rattle.std.specs.Prelude.{◌≡◌, ℕ, ◌<◌, List, length, Some, None, Option, slice_index}
use Rattle.model.specs.Analysis.{Parts, window, bound}
use Rattle.model.specs.Tables.{missed, window_length, first_fault}
use Rattle.model.specs.declared.fault.Fault.{Fault}

-- task k keeps its deadline, with this window and this bound
pub record Timely (m : Parts) (k deadline ticks most : ℕ) : Type 0 where
  pub by_window : window m k ≡ Some ticks
  pub by_bound : most ≡ bound m k
  pub kept : missed m k deadline ≡ None

-- the first task that misses its deadline
abbrev pub first_missed : Parts → List ℕ → ℕ → Option Fault
first_missed m deadlines n = first_fault n (λ k. missed m k (slice_index deadlines k))

-- the numbers of the first n tasks
pub record Filled (f : ℕ → ℕ) (n : ℕ) (column : List ℕ) : Type 0 where
  pub full : length column ≡ n
  pub each : (k : ℕ) → k < n → slice_index column k ≡ f k

-- the first n tasks keep their deadlines, and these are their windows and bounds
pub record KeptSo (m : Parts) (deadlines : List ℕ) (n : ℕ) (windows bounds : List ℕ) : Type 0 where
  pub clear : first_missed m deadlines n ≡ None
  pub windows_so : Filled (window_length m) n windows
  pub bounds_so : Filled (bound m) n bounds
