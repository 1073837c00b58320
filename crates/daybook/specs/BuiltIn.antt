-- The sheet of the built-in table: both windows are 7 ticks, and the bounds are 3 and 6.
-- Cited by the function that makes and judges it.
use Rattle.std.specs.Prelude.{◌≡◌, ℕ, List, [], ◌∷◌, map, None, Option, slice_index}
use Rattle.model.specs.declared.fault.Fault.{Fault}

-- the numbers of tasks 0 and 1 in a column
abbrev pub first_two : List ℕ → List ℕ
first_two column = map (λ k. slice_index column k) (0 ∷ 1 ∷ [])

pub record BuiltInSheet (found : Option Fault) (windows bounds : List ℕ) : Type 0 where
  pub accepted : found ≡ None
  pub windows_so : first_two windows ≡ 7 ∷ 7 ∷ []
  pub bounds_so : first_two bounds ≡ 3 ∷ 6 ∷ []
