-- Rows of fields, one row to a task: a task that the part has has a row, any other has none, and no row of a making
-- without fault is refused.
use Rattle.std.proofs.Common.{◌≡◌, ℕ, zero, suc, ◌<◌, ◌≤◌, Bool, true, false, cond, List, [], ◌∷◌, length, Some, None, Option, IsNone, refl, arith}
use Rattle.std.specs.List.{slice_get}
use Rattle.std.proofs.lemmas.Option.{slice_get_past}
use Rattle.std.proofs.lemmas.Bool.Decides.{nat_tests}
use Rattle.model.specs.Choice.{◌or_else◌}
use Rattle.model.specs.Rows.{for_task, outside, between, as_fault, rows_fault, making_fault, most_tasks}
use Rattle.model.specs.declared.fault.Part.{Part}
use Rattle.model.specs.declared.fault.Refusal.{Refusal}

-- where the first of two faults is none, each of the two is none
pub neither : {X : Type 0} (first later : Option X) → (first or_else later) ≡ None → (first ≡ None) × (later ≡ None)
neither None later e = (refl, e)
neither (Some f) later e = (e, cc)

-- what a ghost field states (`IsNone`) is the equation that the laws take
pub none_found : {X : Type 0} (found : Option X) → IsNone found → found ≡ None
none_found None none = refl
none_found (Some f) none = cc

-- the row of a task that the part has
pub row_of : {X : Type 0} (rows : List X) (k : ℕ) → k < length rows → (row : X) × (slice_get rows k ≡ Some row)
row_of [] k within = absurd (omega arith)
row_of (x ∷ xs) zero within = (x, refl)
row_of (x ∷ xs) (suc k) within = row_of xs k (omega arith)

-- what the rows say of a task that the part does not have
pub for_absent : {X Y : Type 0} (rows : List X) (k : ℕ) (otherwise : Y) (says : X → Y) → length rows ≤ k → for_task rows k otherwise says ≡ otherwise
for_absent rows k otherwise says past = rw (slice_get_past rows k past)

-- nothing is refused about a row that gives no fault
unfaulted : (r : Option Refusal) (part : Part) (k : ℕ) → as_fault r part k ≡ None → r ≡ None
unfaulted None part k e = refl
unfaulted (Some r) part k e = cc

-- where what a test refuses or passes on is none, it has passed, and what it passed on is none
pub passed : {X : Type 0} (test : Bool) (under : Option X) (found : X) → cond test under (Some found) ≡ None → (test ≡ true) × (under ≡ None)
passed true under found none = (refl, none)
passed false under found none = (cc, cc)

module _ {X : Type 0} (refused : X → Option Refusal) (part : Part) where
  -- no row of rows without fault is refused
  pub rows_accepted : (n : ℕ) (rows : List X) → rows_fault refused part n rows ≡ None → (k : ℕ) (row : X) → slice_get rows k ≡ Some row → refused row ≡ None
  rows_accepted n [] none k row at = cc
  rows_accepted n (x ∷ xs) none zero row at =
      let found : x ≡ row = cc in
      rw (← found) (unfaulted (refused x) part n (neither _ _ none).0)
  rows_accepted n (x ∷ xs) none (suc k) row at = rows_accepted (suc n) xs (neither _ _ none).1 k row at

  -- no row of a making without fault is refused
  pub making_accepted : (rows : List X) → making_fault refused part rows ≡ None → (k : ℕ) (row : X) → slice_get rows k ≡ Some row → refused row ≡ None
  making_accepted rows none k row at = rows_accepted 0 rows (passed (between 1 most_tasks (length rows)) _ _ none).1 k row at

-- a field that is not refused lies between its limits
pub inside : (low high x : ℕ) → outside low high x ≡ None → (low ≤ x) × (x ≤ high)
inside low high x none = grind (arith, nat_tests)
