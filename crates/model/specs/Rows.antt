-- Rows of fields, one row to a task, and the first fault among them.
-- Cited by the makings of the listed kinds.
use Rattle.std.specs.Prelude.{ℕ, suc, Bool, cond, ◌&&◌, List, [], ◌∷◌, length, Some, None, Option, nat_le}
use Rattle.std.specs.List.{slice_get}
use Rattle.model.specs.Choice.{◌or_else◌, if_some}
use Rattle.model.specs.Faults.{fault, no_task}
use Rattle.model.specs.declared.fault.Fault.{Fault}
use Rattle.model.specs.declared.fault.Part.{Part}
use Rattle.model.specs.declared.fault.Refusal.{Refusal}
use Rattle.model.specs.declared.fault.Refusal.TheVariants as refusal

-- the most tasks of a table
abbrev pub most_tasks : ℕ
most_tasks = 16

-- a number between two limits, both of them allowed
abbrev pub between : ℕ → ℕ → ℕ → Bool
between low high x = nat_le low x && nat_le x high

-- what the row of task k says, or `otherwise` for a task that has none
abbrev pub for_task : {X Y : Type 0} → List X → ℕ → Y → (X → Y) → Y
for_task rows k otherwise says = if_some (slice_get rows k) otherwise says

-- a field outside its limits
abbrev pub outside : ℕ → ℕ → ℕ → Option Refusal
outside low high x = cond (between low high x) None (Some refusal.Range)

-- what is refused about one row, as a fault of its task
abbrev pub as_fault : Option Refusal → Part → ℕ → Option Fault
as_fault None part k = None
as_fault (Some r) part k = Some (fault r part k)

-- the first row at fault, the first of them being that of task k
abbrev pub rows_fault : {X : Type 0} → (X → Option Refusal) → Part → ℕ → List X → Option Fault
rows_fault refused part k [] = None
rows_fault refused part k (row ∷ rows) = as_fault (refused row) part k or_else rows_fault refused part (suc k) rows

-- Why a part is not made of these rows: the number of tasks first, then the rows by task.
abbrev pub making_fault : {X : Type 0} → (X → Option Refusal) → Part → List X → Option Fault
making_fault refused part rows =
    cond (between 1 most_tasks (length rows)) (rows_fault refused part 0 rows) (Some (fault refusal.Size part no_task))
