-- What a draft means, the verdict on it, and what a judged table holds.
-- Cited by the contract of judging.
use Rattle.std.specs.Prelude.{◌≡◌, ℕ, zero, suc, ◌<◌, ◌≤◌, Bool, cond, ◌&&◌, List, length, Some, None, Option, ◌==◌, nat_le, nat_lt, slice_index}
use Rattle.model.specs.Choice.{◌or_else◌, if_some}
use Rattle.model.specs.Analysis.{Parts, window, bound}
use Rattle.model.specs.Arrivals.{LawfulArrivals}
use Rattle.model.specs.Faults.{fault, no_task}
use Rattle.model.specs.Order.{LawfulOrder}
use Rattle.model.specs.Rows.{between, most_tasks, rows_fault, outside}
use Rattle.model.specs.Sections.{LawfulSections}
use Rattle.model.specs.Sums.{when}
use Rattle.model.specs.declared.fault.Fault.{Fault}
use Rattle.model.specs.declared.fault.Part.TheVariants.{Table as table}
use Rattle.model.specs.declared.fault.Refusal.TheVariants.{Size, Overload, Late}

-- Deadlines and three parts.
pub record Table : Type 0 where
  pub deadlines : List ℕ
  pub parts : Parts

pub record Lawful (m : Parts) : Type 0 where
  pub arrivals : LawfulArrivals m.arrivals
  pub order : LawfulOrder m.order
  pub sections : LawfulSections m.sections

-- the longest deadline
abbrev pub most_deadline : ℕ
most_deadline = 100000

-- the first fault of tasks 0 .. n − 1
unfoldable pub first_fault : ℕ → (ℕ → Option Fault) → Option Fault
first_fault zero at = None
first_fault (suc n) at = first_fault n at or_else at n

-- why task k misses a deadline: it has no window, or its bound is above the deadline
abbrev pub missed : Parts → ℕ → ℕ → Option Fault
missed m k deadline =
    if_some (window m k) (Some (fault Overload table k)) (λ _. cond (nat_le (bound m k) deadline) None (Some (fault Late table k)))

-- a window as it stands on the sheet
abbrev pub window_length : Parts → ℕ → ℕ
window_length m k = if_some (window m k) 0 (λ w. w)

module _ (t : Table) where
  -- one to sixteen tasks, the same in every part
  abbrev pub sized : Bool
  sized =
      let n = length t.deadlines in
      let m = t.parts in
      between 1 most_tasks n && (m.arrivals.tasks == n && (m.order.tasks == n && m.sections.tasks == n))

  abbrev pub size_fault : Option Fault
  size_fault = cond sized None (Some (fault Size table no_task))

  abbrev pub deadlines_fault : Option Fault
  deadlines_fault = rows_fault (outside 1 most_deadline) table 0 t.deadlines

  abbrev pub task_fault : ℕ → Option Fault
  task_fault k = missed t.parts k (slice_index t.deadlines k)

  -- The verdict: the first fault, of the size, then of the deadlines, then of the tasks one by one.
  unfoldable pub verdict : Option Fault
  verdict = size_fault or_else (deadlines_fault or_else first_fault (length t.deadlines) task_fault)

  abbrev pub Accepted : Type 0
  Accepted = verdict ≡ None

  -- a number of task k on the sheet: 0 for a task that the table does not have, and throughout a refused table
  abbrev pub on_sheet : (ℕ → ℕ) → ℕ → ℕ
  on_sheet f k = if_some verdict (when (nat_lt k (length t.deadlines)) (f k)) (λ _. 0)

  abbrev pub sheet_window : ℕ → ℕ
  sheet_window = on_sheet (window_length t.parts)

  abbrev pub sheet_bound : ℕ → ℕ
  sheet_bound = on_sheet (bound t.parts)

  -- What a judged table holds.
  pub record JudgedSo (found : Option Fault) (windows bounds : List ℕ) : Type 0 where
    pub by_verdict : found ≡ verdict
    pub by_window : (k : ℕ) → slice_index windows k ≡ sheet_window k
    pub by_bound : (k : ℕ) → slice_index bounds k ≡ sheet_bound k

-- one to sixteen tasks, and the same number in every part
pub record Sized (t : Table) : Type 0 where
  pub some : 1 ≤ length t.deadlines
  pub few : length t.deadlines ≤ most_tasks
  pub arrivals : t.parts.arrivals.tasks ≡ length t.deadlines
  pub order : t.parts.order.tasks ≡ length t.deadlines
  pub sections : t.parts.sections.tasks ≡ length t.deadlines

-- task k has a window, and its bound is within its deadline
pub record Keeps (t : Table) (k : ℕ) : Type 0 where
  -- the length of its window
  pub ticks : ℕ
  pub found : window t.parts k ≡ Some ticks
  pub in_time : bound t.parts k ≤ slice_index t.deadlines k

-- What it takes to be accepted: the size, allowed deadlines, and every task in time.
pub record Accepts (t : Table) : Type 0 where
  pub size : Sized t
  pub deadlines : deadlines_fault t ≡ None
  pub each : (k : ℕ) → k < length t.deadlines → Keeps t k
