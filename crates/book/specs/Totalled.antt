-- The totals of a closed book: of tasks 0 to 15, how many jobs ended and the longest time that one took.
-- Cited by closing.
use Rattle.std.specs.Prelude.{ℕ, ◌≤◌, List, Option, slice_index}
use Rattle.model.specs.Analysis.{Parts, bound}
use Rattle.model.specs.Rows.{most_tasks}
use Rattle.model.specs.Tables.{Table, Accepted}
use Rattle.model.specs.declared.fault.Fault.{Fault}
use Rattle.days.specs.Days.{Event, Led, Reading, reading}
use Rattle.days.specs.Promise.{finished, longest_time}
use Rattle.days.specs.Rules.{State}
use Rattle.analysis.specs.Sheets.{Filled}
use Rattle.book.specs.Columns.{finished_in, longest_in}
use Rattle.book.specs.declared.totals.Totals.{Totals}

-- the totals are those of a day
pub record Totalled (day : Reading) (totals : Totals) : Type 0 where
  pub finished_so : Filled (finished day) most_tasks (finished_in totals)
  pub longest_so : Filled (longest_time day) most_tasks (longest_in totals)

-- They are those read off every day that leads to the state.
abbrev pub OfEveryDay : Option Fault → Parts → State → Totals → Type 0
OfEveryDay verdict m s totals = (day : List Event) → Led verdict m day s → Totalled (reading day) totals

-- If the table is accepted, and a day leads to the state, no job took longer than the bound of its task.
abbrev pub WithinBounds : Table → Option Fault → State → Totals → Type 0
WithinBounds t verdict s totals =
    Accepted t → (day : List Event) → Led verdict t.parts day s → (k : ℕ) → slice_index (longest_in totals) k ≤ bound t.parts k
