-- When a table is lighter than another, and what is promised of it.
-- Cited by the contract of judging.
use Rattle.std.specs.Prelude.{◌≡◌, ℕ, ◌-◌, ◌<◌, ◌≤◌, List, length, None, Option, slice_index}
use Rattle.model.specs.Analysis.{tasks, bound, longest_window}
use Rattle.model.specs.Tables.{Table, Lawful, Accepted}
use Rattle.model.specs.declared.fault.Fault.{Fault}

-- Each task of the lighter table releases no more jobs, which cost no more, hold the processor no longer and have no
-- longer tail; deadlines and order are the same.
pub record Lighter (light heavy : Table) : Type 0 where
  pub deadlines : light.deadlines ≡ heavy.deadlines
  pub order : light.parts.order ≡ heavy.parts.order
  pub arrivals_tasks : light.parts.arrivals.tasks ≡ heavy.parts.arrivals.tasks
  pub sections_tasks : light.parts.sections.tasks ≡ heavy.parts.sections.tasks
  pub count : (k d : ℕ) → k < tasks light.parts → d ≤ longest_window → light.parts.arrivals.count k d ≤ heavy.parts.arrivals.count k d
  pub longest : (k : ℕ) → k < tasks light.parts → light.parts.sections.longest k ≤ heavy.parts.sections.longest k
  pub tail : (k : ℕ) → k < tasks light.parts → light.parts.sections.tail k ≤ heavy.parts.sections.tail k
  pub rest : (k : ℕ) → k < tasks light.parts → light.parts.sections.cost k - light.parts.sections.tail k ≤ heavy.parts.sections.cost k - heavy.parts.sections.tail k

-- A table lighter than an accepted one is accepted, and none of its bounds is larger: of a table judged with this
-- verdict and these bounds, and of every lawful heavier one, whatever parts it is made of.
abbrev pub NoWorseThanHeavier : Table → Option Fault → List ℕ → Type 0
NoWorseThanHeavier light found bounds =
    (heavy : Table) → Lawful heavy.parts → Accepted heavy → Lighter light heavy
    → (found ≡ None) × ((k : ℕ) → k < length light.deadlines → slice_index bounds k ≤ bound heavy.parts k)
