-- The promise: no day is worse than the sheet. And the totals of a day.
-- Cited by opening and by closing.
use Rattle.std.specs.Prelude.{ℕ, ◌-◌, ◌<◌, ◌≤◌, Bool, ◌&&◌, List, Some, None, is_some, Option, ◌==◌}
use Rattle.std.specs.List.{AllByRecursion, count_by}
use Rattle.model.specs.Analysis.{bound}
use Rattle.model.specs.Choice.{if_some}
use Rattle.model.specs.Lighter.{Lighter}
use Rattle.model.specs.Sums.{when}
use Rattle.model.specs.Tables.{Table, Lawful, Accepted}
use Rattle.model.specs.declared.fault.Fault.{Fault}
use Rattle.days.specs.Days.{Call, day_of, Shown, Reading, reading}
use Rattle.days.specs.Lists.{greatest_of}
use Rattle.days.specs.Rules.{new_state}

-- a job that ended took at most so many ticks, and one that has not ended has waited fewer
abbrev pub AtMost : ℕ → Option ℕ → ℕ → Type 0
AtMost most (Some ticks) waited = ticks ≤ most
AtMost most None waited = waited < most

abbrev pub InTime : (ℕ → ℕ) → ℕ → Shown → Type 0
InTime bounds now j = AtMost (bounds j.task) j.took (now - j.release)

-- Every job of a day keeps these bounds.
abbrev pub KeepsBounds : (ℕ → ℕ) → Reading → Type 0
KeepsBounds bounds r = AllByRecursion (InTime bounds r.now) r.jobs

-- No day of a book on a table is worse than its sheet: whatever calls are made on the book from its opening on.
abbrev pub NoDayWorse : Table → Option Fault → Type 0
NoDayWorse t verdict =
    Accepted t → (calls : List Call) → KeepsBounds (bound t.parts) (reading (day_of verdict t.parts new_state calls))

-- Nor is it worse than the sheet of any accepted heavier table, whatever parts that is made of.
abbrev pub NoDayWorseThanHeavier : Table → Option Fault → Type 0
NoDayWorseThanHeavier t verdict =
    (heavy : Table) → Lawful heavy.parts → Accepted heavy → Lighter t heavy
    → (calls : List Call) → KeepsBounds (bound heavy.parts) (reading (day_of verdict t.parts new_state calls))

-- a job of task k that ended
abbrev pub ended : ℕ → Shown → Bool
ended k j = j.task == k && is_some j.took

-- the time that a job took, if it is one of task k that ended, and else 0
abbrev pub time : ℕ → Shown → ℕ
time k j = when (j.task == k) (if_some j.took 0 (λ ticks. ticks))

-- The totals of a day: how many jobs of task k ended, and the longest time that one took, or 0.
abbrev pub finished : Reading → ℕ → ℕ
finished r k = count_by (ended k) r.jobs

abbrev pub longest_time : Reading → ℕ → ℕ
longest_time r k = greatest_of (time k) r.jobs
