-- The columns of a book's totals: how many jobs of each task were finished, and the longest time that one took.
-- Cited by the questions about totals, and by closing.
use Rattle.std.specs.Prelude.{ℕ, List, map}
use Rattle.book.specs.declared.totals.TaskTotals.{TaskTotals}
use Rattle.book.specs.declared.totals.Totals.{Totals}

abbrev pub finished_in : Totals → List ℕ
finished_in totals = map (λ (t : TaskTotals). t.finished) totals.tasks.items

abbrev pub longest_in : Totals → List ℕ
longest_in totals = map (λ (t : TaskTotals). t.longest) totals.tasks.items
