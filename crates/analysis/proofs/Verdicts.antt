-- From the sheet of the tasks to the verdict on the table.
use Rattle.std.proofs.Common.{◌≡◌, ℕ, List, length, Some, None, Ok, Err, Result, MatchResult, sym, ◌∙◌}
use Rattle.std.specs.Result.{result_err}
use Rattle.model.specs.Choice.{◌or_else◌}
use Rattle.model.specs.Analysis.{bound}
use Rattle.model.specs.Tables.{Table, size_fault, deadlines_fault, verdict, window_length, JudgedSo}
use Rattle.model.specs.declared.fault.Fault.{Fault}
use Rattle.model.proofs.JudgedLaws.{refused_blank}
use Rattle.model.proofs.VerdictLaws.{verdict_tasks}
use Rattle.analysis.specs.Judgement.{windows_on, bounds_on, column}
use Rattle.analysis.specs.declared.sheet.Sheet.{Sheet}
use Rattle.analysis.specs.Sheets.{KeptSo, first_missed}
use Rattle.analysis.proofs.Columns.{filled_at}

module _ (t : Table) (fits : (size_fault t or_else deadlines_fault t) ≡ None) where
  -- where every task keeps its deadline, the table is accepted with that sheet
  pub sheet_accepted : (windows bounds : List ℕ) → KeptSo t.parts t.deadlines (length t.deadlines) windows bounds → JudgedSo t None windows bounds
  sheet_accepted windows bounds kept =
      let accepted : verdict t ≡ None = verdict_tasks t fits ∙ kept.clear in
      record {
        by_verdict = sym accepted;
        by_window = λ k. rw accepted (filled_at (window_length t.parts) _ _ kept.windows_so k);
        by_bound = λ k. rw accepted (filled_at (bound t.parts) _ _ kept.bounds_so k);
      }

  -- else the first task that misses its deadline is the verdict
  pub sheet_refused : (f : Fault) → first_missed t.parts t.deadlines (length t.deadlines) ≡ Some f → verdict t ≡ Some f
  sheet_refused f missed = verdict_tasks t fits ∙ missed

-- what is held of a table, be it a sheet or a fault, is what a judged table holds
pub held_sheet : (t : Table) (held : Result Sheet Fault) → MatchResult held (λ s. JudgedSo t None (windows_on s) (bounds_on s)) (λ f. verdict t ≡ Some f) → JudgedSo t (result_err held) (column windows_on held) (column bounds_on held)
held_sheet t (Ok s) so = so
held_sheet t (Err f) refused = refused_blank t f refused
