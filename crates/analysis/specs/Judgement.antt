-- What a judged table says: its verdict, and the windows and the bounds of its tasks, none on a refused table.
-- Cited by judging, and by every call on a judged table or on a book.
use Rattle.std.specs.Prelude.{ℕ, List, [], map, Ok, Err, Option, Result}
use Rattle.std.specs.Result.{result_err}
use Rattle.model.specs.declared.fault.Fault.{Fault}
use Rattle.analysis.specs.declared.judged.Judged.{Judged}
use Rattle.analysis.specs.declared.sheet.Sheet.{Sheet}
use Rattle.analysis.specs.declared.sheet.Times.{Times}

-- the columns of a sheet
abbrev pub windows_on : Sheet → List ℕ
windows_on sheet = map (λ (t : Times). t.window) sheet.times.items

abbrev pub bounds_on : Sheet → List ℕ
bounds_on sheet = map (λ (t : Times). t.bound) sheet.times.items

-- a column of the sheet, which has no tasks where the table is refused
abbrev pub column : (Sheet → List ℕ) → Result Sheet Fault → List ℕ
column of_sheet (Ok sheet) = of_sheet sheet
column of_sheet (Err fault) = []

module _ {P : Type 0} (table : Judged P) where
  abbrev pub verdict_of : Option Fault
  verdict_of = result_err table.sheet

  abbrev pub windows_of : List ℕ
  windows_of = column windows_on table.sheet

  abbrev pub bounds_of : List ℕ
  bounds_of = column bounds_on table.sheet
