use Rattle.std.proofs.Common.{map}
use Rattle.analysis.specs.Sheets.{KeptSo}
use Rattle.analysis.specs.declared.sheet.Times.{Times}
use Rattle.analysis.proofs.sheets.sheet.Given as goal

abbrev pub invariant-loop-task : goal.invariant-loop-task
invariant-loop-task g l =
    KeptSo (g.P.Parts.meaning l.parts) l.deadlines l.task (map (λ (t : Times). t.window) l.times.items) (map (λ (t : Times). t.bound) l.times.items)
