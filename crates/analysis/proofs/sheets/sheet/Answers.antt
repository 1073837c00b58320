use Rattle.std.proofs.lemmas.Result.{err_from_is_err_and}
use Rattle.model.proofs.VerdictLaws.{first_fault_zero, first_fault_found}
use Rattle.analysis.proofs.Columns.{filled_none, kept_more}
use Rattle.analysis.proofs.sheets.sheet.Goals as goal

pub loop-task-init : goal.loop-task-init
loop-task-init g c =
    rw c.new-times.ensures (record { clear = first_fault_zero _; windows_so = filled_none _; bounds_so = filled_none _ })

pub returns-in_err-times_in : goal.returns-in_err-times_in
returns-in_err-times_in g c =
    let p = err_from_is_err_and c.from_residual.result c.from_residual.ensures.1 in
    rw (p.1, p.2) (first_fault_found _ c.loop-task.task _ _ c.loop-task-test.true c.loop-task.invariant.clear c.in_err-times_in.ensures)

pub loop-task-preserved : goal.loop-task-preserved
loop-task-preserved g c =
    rw c.push.ensures.items (kept_more _ _ c.loop-task.task c.loop-task.times.items _ c.loop-task.invariant c.in_ok-times_in.ensures)
