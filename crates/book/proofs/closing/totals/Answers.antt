use Rattle.analysis.proofs.Columns.{filled_row}
use Rattle.book.specs.declared.totals.TaskTotals.{TaskTotals}
use Rattle.book.proofs.closing.totals.Goals as goal

pub loop-task-preserved : goal.loop-task-preserved
loop-task-preserved c =
    let so_far = c.loop-task.invariant in
    rw c.push.ensures.items (record {
      finished_so = filled_row (λ (t : TaskTotals). t.finished) _ c.loop-task.task c.loop-task.tasks.items _ so_far.finished_so c.finished.ensures;
      longest_so = filled_row (λ (t : TaskTotals). t.longest) _ c.loop-task.task c.loop-task.tasks.items _ so_far.longest_so c.longest.ensures;
    })
