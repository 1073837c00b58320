use Rattle.std.proofs.Common.{map}
use Rattle.days.specs.Promise.{finished, longest_time}
use Rattle.days.specs.Views.{viewed}
use Rattle.analysis.specs.Sheets.{Filled}
use Rattle.timeline.specs.Timelines.{held_by}
use Rattle.book.specs.declared.totals.TaskTotals.{TaskTotals}
use Rattle.book.proofs.closing.totals.Given as goal

abbrev pub invariant-loop-task : goal.invariant-loop-task
invariant-loop-task l =
    let day = viewed (held_by l.timeline) in
    record {
      finished_so : Filled (finished day) l.task (map (λ (t : TaskTotals). t.finished) l.tasks.items);
      longest_so : Filled (longest_time day) l.task (map (λ (t : TaskTotals). t.longest) l.tasks.items);
    }
