use Rattle.std.proofs.Common.{◌≡◌, drop}
use Rattle.model.specs.Rows.{rows_fault}
use Rattle.rows.proofs.rule.check_each.Given as goal

abbrev pub invariant-loop-task : goal.invariant-loop-task
invariant-loop-task g l =
    rows_fault (g.C.RowRule.refuses l.rule) l.part 0 l.rows ≡ rows_fault (g.C.RowRule.refuses l.rule) l.part l.task (drop l.task l.rows)
