-- The rows that a `PerTask` stands for: those of its tasks, in their order.
use Rattle.std.specs.Prelude.{List, take}
use Rattle.rows.specs.declared.per_task.PerTask.{PerTask}

abbrev pub kept : {T : Type 0} → PerTask T → List T
kept s = take s.tasks s.rows
