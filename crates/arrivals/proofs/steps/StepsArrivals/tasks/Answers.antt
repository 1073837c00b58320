use Rattle.std.proofs.Common.{sym, rules}
use Rattle.kinds.specs.ArrivalKinds.{steps_fault}
use Rattle.kinds.proofs.ArrivalLaws.{stepped_tasks}
use Rattle.kinds.proofs.RowLaws.{none_found}
use Rattle.arrivals.proofs.steps.StepsArrivals.tasks.Goals as goal

pub overflow_cast-result : goal.overflow_cast-result
overflow_cast-result c =
    let steps = c.args.self.now in
    let rows = stepped_tasks steps.numbers.now (none_found (steps_fault steps.numbers.now) steps.faultless) in
    search rules

pub returns : goal.returns
returns c =
    let steps = c.args.self.now in
    sym (stepped_tasks steps.numbers.now (none_found (steps_fault steps.numbers.now) steps.faultless))
