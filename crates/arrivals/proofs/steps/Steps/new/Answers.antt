use Rattle.std.proofs.Common.{sym, refl}
use Rattle.kinds.proofs.ArrivalLaws.{stepped_tasks, stepped_plain}
use Rattle.arrivals.proofs.steps.Steps.new.Goals as goal

pub returns : goal.returns
returns c =
    let none = sym c.in_ok-check_numbers.ensures in
    ((refl, stepped_tasks c.args.numbers.now none, stepped_plain c.args.numbers.now none), none)
