use Rattle.std.proofs.Common.{◌≡◌, ◌/◌, ◌<◌, None, length, get_or, drop, sym, ap, ◌∙◌, arith}
use Rattle.kinds.specs.ArrivalKinds.{steps_count, steps_fault}
use Rattle.kinds.specs.Numbers.{used}
use Rattle.kinds.proofs.ArrivalLaws.{stepped_tasks, stepped_plain, stepped_repeats}
use Rattle.kinds.proofs.RowLaws.{none_found}
use Rattle.arrivals.proofs.steps.StepsArrivals.count.Goals as goal

pub releases-requires-clause-repeats : goal.releases-requires-clause-repeats
releases-requires-clause-repeats c =
    let steps = c.args.self.now in
    let none : steps_fault steps.numbers.now ≡ None = none_found (steps_fault steps.numbers.now) steps.faultless in
    let within : c.args.task < length steps.numbers.now / 9 = omega (arith, stepped_tasks steps.numbers.now none) in
    rw c.row_of.ensures (stepped_repeats steps.numbers.now none c.args.task within)

pub returns-then-length-ge1 : goal.returns-then-length-ge1
returns-then-length-ge1 c =
    let steps = c.args.self.now in
    let none : steps_fault steps.numbers.now ≡ None = none_found (steps_fault steps.numbers.now) steps.faultless in
    let within : c.args.task < length steps.numbers.now / 9 = omega (arith, stepped_tasks steps.numbers.now none) in
    c.releases.ensures
    ∙ ap (λ row. steps_count (get_or row 0 0) (used (drop 1 row)) c.args.length) c.row_of.ensures
    ∙ sym (stepped_plain steps.numbers.now none c.args.task c.args.length within c.if-length-ge1.true)
