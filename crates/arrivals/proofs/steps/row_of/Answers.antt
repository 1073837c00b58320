use Rattle.std.proofs.Common.{◌/◌, ◌<◌, length, [], arith}
use Rattle.std.proofs.lemmas.Option.{get_or_from_slice_get}
use Rattle.kinds.specs.ArrivalKinds.{cut_rows}
use Rattle.kinds.proofs.ArrivalLaws.{nth_cut}
use Rattle.arrivals.proofs.steps.row_of.Goals as goal

pub returns : goal.returns
returns c =
    let xs = c.args.numbers.now in
    let tasks = length xs / 9 in
    let within : c.args.task < tasks = omega arith in
    let row = get_or_from_slice_get (cut_rows tasks xs) c.args.task _ [] (nth_cut tasks xs c.args.task within) in
    cc
