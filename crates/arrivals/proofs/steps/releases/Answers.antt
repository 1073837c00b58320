use Rattle.std.proofs.Common.{◌+◌, ◌-◌, ◌%◌, ◌≤◌, length, get_or, drop, div-le_self, arith, length-drop, length-take, rules}
use Rattle.std.proofs.lemmas.Nat.{mul-le}
use Rattle.kinds.proofs.ArrivalLaws.{in_time_within}
use Rattle.arrivals.proofs.steps.releases.Goals as goal

pub overflow_add-result : goal.overflow_add-result
overflow_add-result c =
    let row = c.args.row.now in
    let repeat = get_or row 0 0 in
    let entries = c.used-entries.result.now in
    let whole = c.from-whole.result in
    let few : length entries ≤ 8 = omega (arith, length-take (length row - 1) (drop 1 row), length-drop 1 row) in
    let short : whole ≤ c.args.ticks = omega (arith, div-le_self (c.args.ticks - 1) repeat) in
    let product = mul-le (length entries) whole 8 c.args.ticks few short in
    let rest : c.in_time.result ≤ 8 = omega (arith, in_time_within ((c.args.ticks - 1) % repeat + 1) entries) in
    search rules
