use Rattle.std.proofs.Common.{◌≡◌, ◌*◌, ◌≤◌, rules}
use Rattle.model.specs.Analysis.{work}
use Rattle.model.proofs.WorkLaws.{work_bounded, most_work}
use Rattle.analysis.proofs.blocking.work.Given as given
use Rattle.analysis.proofs.blocking.work.Goals as goal

-- how large the product can be
small : (g : given.Over) (c : goal.After-count g) → c.from.result * c.count.result ≤ most_work
small g c =
    let m = g.P.Parts.meaning c.args.parts.now in
    let laws = g.P.Parts.lawful c.args.parts.now in
    let is : c.from.result * c.count.result ≡ work m c.args.task c.args.length = cc in
    rw is (work_bounded m.arrivals m.sections laws.arrivals laws.sections c.args.task c.args.length (search rules))

pub overflow_mul-result : goal.overflow_mul-result
overflow_mul-result g c = let s = small g c in search rules

pub returns-clause-bound : goal.returns-clause-bound
returns-clause-bound g c = small g c
