use Rattle.std.proofs.Common.{refl}
use Rattle.cases.proofs.Worked.{worked}
use Rattle.cases.proofs.reference_cases.Goals as goal

pub returns : goal.returns
returns c = record { answer = refl; cases = worked }
