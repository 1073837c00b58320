-- The reference cases, computed by the definitions.
use Rattle.std.proofs.Common.{refl}
use Rattle.model.specs.Analysis.{blocked, load, window, need, ready, response, bound}
use Rattle.model.specs.Least.{first_met}
use Rattle.model.specs.Sums.{total, greatest}
use Rattle.model.specs.Tables.{first_fault, verdict}
use Rattle.cases.specs.Reference.{ReferenceCases}

pub worked : ReferenceCases
unfolding total greatest first_met blocked load window need ready response bound first_fault verdict
worked = record {
  separation = refl;
  steps = refl;
  delay = refl;
  deadline_first = record { accepted = refl; windows_so = refl; bounds_so = refl };
  urgency_first = record { accepted = refl; windows_so = refl; bounds_so = refl };
  shut = record { accepted = refl; windows_so = refl; bounds_so = refl };
  points = record { accepted = refl; windows_so = refl; bounds_so = refl };
  floats = record { accepted = refl; windows_so = refl; bounds_so = refl };
  full_cost = record { accepted = refl; windows_so = refl; bounds_so = refl };
}
