-- The built-in table is one of the reference cases.
use Rattle.std.proofs.Common.{◌≡◌, ℕ, List, [], ◌∷◌, Option, ◌∙◌, ap₂}
use Rattle.kinds.specs.ArrivalKinds.{separated}
use Rattle.kinds.specs.OrderKinds.{earliest_deadline}
use Rattle.kinds.specs.SectionKinds.{open_sections}
use Rattle.model.specs.Tables.{JudgedSo}
use Rattle.model.specs.declared.fault.Fault.{Fault}
use Rattle.cases.specs.Reference.{two_tasks}
use Rattle.cases.proofs.Worked.{worked}
use Rattle.daybook.specs.BuiltIn.{BuiltInSheet}

pub built_in_judged : (deadlines separations relative costs : List ℕ) (found : Option Fault) (windows bounds : List ℕ) → deadlines ≡ 4 ∷ 7 ∷ [] → separations ≡ 4 ∷ 12 ∷ [] → relative ≡ 4 ∷ 7 ∷ [] → costs ≡ 2 ∷ 3 ∷ [] → JudgedSo (two_tasks deadlines (separated separations) (earliest_deadline relative) (open_sections costs)) found windows bounds → BuiltInSheet found windows bounds
built_in_judged deadlines separations relative costs found windows bounds dates apart order sized held =
    let case = worked.deadline_first in
    let so = rw (dates, apart, order, sized) at held in
    record {
      accepted = so.by_verdict ∙ case.accepted;
      windows_so = ap₂ (λ x y. x ∷ y ∷ []) (so.by_window 0) (so.by_window 1) ∙ case.windows_so;
      bounds_so = ap₂ (λ x y. x ∷ y ∷ []) (so.by_bound 0) (so.by_bound 1) ∙ case.bounds_so;
    }
