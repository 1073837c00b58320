-- The totals of a day keep the bounds that its jobs keep.
use Rattle.std.proofs.Common.{ℕ, ◌-◌, ◌≤◌, eqb, List, [], ◌∷◌, Some, None, Option, refl, subst, inl, inr, arith}
use Rattle.std.proofs.lemmas.Bool.{eqb-true}
use Rattle.model.specs.Choice.{if_some}
use Rattle.model.specs.Sums.{when}
use Rattle.model.proofs.SumLaws.{when_below}
use Rattle.days.specs.Days.{Reading}
use Rattle.days.specs.Lists.{greatest_of}
use Rattle.days.specs.Promise.{AtMost, InTime, KeepsBounds, longest_time}
use Rattle.days.proofs.Members.{In}
use Rattle.days.proofs.MemberLaws.{in_from_all}

-- the greatest of numbers of at most b is at most b
greatest_of_below : {X : Type 0} (g : X → ℕ) (b : ℕ) (xs : List X) → ((x : X) → In x xs → g x ≤ b) → greatest_of g xs ≤ b
greatest_of_below g b [] each = omega arith
greatest_of_below g b (x ∷ xs) each = omega (arith, each x (inl refl), greatest_of_below g b xs (λ y there. each y (inr there)))

-- a time that is shown is within the bound, and where none is shown 0 is
time_at_most : (took : Option ℕ) (most waited : ℕ) → AtMost most took waited → if_some took 0 (λ time. time) ≤ most
time_at_most (Some time) most waited within = within
time_at_most None most waited within = omega arith

-- where every job keeps its bound, so does the longest time of each task
pub totals_keep : (bounds : ℕ → ℕ) (r : Reading) → KeepsBounds bounds r → (k : ℕ) → longest_time r k ≤ bounds k
totals_keep bounds r kept k =
    greatest_of_below (λ j. when (eqb j.task k) (if_some j.took 0 (λ time. time))) (bounds k) r.jobs
    (λ j within. when_below (eqb j.task k) (if_some j.took 0 (λ time. time)) (bounds k)
    (λ same. subst (λ n. if_some j.took 0 (λ time. time) ≤ bounds n) (eqb-true j.task k same)
    (time_at_most j.took (bounds j.task) (r.now - j.release) (in_from_all (InTime bounds r.now) r.jobs kept j within))))
