-- The window and the bound of a task that has a window, in the words of the analysis.
use Rattle.std.proofs.Common.{◌≡◌, ℕ, zero, suc, ◌-◌, ◌<◌, ◌≤◌, Some, sym, ◌∙◌, ⊎_elim, arith}
use Rattle.std.proofs.lemmas.Bool.{cases_lt}
use Rattle.model.specs.Analysis.{Parts, tasks, window, ready, ending, response, bound}
use Rattle.model.specs.Sealed.{Ready, Sealed}
use Rattle.model.specs.Sums.{greatest}
use Rattle.model.specs.Tables.{Lawful}
use Rattle.model.proofs.AnalysisLaws.{window_least, ready_least, ready_found}
use Rattle.model.proofs.ResponseLaws.{response_later, response_passed, bound_greatest}
use Rattle.model.proofs.SumLaws.{greatest_at}

-- the greatest of some numbers is one of them
greatest_reached : (n : ℕ) (f : ℕ → ℕ) → (k : ℕ) × (k < suc n) × (f k ≡ greatest (suc n) f)
unfolding greatest
greatest_reached zero f = (0, omega arith, omega arith)
greatest_reached (suc n) f =
    let before = greatest_reached n f in
    ⊎_elim (λ (larger : greatest (suc n) f < f (suc n)). (suc n, omega arith, omega arith))
    (λ (smaller : f (suc n) ≤ greatest (suc n) f). (before.0, omega (arith, before.1), omega (arith, before.2)))
    (cases_lt (greatest (suc n) f) (f (suc n)))

module _ (m : Parts) (lawful : Lawful m) (order_tasks : m.order.tasks ≡ m.arrivals.tasks) (sections_tasks : m.sections.tasks ≡ m.arrivals.tasks)
    (i w : ℕ) (has : i < tasks m) (found : window m i ≡ Some w) where
  -- when a job of each offset is ready
  ready_in : (A : ℕ) → A < w → (d : ℕ) × (ready m i A ≡ Some d) × Ready m i w A d
  ready_in A early =
      let when-ready = ready_found m lawful order_tasks sections_tasks i w A has found early in
      let least = ready_least m i A when-ready.0 when-ready.1 in
      (when-ready.0, when-ready.1, record { positive = least.positive; within = when-ready.2; met = least.met; earlier = least.earlier })

  -- the bound is no less than what an offset gives
  given : (A d : ℕ) → A < w → ready m i A ≡ Some d → A < d → ending m i d - A ≤ bound m i
  given A d early is later =
      omega (arith, greatest_at w A (response m i) early, response_later m i A d is later, bound_greatest m i w found)

  -- the offset 0 gives something
  bound_positive : 1 ≤ bound m i
  bound_positive =
      let least = window_least m i w found in
      let first = ready_in 0 least.positive in
      let sectioned : i < m.sections.tasks = omega arith in
      omega (arith, given 0 first.0 least.positive first.1 first.2.positive, first.2.positive, lawful.sections.tail_positive i sectioned)

  -- so the offset that gives the most is one at which a job can stand
  reached_from : (A : ℕ) → A < w → response m i A ≡ bound m i → (A : ℕ) × (d : ℕ) × (A < w) × Ready m i w A d × (A < d) × (bound m i ≡ ending m i d - A)
  reached_from A early top =
      let there = ready_in A early in
      ⊎_elim (λ (later : A < there.0). (A, there.0, early, there.2, later, sym top ∙ response_later m i A there.0 there.1 later))
      (λ (passed : there.0 ≤ A). absurd (omega (arith, response_passed m i A there.0 there.1 passed, bound_positive)))
      (cases_lt A there.0)

  pub sealed : Sealed m i w (bound m i)
  sealed =
      let least = window_least m i w found in
      let top = greatest_reached (w - 1) (response m i) in
      let offsets : suc (w - 1) ≡ w = omega (arith, least.positive) in
      let reaches = rw offsets at top.2 in
      record {
        window = least;
        most = λ A early. let there = ready_in A early in (there.0, there.2, given A there.0 early there.1);
        reached = reached_from top.0 (omega (arith, top.1)) (reaches ∙ sym (bound_greatest m i w found));
      }
