-- The offset of a job that comes into a busy window: it lies in the task's window, and before the length at which such a
-- job is ready.
use Rattle.std.proofs.Common.{◌≡◌, ℕ, ◌+◌, ◌*◌, ◌<◌, ◌≤◌, Some, refl, ⊎_elim, mul-le-mul_left, mul-add, arith}
use Rattle.std.proofs.lemmas.Bool.{cases_lt, eq-eqb}
use Rattle.model.specs.Analysis.{Parts, tasks, work, blocked, load, window, others_work, need, ready}
use Rattle.model.specs.Arrivals.{last_length}
use Rattle.model.specs.Tables.{Lawful}
use Rattle.model.proofs.AnalysisLaws.{counted_term, others_term, window_least, ready_least, counts_itself, others_counted}
use Rattle.model.proofs.SumLaws.{total_slack}

module _ (m : Parts) (lawful : Lawful m) (order_tasks : m.order.tasks ≡ m.arrivals.tasks) (sections_tasks : m.sections.tasks ≡ m.arrivals.tasks) where
  -- what can have been asked for in d ticks is within the load
  asked_within_load : (i A d : ℕ) → i < tasks m → d ≤ last_length → blocked m i + work m i d + others_work m i A d ≤ load m i d
  unfolding load
  asked_within_load i A d has last =
      let own : others_term m i A d i + work m i d ≤ counted_term m i d i = rw (eq-eqb i i refl, counts_itself m lawful order_tasks sections_tasks i has) (omega arith) in
      let sums = total_slack (tasks m) i (work m i d) (others_term m i A d) (counted_term m i d) has
      (λ o other. others_counted m lawful order_tasks sections_tasks i o A d has other last) own in
      omega arith

  -- A task i and an offset A with so many releases in each length, such that each length up to the offset is shorter than what
  -- can have been asked for in it.
  module _ (i A : ℕ) (has : i < tasks m) (releases : ℕ → ℕ)
      (asked : (d : ℕ) → 1 ≤ d → d ≤ A → d < blocked m i + m.sections.cost i * releases d + others_work m i A d) where
    -- the offset lies in the window
    pub offset_in_window : ((d : ℕ) → d ≤ A → d ≤ last_length → releases d ≤ m.arrivals.count i d) → (ticks : ℕ) → window m i ≡ Some ticks → A < ticks
    offset_in_window few ticks found =
        let least = window_least m i ticks found in
        ⊎_elim (λ below. below)
        (λ (passed : ticks ≤ A).
        let last : ticks ≤ last_length = omega arith in
        let costs = mul-le-mul_left (m.sections.cost i) (few ticks passed last) in
        absurd (omega (arith, asked ticks least.positive passed, asked_within_load i A ticks has last)))
        (cases_lt A ticks)

    -- the job is ready only behind the offset, if it is one more than all those releases
    pub offset_ready : ((d : ℕ) → d ≤ A → releases d + 1 ≤ m.arrivals.count i (A + 1)) → (length : ℕ) → ready m i A ≡ Some length → A < length
    unfolding need
    offset_ready more length found =
        let least = ready_least m i A length found in
        let sectioned : i < m.sections.tasks = omega arith in
        ⊎_elim (λ below. below)
        (λ (passed : length ≤ A).
        let costs = mul-le-mul_left (m.sections.cost i) (more length passed) in
        absurd (omega (arith, asked length least.positive passed, mul-add (m.sections.cost i) (releases length) 1, lawful.sections.tail_within i sectioned)))
        (cases_lt A length)
