-- The analysis of one table: both of its demands never fall, the need is within the load, and where a task has a
-- window, each offset of it is ready within it.
use Rattle.std.proofs.Common.{◌≡◌, ℕ, zero, suc, ◌+◌, ◌-◌, ◌<◌, ◌≤◌, true, not, eqb, ◌⊎◌, Some, refl, inl, inr, ⊎_elim, mul-le-mul_left, arith}
use Rattle.std.proofs.lemmas.Bool.{eq-eqb}
use Rattle.model.specs.Analysis.{Parts, longest_window, tasks, work, counted_work, load, window, others_work, need, ready}
use Rattle.model.specs.Arrivals.{LawfulArrivals, last_length}
use Rattle.model.specs.Order.{InReach, within}
use Rattle.model.specs.Least.{LeastMet}
use Rattle.model.specs.Sums.{when}
use Rattle.model.specs.Tables.{Lawful}
use Rattle.model.specs.declared.released.Reach.{Reach}
use Rattle.model.specs.declared.released.Reach.TheVariants.{Ticks, NoEnd}
use Rattle.model.proofs.LeastLaws.{least_some, least_within}
use Rattle.model.proofs.SumLaws.{when_below, when_rises, total_le, total_slack}

-- the lesser of a length and a reach is at most the length
pub within_le : (r : Reach) (d : ℕ) → within r d ≤ d
within_le (Ticks n) d = omega arith
within_le NoEnd d = omega arith

-- the lesser of a length and a reach never falls in the length
pub within_rises : (r : Reach) (d e : ℕ) → d ≤ e → within r d ≤ within r e
within_rises (Ticks n) d e longer = omega arith
within_rises NoEnd d e longer = longer

-- a reach lets through the first tick, or none at all
pub reach_cases : (r : Reach) → InReach 0 r ⊎ ((d : ℕ) → within r d ≡ 0)
reach_cases (Ticks zero) = inr (λ d. omega arith)
reach_cases (Ticks (suc n)) = inl (omega arith)
reach_cases NoEnd = inl tt

module _ (m : Parts) where
  -- the term of task o in the load of task i
  abbrev pub counted_term : ℕ → ℕ → ℕ → ℕ
  counted_term i d o = when (m.order.counted i o) (work m o d)

  -- the term of task o in the need of a job of task i
  abbrev pub others_term : ℕ → ℕ → ℕ → ℕ → ℕ
  others_term i A d o = when (not (eqb o i)) (work m o (within (m.order.reach i o A) d))

  -- a window is the least length that the load fills
  pub window_least : (i w : ℕ) → window m i ≡ Some w → LeastMet (load m i) longest_window w
  unfolding window
  window_least i w found = least_some (load m i) longest_window w found

  -- a job is ready at the least length that its need fills
  pub ready_least : (i A d : ℕ) → ready m i A ≡ Some d → LeastMet (need m i A) longest_window d
  unfolding ready
  ready_least i A d found = least_some (need m i A) longest_window d found

module _ (m : Parts) (arrivals : LawfulArrivals m.arrivals) where
  -- the work of a task never falls in the length
  pub work_rises : (o d e : ℕ) → o < tasks m → d ≤ e → e ≤ last_length → work m o d ≤ work m o e
  work_rises o d e has longer last = mul-le-mul_left (m.sections.cost o) (arrivals.rises o d e has longer last)

  -- the work of one job or more is no less than its cost
  pub cost_within_work : (i d : ℕ) → i < tasks m → 1 ≤ d → d ≤ last_length → m.sections.cost i ≤ work m i d
  cost_within_work i d has positive last =
      let released : 1 ≤ m.arrivals.count i d = omega (arith, arrivals.some_at_one i has, arrivals.rises i 1 d has positive last) in
      omega (arith, mul-le-mul_left (m.sections.cost i) released)

  -- what the load counts of a task never falls in the length
  pub counted_rises : (i o d e : ℕ) → o < tasks m → d ≤ e → e ≤ last_length → counted_term m i d o ≤ counted_term m i e o
  counted_rises i o d e has longer last =
      when_rises (m.order.counted i o) (work m o d) (work m o e) (work_rises o d e has longer last)

  -- the work of the counted tasks, on top of anything, never falls in the length
  pub counted_work_rises : (base i d e : ℕ) → d ≤ e → e ≤ last_length → base + counted_work m i d ≤ base + counted_work m i e
  counted_work_rises base i d e longer last =
      let sums = total_le (tasks m) (counted_term m i d) (counted_term m i e) (λ o has. counted_rises i o d e has longer last) in
      omega arith

  -- what the need has of another task never falls in the length
  pub others_rise : (i o A d e : ℕ) → o < tasks m → d ≤ e → e ≤ last_length → others_term m i A d o ≤ others_term m i A e o
  others_rise i o A d e has longer last =
      let r = m.order.reach i o A in
      let rise = work_rises o (within r d) (within r e) has (within_rises r d e longer) (omega (arith, within_le r e)) in
      when_rises (not (eqb o i)) (work m o (within r d)) (work m o (within r e)) rise

  -- the work of other tasks before a job, on top of anything, never falls in the length
  pub others_work_rises : (base i A d e : ℕ) → d ≤ e → e ≤ last_length → base + others_work m i A d ≤ base + others_work m i A e
  others_work_rises base i A d e longer last =
      let sums = total_le (tasks m) (others_term m i A d) (others_term m i A e) (λ o has. others_rise i o A d e has longer last) in
      omega arith

module _ (m : Parts) (lawful : Lawful m) (order_tasks : m.order.tasks ≡ m.arrivals.tasks) (sections_tasks : m.sections.tasks ≡ m.arrivals.tasks) where
  -- a task is counted for itself
  pub counts_itself : (i : ℕ) → i < tasks m → m.order.counted i i ≡ true
  counts_itself i has =
      let ordered : i < m.order.tasks = omega arith in
      lawful.order.counted_ahead i i 0 0 ordered ordered (lawful.order.own_task i 0 0 ordered (omega arith))

  -- the work of a task within its reach is no more than what the load counts of it
  pub reached_counted : (i o A d : ℕ) → i < tasks m → o < tasks m → d ≤ last_length → work m o (within (m.order.reach i o A) d) ≤ counted_term m i d o
  reached_counted i o A d has other last =
      let r = m.order.reach i o A in
      let ordered : (i < m.order.tasks) × (o < m.order.tasks) = omega arith in
      let rise = work_rises m lawful.arrivals o (within r d) d other (within_le r d) last in
      ⊎_elim (λ first. rw (lawful.order.counted_reach i o A ordered.0 ordered.1 first) rise)
      (λ none. rw (none d, lawful.arrivals.none_at_zero o other) (omega arith)) (reach_cases r)

  -- what the need has of another task is no more than what the load counts of it
  pub others_counted : (i o A d : ℕ) → i < tasks m → o < tasks m → d ≤ last_length → others_term m i A d o ≤ counted_term m i d o
  others_counted i o A d has other last =
      let r = m.order.reach i o A in
      when_below (not (eqb o i)) (work m o (within r d)) (counted_term m i d o) (λ _. reached_counted i o A d has other last)

  -- the load counts of the task itself what the need leaves out, and its own work up to the offset
  pub own_counted : (i A d : ℕ) → i < tasks m → A < d → d ≤ last_length → others_term m i A d i + work m i (A + 1) ≤ counted_term m i d i
  own_counted i A d has early last =
      let rise = work_rises m lawful.arrivals i (A + 1) d has (omega arith) last in
      rw (eq-eqb i i refl, counts_itself i has) (omega arith)

  -- the need, with the rest of the tail, is within the load
  pub need_within_load : (i A d : ℕ) → i < tasks m → A < d → d ≤ last_length → need m i A d + (m.sections.tail i - 1) ≤ load m i d
  unfolding need load
  need_within_load i A d has early last =
      let own = own_counted i A d has early last in
      let sums = total_slack (tasks m) i (work m i (A + 1)) (others_term m i A d) (counted_term m i d) has (λ o other. others_counted i o A d has other last) own in
      let costs = cost_within_work m lawful.arrivals i (A + 1) has (omega arith) (omega arith) in
      let sectioned : i < m.sections.tasks = omega arith in
      omega (arith, lawful.sections.tail_within i sectioned, lawful.sections.tail_positive i sectioned)

  -- where a task has a window, a job of each offset in it is ready within it
  pub ready_found : (i w A : ℕ) → i < tasks m → window m i ≡ Some w → A < w → (d : ℕ) × (ready m i A ≡ Some d) × (d ≤ w)
  unfolding ready
  ready_found i w A has found early =
      let least = window_least m i w found in
      let needed = need_within_load i A w has early (omega arith) in
      least_within (need m i A) longest_window w (omega arith) (omega arith) (omega arith)
