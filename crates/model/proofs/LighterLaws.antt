-- A table lighter than an accepted one is accepted, and none of its bounds is larger.
use Rattle.std.proofs.Common.{◌≡◌, ℕ, zero, suc, ◌+◌, ◌-◌, ◌*◌, ◌<◌, ◌≤◌, true, not, ◌&&◌, eqb, ltb, length, Some, sym, ap, ◌∙◌, arith}
use Rattle.std.proofs.lemmas.Nat.{mul-le}
use Rattle.std.proofs.lemmas.Bool.{and_parts, and_from, lt-ltb, ltb-true}
use Rattle.model.specs.Analysis.{Parts, longest_window, tasks, work, blocked, load, window, need, ready, ending, response, bound}
use Rattle.model.specs.Lighter.{Lighter}
use Rattle.model.specs.Order.{within}
use Rattle.model.specs.Tables.{Table, Lawful, Accepted, Sized, Keeps}
use Rattle.model.proofs.AnalysisLaws.{within_le, counted_term, others_term, window_least, ready_found}
use Rattle.model.proofs.LeastLaws.{least_lighter}
use Rattle.model.proofs.SumLaws.{when_rises, when_implies, total_longer, greatest_longer}
use Rattle.model.proofs.VerdictLaws.{accepted_says, says_accepted}

-- What the comparison of two analyses rests on: the same tasks, reaches and counted tasks, no task that blocks only in
-- the lighter one, and nothing greater.
pub record NoHeavier (light heavy : Parts) : Type 0 where
  pub arrivals_tasks : light.arrivals.tasks ≡ heavy.arrivals.tasks
  pub sections_tasks : light.sections.tasks ≡ heavy.sections.tasks
  pub reach : (i o A : ℕ) → light.order.reach i o A ≡ heavy.order.reach i o A
  pub counted : (i o : ℕ) → light.order.counted i o ≡ heavy.order.counted i o
  pub blocks : (i l : ℕ) → light.order.blocks i l ≡ true → heavy.order.blocks i l ≡ true
  pub count : (k d : ℕ) → k < tasks light → d ≤ longest_window → light.arrivals.count k d ≤ heavy.arrivals.count k d
  pub longest : (k : ℕ) → k < tasks light → light.sections.longest k ≤ heavy.sections.longest k
  pub tail : (k : ℕ) → k < tasks light → light.sections.tail k ≤ heavy.sections.tail k
  pub rest : (k : ℕ) → k < tasks light → light.sections.cost k - light.sections.tail k ≤ heavy.sections.cost k - heavy.sections.tail k

-- the ticks of n jobs before the last one's tail, where cost, tail and number of jobs compare
before_tail : (cost tail n cost' tail' n' : ℕ) → 1 ≤ n → n ≤ n' → tail ≤ cost → tail' ≤ cost' → tail ≤ tail' → cost - tail ≤ cost' - tail' → cost * n + tail' ≤ cost' * n' + tail
before_tail cost tail zero cost' tail' n' positive more within within' tails rests = omega arith
before_tail cost tail (suc n) cost' tail' zero positive more within within' tails rests = omega arith
before_tail cost tail (suc n) cost' tail' (suc n') positive more within within' tails rests =
    omega (arith, mul-le cost n cost' n' (omega arith) (omega arith))

module _ (light heavy : Parts) (light-lawful : Lawful light) (heavy-lawful : Lawful heavy)
    (order_tasks : heavy.order.tasks ≡ heavy.arrivals.tasks) (sections_tasks : heavy.sections.tasks ≡ heavy.arrivals.tasks)
    (compared : NoHeavier light heavy) where
  -- a task of the arrivals is one of the sections, in both tables
  sectioned : (k : ℕ) → k < tasks light → (k < light.sections.tasks) × (k < heavy.sections.tasks)
  sectioned k has = omega arith

  -- no job costs more
  pub cost_lighter : (k : ℕ) → k < tasks light → light.sections.cost k ≤ heavy.sections.cost k
  cost_lighter k has =
      omega (arith, compared.tail k has, compared.rest k has, heavy-lawful.sections.tail_within k (sectioned k has).1)

  -- no task has more work
  pub work_lighter : (k d : ℕ) → k < tasks light → d ≤ longest_window → work light k d ≤ work heavy k d
  work_lighter k d has last =
      mul-le (light.sections.cost k) (light.arrivals.count k d) (heavy.sections.cost k) (heavy.arrivals.count k d)
      (cost_lighter k has) (compared.count k d has last)

  -- what a task's releases cost before the last one's tail is no more
  pub before_tail_lighter : (k d : ℕ) → k < tasks light → 1 ≤ d → d ≤ longest_window → work light k d + heavy.sections.tail k ≤ work heavy k d + light.sections.tail k
  before_tail_lighter k d has positive last =
      let risen = light-lawful.arrivals.rises k 1 d has positive (omega arith) in
      let there = sectioned k has in
      before_tail (light.sections.cost k) (light.sections.tail k) (light.arrivals.count k d)
      (heavy.sections.cost k) (heavy.sections.tail k) (heavy.arrivals.count k d)
      (omega (arith, light-lawful.arrivals.some_at_one k has)) (compared.count k d has last)
      (light-lawful.sections.tail_within k there.0) (heavy-lawful.sections.tail_within k there.1)
      (compared.tail k has) (compared.rest k has)

  -- another task that blocks in the lighter table blocks in the heavier
  blocks_both : (i l : ℕ) → (not (eqb l i) && light.order.blocks i l) ≡ true → (not (eqb l i) && heavy.order.blocks i l) ≡ true
  blocks_both i l both =
      let parts = and_parts (not (eqb l i)) (light.order.blocks i l) both in
      and_from (not (eqb l i)) (heavy.order.blocks i l) parts.0 (compared.blocks i l parts.1)

  -- no task is blocked longer
  pub blocked_lighter : (i : ℕ) → blocked light i ≤ blocked heavy i
  unfolding blocked
  blocked_lighter i =
      greatest_longer (tasks light) (tasks heavy) _ _ (omega arith)
      (λ l has. when_implies (not (eqb l i) && light.order.blocks i l) (not (eqb l i) && heavy.order.blocks i l) _ _ (blocks_both i l) (λ _. omega (arith, compared.longest l has)))

  -- the load counts no more of a task
  pub counted_lighter : (i o d : ℕ) → o < tasks light → d ≤ longest_window → counted_term light i d o ≤ counted_term heavy i d o
  counted_lighter i o d has last =
      rw (compared.counted i o) (when_rises (heavy.order.counted i o) (work light o d) (work heavy o d) (work_lighter o d has last))

  -- no load is greater
  pub load_lighter : (i d : ℕ) → d ≤ longest_window → load light i d ≤ load heavy i d
  unfolding load
  load_lighter i d last =
      let sums = total_longer (tasks light) (tasks heavy) (counted_term light i d) (counted_term heavy i d) (omega arith) (λ o has. counted_lighter i o d has last) in
      omega (arith, blocked_lighter i)

  -- the need has no more of another task
  pub others_lighter : (i o A d : ℕ) → o < tasks light → d ≤ longest_window → others_term light i A d o ≤ others_term heavy i A d o
  others_lighter i o A d has last =
      let r = heavy.order.reach i o A in
      let less = work_lighter o (within r d) has (omega (arith, within_le r d)) in
      rw (compared.reach i o A) (when_rises (not (eqb o i)) (work light o (within r d)) (work heavy o (within r d)) less)

  -- no need is greater
  pub need_lighter : (i A d : ℕ) → i < tasks light → A < longest_window → d ≤ longest_window → need light i A d ≤ need heavy i A d
  unfolding need
  need_lighter i A d has early last =
      let sums = total_longer (tasks light) (tasks heavy) (others_term light i A d) (others_term heavy i A d) (omega arith) (λ o other. others_lighter i o A d other last) in
      omega (arith, blocked_lighter i, before_tail_lighter i (A + 1) has (omega arith) (omega arith))

  -- no window is longer
  pub window_lighter : (i w : ℕ) → window heavy i ≡ Some w → (v : ℕ) × (window light i ≡ Some v) × (v ≤ w)
  unfolding window
  window_lighter i w found = least_lighter (load light i) (load heavy i) longest_window w (λ d _ last. load_lighter i d last) found

  -- no job is ready later
  pub ready_lighter : (i A h : ℕ) → i < tasks light → A < longest_window → ready heavy i A ≡ Some h → (l : ℕ) × (ready light i A ≡ Some l) × (l ≤ h)
  unfolding ready
  ready_lighter i A h has early found =
      least_lighter (need light i A) (need heavy i A) longest_window h (λ d _ last. need_lighter i A d has early last) found

  -- no response time in the heavier window is longer
  pub response_lighter : (i w A : ℕ) → i < tasks light → window heavy i ≡ Some w → A < w → response light i A ≤ response heavy i A
  unfolding response
  response_lighter i w A has found early =
      let least = window_least heavy i w found in
      let late = ready_found heavy heavy-lawful order_tasks sections_tasks i w A (omega arith) found early in
      let soon = ready_lighter i A late.0 has (omega arith) late.1 in
      rw (soon.1, late.1)
      (when_implies (ltb A soon.0) (ltb A late.0) (ending light i soon.0 - A) (ending heavy i late.0 - A)
      (λ before. lt-ltb A late.0 (omega (arith, soon.2, ltb-true A soon.0 before)))
      (λ _. omega (arith, soon.2, compared.tail i has)))

  -- where the heavier table has a window the lighter has one that is no longer, and its bound is no larger
  pub lighter_bound : (i w : ℕ) → i < tasks light → window heavy i ≡ Some w → (v : ℕ) × (window light i ≡ Some v) × (v ≤ w) × (bound light i ≤ bound heavy i)
  unfolding bound
  lighter_bound i w has found =
      let shorter = window_lighter i w found in
      let responses = greatest_longer shorter.0 w (response light i) (response heavy i) shorter.2 (λ A early. response_lighter i w A has found (omega (arith, shorter.2))) in
      (shorter.0, shorter.1, shorter.2, rw (shorter.1, found) responses)

-- the public comparison gives the inner one
pub lighter_compares : (light heavy : Table) → Lighter light heavy → NoHeavier light.parts heavy.parts
lighter_compares light heavy lighter =
    record {
      arrivals_tasks = lighter.arrivals_tasks;
      sections_tasks = lighter.sections_tasks;
      reach = λ i o A. ap (λ order. order.reach i o A) lighter.order;
      counted = λ i o. ap (λ order. order.counted i o) lighter.order;
      blocks = λ i l blocks. sym (ap (λ order. order.blocks i l) lighter.order) ∙ blocks;
      count = lighter.count;
      longest = lighter.longest;
      tail = lighter.tail;
      rest = lighter.rest;
    }

module _ (light heavy : Table) (light-lawful : Lawful light.parts) (heavy-lawful : Lawful heavy.parts) (accepted : Accepted heavy) (lighter : Lighter light heavy) where
  -- the lighter table has the size of the heavier
  sized_alike : Sized light
  sized_alike =
      let lengths : length light.deadlines ≡ length heavy.deadlines = ap length lighter.deadlines in
      let orders : light.parts.order.tasks ≡ heavy.parts.order.tasks = ap (λ order. order.tasks) lighter.order in
      omega (arith, (accepted_says heavy accepted).size)

  -- a task that the lighter table has keeps its deadline in the heavier
  kept_there : (k : ℕ) → k < length light.deadlines → Keeps heavy k
  kept_there k below = (accepted_says heavy accepted).each k (rw lighter.deadlines at below)

  -- its window in the lighter table is no longer, and its bound no larger
  alike : (k : ℕ) (below : k < length light.deadlines) → (v : ℕ) × (window light.parts k ≡ Some v) × (v ≤ (kept_there k below).ticks) × (bound light.parts k ≤ bound heavy.parts k)
  alike k below =
      let size = (accepted_says heavy accepted).size in
      let kept = kept_there k below in
      lighter_bound light.parts heavy.parts light-lawful heavy-lawful (omega arith) (omega arith) (lighter_compares light heavy lighter)
      k kept.ticks (omega (arith, sized_alike)) kept.found

  -- so it keeps its deadline there too
  keeps_alike : (k : ℕ) → k < length light.deadlines → Keeps light k
  keeps_alike k below =
      let here = alike k below in
      record {
        ticks = here.0;
        found = here.1;
        in_time = rw lighter.deadlines (omega (arith, (kept_there k below).in_time, here.3));
      }

  -- a table lighter than an accepted one is accepted, and none of its bounds is larger
  pub lighter_accepted : Accepted light × ((k : ℕ) → k < length light.deadlines → bound light.parts k ≤ bound heavy.parts k)
  lighter_accepted =
      let dated = rw (← lighter.deadlines) at (accepted_says heavy accepted).deadlines in
      (says_accepted light (record { size = sized_alike; deadlines = dated; each = keeps_alike }), λ k below. (alike k below).3)
