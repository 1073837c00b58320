-- What the jobs over a level can have received since a tick: each task's jobs are charged their cost, its own up to some
-- length, those of another task within its reach.
use Rattle.std.proofs.Common.{◌≡◌, ℕ, ◌+◌, ◌-◌, ◌*◌, ◌<◌, ◌≤◌, Bool, true, false, cond, eqb, leb, List, refl, subst, ⊎_elim, mul-le-mul_left, arith}
use Rattle.std.specs.List.{sum_by}
use Rattle.std.proofs.lemmas.Bool.{cases_eq, cases_lt, and_parts, leb-true, eq-eqb, eqb-true, ne_eqb}
use Rattle.model.specs.Analysis.{Parts, tasks, work, others_work}
use Rattle.model.specs.Arrivals.{last_length}
use Rattle.model.specs.Order.{InReach, within}
use Rattle.model.specs.Sums.{when}
use Rattle.model.specs.Tables.{Lawful}
use Rattle.model.specs.declared.released.Reach.{Reach}
use Rattle.model.specs.declared.released.Reach.TheVariants.{Ticks, NoEnd}
use Rattle.model.specs.declared.released.Released.{Released}
use Rattle.model.proofs.AnalysisLaws.{within_le}
use Rattle.model.proofs.SumLaws.{when_below}
use Rattle.days.specs.Jobs.{of_task}
use Rattle.days.specs.Rules.{State}
use Rattle.days.specs.declared.job.Job.{Job}
use Rattle.days.proofs.Members.{In}
use Rattle.days.proofs.Invariants.{Sound, in_span, released_in, over, since_over, received_over}
use Rattle.days.proofs.Spans.{in_span_from}
use Rattle.days.proofs.SumsOver.{one_if, sum_le, sum_slack, sum_scaled}
use Rattle.days.proofs.SumsByTask.{total_but_one, sum_by_task}

-- a test lets through a number as often as it passes
when_times : (b : Bool) (n : ℕ) → when b n ≡ n * one_if b
when_times true n = omega arith
when_times false n = omega arith

-- a tick that lies below a reach and a length lies below the lesser of them
below_within : (r : Reach) (z d : ℕ) → InReach z r → z < d → z < within r d
below_within (Ticks n) z d reached short = omega arith
below_within NoEnd z d reached short = short

module _ (m : Parts) (v : Released) (w e d : ℕ) where
  -- the length from w on in which the jobs of task k count
  abbrev extent : ℕ → ℕ
  extent k = cond (eqb k v.task) e (within (m.order.reach v.task k (v.at - w)) d)

  -- what a job is charged
  abbrev charge : Job → ℕ
  charge j = when (in_span j.task w (extent j.task) j) (m.sections.cost j.task)

  -- the jobs of one task are charged its cost as often as it is released
  task_charge : (k : ℕ) (jobs : List Job) → sum_by (λ j. when (of_task k j) (charge j)) jobs ≤ m.sections.cost k * released_in k w (extent k) jobs
  task_charge k jobs =
      let cost = m.sections.cost k in
      let terms = sum_le (λ j. when (of_task k j) (charge j)) (λ j. cost * one_if (in_span k w (extent k) j)) jobs (λ j _.
      when_below (of_task k j) (charge j) (cost * one_if (in_span k w (extent k) j)) (λ is.
      subst (λ k. charge j ≤ m.sections.cost k * one_if (in_span k w (extent k) j)) (eqb-true j.task k is)
      (omega (arith, when_times (in_span j.task w (extent j.task) j) (m.sections.cost j.task))))) in
      omega (arith, sum_scaled cost (λ j. one_if (in_span k w (extent k) j)) jobs)

module _ (m : Parts) (lawful : Lawful m) (order_tasks : m.order.tasks ≡ m.arrivals.tasks)
    (s : State) (sound : Sound m s) (v : Released) (has : v.task < tasks m) (w e d : ℕ) (early : w ≤ v.at) (last : d ≤ last_length) where
  -- all jobs are charged at most what their task can ask for
  all_charge : sum_by (charge m v w e d) s.jobs ≤ m.sections.cost v.task * released_in v.task w e s.jobs + others_work m v.task (v.at - w) d
  all_charge =
      let i = v.task in
      let term = λ (k : ℕ). sum_by (λ j. when (of_task k j) (charge m v w e d j)) s.jobs in
      let own : term i ≤ m.sections.cost i * released_in i w e s.jobs = rw (eq-eqb i i refl) at (task_charge m v w e d i s.jobs) in
      let split = sum_by_task (charge m v w e d) (tasks m) s.jobs sound.known in
      let others = total_but_one (tasks m) i _ term (λ o. work m o (within (m.order.reach i o (v.at - w)) d)) has own (λ o other differs.
      let r = m.order.reach i o (v.at - w) in
      let charged : term o ≤ m.sections.cost o * released_in o w (within r d) s.jobs = rw (ne_eqb o i differs) at (task_charge m v w e d o s.jobs) in
      let few = sound.curve o w (within r d) other (omega (arith, within_le r d)) in
      omega (arith, mul-le-mul_left (m.sections.cost o) few)) in
      omega arith

  -- a job over the level that comes in d ticks from w on, comes within its task's reach
  within_reach : (j : Job) → In j s.jobs → over m v j ≡ true → w ≤ j.release → j.release < w + d → j.release < w + within (m.order.reach v.task j.task (v.at - w)) d
  within_reach j member is after before =
      let r = m.order.reach v.task j.task (v.at - w) in
      let ordered : (v.task < m.order.tasks) × (j.task < m.order.tasks) = omega (arith, sound.known j member) in
      let release : w + (j.release - w) ≡ j.release = omega arith in
      let at : w + (v.at - w) ≡ v.at = omega arith in
      let reached = lawful.order.reached v.task j.task w (j.release - w) (v.at - w) ordered.0 ordered.1 (rw (release, at) is) in
      omega (arith, below_within r (j.release - w) d reached (omega arith))

  -- a job over the level from w on is charged its cost, if it is of another task or comes early enough
  counts : (j : Job) → In j s.jobs → over m v j ≡ true → w ≤ j.release → (j.task ≡ v.task → j.release < w + e) → j.release < w + d → charge m v w e d j ≡ m.sections.cost j.task
  counts j member is after own before =
      let r = m.order.reach v.task j.task (v.at - w) in
      ⊎_elim (λ same. let inside = in_span_from j.task w e j refl after (own same) in rw (eq-eqb j.task v.task same) (rw inside))
      (λ differs. let inside = in_span_from j.task w (within r d) j refl after (within_reach j member is after before) in rw (ne_eqb j.task v.task differs) (rw inside))
      (cases_eq j.task v.task)

  module _ (before : (j : Job) → In j s.jobs → j.release < w + d)
      (late : (j : Job) → In j s.jobs → j.task ≡ v.task → w + e ≤ j.release → j.received ≡ 0) where
    -- a job over the level has received no more since w than it is charged
    charged : (j : Job) → In j s.jobs → since_over m w v j ≡ true → j.received ≤ charge m v w e d j
    charged j member since =
        let parts = and_parts (leb w j.release) (over m v j) since in
        let within-charge : (j.task ≡ v.task → j.release < w + e) → j.received ≤ charge m v w e d j =
        λ own. omega (arith, counts j member parts.1 (leb-true w j.release parts.0) own (before j member), sound.within_cost j member) in
        ⊎_elim (λ soon. within-charge (λ _. soon))
        (λ behind. ⊎_elim (λ same. omega (arith, late j member same behind)) (λ differs. within-charge (λ same. absurd (differs same)))
        (cases_eq j.task v.task))
        (cases_lt j.release (w + e))

    -- What the jobs over the level have received since w, with the slack of one of them, is at most what can be asked for: if
    -- all were released in d ticks from w on, and the task's own behind e ticks have received nothing.
    pub covered : (q : Job) → In q s.jobs → over m v q ≡ true → w ≤ q.release → (q.task ≡ v.task → q.release < w + e)
        → (slack : ℕ) → q.received + slack ≤ m.sections.cost q.task
        → received_over m w v s.jobs + slack ≤ m.sections.cost v.task * released_in v.task w e s.jobs + others_work m v.task (v.at - w) d
    covered q member is after own slack spare =
        let term = λ (j : Job). when (since_over m w v j) j.received in
        let own-term : term q ≤ q.received = when_below (since_over m w v q) q.received q.received (λ _. omega arith) in
        let sums = sum_slack term (charge m v w e d) slack s.jobs q member
        (λ j in-jobs. when_below (since_over m w v j) j.received (charge m v w e d j) (charged j in-jobs))
        (omega (arith, counts q member is after own (before q member))) in
        omega (arith, all_charge)
