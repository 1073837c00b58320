-- In any timely state, an unfinished job has waited fewer ticks than its response-time bound.
use Rattle.std.proofs.Common.{◌≡◌, ℕ, ◌-◌, ◌<◌, ◌≤◌, true, Some, ⊎_elim, arith}
use Rattle.std.proofs.lemmas.Bool.{cases_lt}
use Rattle.model.specs.Analysis.{Parts, window, ready, ending, response, bound}
use Rattle.model.specs.Tables.{Lawful}
use Rattle.model.proofs.ResponseLaws.{response_later, bound_greatest}
use Rattle.model.proofs.SumLaws.{greatest_at}
use Rattle.days.specs.Jobs.{unfinished, released}
use Rattle.days.specs.Rules.{State}
use Rattle.days.specs.declared.job.Job.{Job}
use Rattle.days.proofs.Members.{In}
use Rattle.days.proofs.Invariants.{Sound, Waits, Timely}

-- the bound is no less than what any offset of the window gives
offset_within_bound : (m : Parts) (i ticks A length : ℕ) → window m i ≡ Some ticks → A < ticks → ready m i A ≡ Some length → A < length → ending m i length - A ≤ bound m i
offset_within_bound m i ticks A length found early is later =
    omega (arith, greatest_at ticks A (response m i) early, response_later m i A length is later, bound_greatest m i ticks found)

module _ (m : Parts) (lawful : Lawful m) (sections_tasks : m.sections.tasks ≡ m.arrivals.tasks) (s : State) (sound : Sound m s) where
  -- from the busy window of the job: in its tail by what is served, and before it by the length of the window
  waited_in : (j : Job) → In j s.jobs → unfinished j ≡ true → Waits m (released j) j.received s → s.now - j.release < bound m j.task
  waited_in j member unended waits =
      let i = j.task in
      let sectioned : i < m.sections.tasks = omega (arith, sound.known j member) in
      let positive = lawful.sections.tail_positive i sectioned in
      let given = offset_within_bound m i waits.ticks (j.release - waits.start) waits.length waits.in_window waits.in_time waits.is_ready waits.later in
      ⊎_elim (λ in_tail. omega (arith, waits.in_tail in_tail, waits.busy.account, waits.early, sound.below_cost j member unended))
      (λ before_tail. omega (arith, waits.before_tail before_tail, waits.early))
      (cases_lt (m.sections.cost i - m.sections.tail i) j.received)

  -- In a timely state every unfinished job has waited fewer ticks than its bound.
  pub waited : Timely m s → (j : Job) → In j s.jobs → unfinished j ≡ true → s.now - j.release < bound m j.task
  waited timely j member unended = waited_in j member unended (timely.waits j member unended)
