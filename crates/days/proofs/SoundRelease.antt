-- What every state keeps holds of a new book, and a release and an idling keep it.
use Rattle.std.proofs.Common.{◌≡◌, ℕ, ◌+◌, ◌-◌, ◌<◌, ◌≤◌, true, false, refl, arith}
use Rattle.std.proofs.lemmas.Bool.{false≢true}
use Rattle.std.proofs.lemmas.List.Sums.{sum_by_push}
use Rattle.model.specs.Analysis.{Parts, tasks}
use Rattle.model.specs.Tables.{Lawful}
use Rattle.days.specs.Jobs.{held, unfinished, new_job}
use Rattle.days.specs.Rules.{State, new_state, last_tick, after, crowding}
use Rattle.days.specs.declared.command.Command.TheVariants.{Release, Idle}
use Rattle.days.specs.declared.job.Job.{Job}
use Rattle.days.proofs.Members.{In}
use Rattle.days.proofs.Invariants.{InTurn, Sound}
use Rattle.days.proofs.Crowding.{released_sorted, released_curve}
use Rattle.days.proofs.MemberLaws.{each_pushed}
use Rattle.days.proofs.SumsOver.{one_if}

-- what holds of the new job, and held of every job before, holds of every job
pub each_released : (s : State) (k : ℕ) (P : Job → Type 0) → P (new_job k s.now) → ((j : Job) → In j s.jobs → P j) → (j : Job) → In j (after s (Release k)).jobs → P j
each_released s k P new old = each_pushed P s.jobs (new_job k s.now) new old

module _ (m : Parts) where
  -- a new book is sound
  pub sound_new : Sound m new_state
  sound_new =
      record {
        short = omega arith;
        known = λ j none. absurd none;
        past = λ j none. absurd none;
        sorted = tt;
        within_cost = λ j none. absurd none;
        below_cost = λ j none. absurd none;
        one_held = omega arith;
        held_since = λ j none. absurd none;
        tail_held = λ j none. absurd none;
        in_turn = λ j l none. absurd none;
        curve = λ k a d has last. omega arith;
      }

  -- an idling leaves a sound state
  pub sound_idle : (s : State) (n : ℕ) → s.now + n ≤ last_tick → Sound m s → Sound m (after s (Idle n))
  sound_idle s n room sound =
      record {
        short = room;
        known = sound.known;
        past = λ j within. omega (arith, sound.past j within);
        sorted = sound.sorted;
        within_cost = sound.within_cost;
        below_cost = sound.below_cost;
        one_held = sound.one_held;
        held_since = sound.held_since;
        tail_held = sound.tail_held;
        in_turn = sound.in_turn;
        curve = sound.curve;
      }

  module _ (lawful : Lawful m) (sections_tasks : m.sections.tasks ≡ m.arrivals.tasks) (s : State) (k : ℕ) (has : k < tasks m) (sound : Sound m s)
      (uncrowded : (j : Job) → In j (after s (Release k)).jobs → crowding m s.now k (after s (Release k)).jobs j ≡ false) where
    -- A release that crowds no span keeps what every state keeps.
    pub sound_release : Sound m (after s (Release k))
    sound_release =
        let sectioned : k < m.sections.tasks = omega arith in
        let costs : 0 < m.sections.cost k = omega (arith, lawful.sections.tail_positive k sectioned, lawful.sections.tail_within k sectioned) in
        record {
          short = sound.short;
          known = each_released s k (λ j. j.task < tasks m) has sound.known;
          past = each_released s k (λ j. j.release ≤ s.now) (omega arith) sound.past;
          sorted = released_sorted m s k sound;
          within_cost = each_released s k (λ j. j.received ≤ m.sections.cost j.task) (omega arith) sound.within_cost;
          below_cost = each_released s k (λ j. unfinished j ≡ true → j.received < m.sections.cost j.task) (λ _. costs) sound.below_cost;
          one_held = omega (arith, sum_by_push (λ j. one_if (held j)) s.jobs (new_job k s.now), sound.one_held);
          held_since = each_released s k (λ j. held j ≡ true → (1 ≤ j.since) × (j.since < m.sections.longest j.task)) (λ holds. absurd (false≢true holds)) sound.held_since;
          tail_held =
              each_released s k (λ j. unfinished j ≡ true → m.sections.cost j.task - m.sections.tail j.task < j.received → held j ≡ true)
              (λ _ late. absurd (omega arith)) sound.tail_held;
          in_turn = λ j l here there.
              each_released s k (InTurn j) (λ _ _ _. refl)
              (λ l old. each_released s k (λ (j : Job). InTurn j l)
              (λ _ _ before. absurd (omega (arith, sound.past l old))) (λ j early. sound.in_turn j l early old) j here) l there;
          curve = released_curve m lawful s k has sound uncrowded;
        }
