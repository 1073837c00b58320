-- A served tick keeps what every state keeps.
use Rattle.std.proofs.Common.{◌≡◌, ◌+◌, ◌-◌, ◌<◌, ◌≤◌, true, refl, arith}
use Rattle.std.proofs.lemmas.Bool.{eq-eqb, and_from}
use Rattle.model.specs.Analysis.{Parts, tasks}
use Rattle.model.specs.Tables.{Lawful}
use Rattle.days.specs.Jobs.{held, unfinished, of_task, pending, served}
use Rattle.days.specs.Rules.{State}
use Rattle.days.specs.declared.command.Mark.{Mark}
use Rattle.days.specs.declared.job.Job.{Job}
use Rattle.days.proofs.Members.{In}
use Rattle.days.proofs.Invariants.{InTurn, Sound, Serves}
use Rattle.days.proofs.JobTicks.{Ticked, ticked}
use Rattle.days.proofs.ServedTick.{next, moved, served_in, served_unended, each_served, releases_after, one_held_after}
use Rattle.days.proofs.SortedLaws.{sorted_changed, first_earliest}

module _ (m : Parts) (lawful : Lawful m) (sections_tasks : m.sections.tasks ≡ m.arrivals.tasks)
    (s : State) (mark : Mark) (x : Job) (sound : Sound m s) (serves : Serves m s mark x) where
  -- no unfinished job of its task was released before the served one
  served_earliest : (l : Job) → In l s.jobs → l.task ≡ x.task → unfinished l ≡ true → x.release ≤ l.release
  served_earliest l member same unended =
      first_earliest (pending x.task) s.jobs x sound.sorted serves.is_first l member
      (and_from (of_task x.task l) (unfinished l) (eq-eqb l.task x.task same) unended)

  -- what its tick makes of the served job
  moved_ticked : Ticked m.sections (moved s mark x)
  moved_ticked =
      ticked m.sections lawful.sections (s.now + 1) x (omega (arith, sound.known x (served_in serves))) (served_unended serves) mark serves.may

  -- jobs of a task are still served in order of release
  served_in_turn : (j l : Job) → In j (next s mark x).jobs → In l (next s mark x).jobs → InTurn j l
  served_in_turn j l here there =
      each_served serves (λ (j : Job). InTurn j l)
      (each_served serves (InTurn (moved s mark x))
      (λ _ _ before. absurd (omega arith))
      (λ l old same _ before. sound.in_turn x l (served_in serves) old same (served_unended serves) before) l there)
      (λ j early. each_served serves (InTurn j)
      (λ same unended before. absurd (omega (arith, served_earliest j early same unended)))
      (λ l old. sound.in_turn j l early old) l there) j here

  -- A served tick keeps what every state keeps.
  pub sound_serve : Sound m (next s mark x)
  sound_serve =
      let inside = served_in serves in
      record {
        short = omega (arith, serves.room);
        known = each_served serves (λ j. j.task < tasks m) (sound.known x inside) sound.known;
        past = each_served serves (λ j. j.release ≤ s.now + 1) (omega (arith, sound.past x inside)) (λ j old. omega (arith, sound.past j old));
        sorted = sorted_changed (pending x.task) (served mark (s.now + 1)) (λ j. refl) s.jobs sound.sorted;
        within_cost =
            each_served serves (λ j. j.received ≤ m.sections.cost j.task)
            (omega (arith, sound.below_cost x inside (served_unended serves))) sound.within_cost;
        below_cost = each_served serves (λ j. unfinished j ≡ true → j.received < m.sections.cost j.task) moved_ticked.below_cost sound.below_cost;
        one_held = one_held_after serves sound;
        held_since =
            each_served serves (λ j. held j ≡ true → (1 ≤ j.since) × (j.since < m.sections.longest j.task))
            moved_ticked.held_since sound.held_since;
        tail_held =
            each_served serves (λ j. unfinished j ≡ true → m.sections.cost j.task - m.sections.tail j.task < j.received → held j ≡ true)
            moved_ticked.tail_held sound.tail_held;
        in_turn = served_in_turn;
        curve = λ k a d has last. rw (releases_after serves k a d) (sound.curve k a d has last);
      }
