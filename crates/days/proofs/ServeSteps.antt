-- The levels and the unfinished jobs of a timely state through one served tick.
use Rattle.std.proofs.Common.{◌≡◌, ℕ, ◌+◌, ◌-◌, ◌<◌, ◌≤◌, true, sym, subst, ⊎_elim, arith}
use Rattle.std.specs.List.{list_any}
use Rattle.std.proofs.lemmas.Bool.{cases_Bool, cases_lt, both_ways, and_parts}
use Rattle.model.specs.Analysis.{Parts, tasks, ending}
use Rattle.model.specs.Tables.{Lawful}
use Rattle.model.specs.declared.released.Released.{Released}
use Rattle.days.specs.Jobs.{held, unfinished, released}
use Rattle.days.specs.Rules.{State}
use Rattle.days.specs.declared.command.Mark.{Mark}
use Rattle.days.specs.declared.job.Job.{Job}
use Rattle.days.proofs.Members.{In}
use Rattle.days.proofs.Invariants.{Sound, Serves, Level, Waits, over, received_over}
use Rattle.days.proofs.Accounts.{over_itself, demanded_now, not_yet_ready}
use Rattle.days.proofs.BusyTicks.{busy_served}
use Rattle.days.proofs.MemberLaws.{any_some}
use Rattle.days.proofs.Restart.{unended_over, restarted}
use Rattle.days.proofs.ServedTick.{next, moved, served_in, served_unended, moved_in, each_served, releases_after, held_is_moved}

module _ (m : Parts) (lawful : Lawful m) (order_tasks : m.order.tasks ≡ m.arrivals.tasks) (sections_tasks : m.sections.tasks ≡ m.arrivals.tasks)
    (s : State) (mark : Mark) (x : Job) (sound : Sound m s) (sound-next : Sound m (next s mark x)) (serves : Serves m s mark x) where
  -- after a tick every job was released before now
  past_after : (j : Job) → In j (next s mark x).jobs → j.release < s.now + 1
  past_after =
      each_served serves (λ j. j.release < s.now + 1) (omega (arith, sound.past x (served_in serves))) (λ j old. omega (arith, sound.past j old))

  -- where an unfinished job is over a level after the tick, one was before it
  unended_before : (v : Released) (q : Job) → In q (next s mark x).jobs → over m v q ≡ true → unfinished q ≡ true
      → (p : Job) × In p s.jobs × (over m v p ≡ true) × (unfinished p ≡ true)
  unended_before v =
      each_served serves (λ q. over m v q ≡ true → unfinished q ≡ true → (p : Job) × In p s.jobs × (over m v p ≡ true) × (unfinished p ≡ true))
      (λ is _. (x, served_in serves, is, served_unended serves)) (λ q old is unended. (q, old, is, unended))

  -- a level over which a job is still unfinished keeps its busy window
  level_goes_on : (v : Released) → v.task < tasks m → s.now + 1 ≤ v.at → Level m v s
      → (q : Job) → In q (next s mark x).jobs → over m v q ≡ true → unfinished q ≡ true → Level m v (next s mark x)
  level_goes_on v has later level q member is unended =
      let w = level.start in
      let before = unended_before v q member is unended in
      let kept = busy_served m lawful order_tasks s mark x sound serves v has w level.lost level.busy before.0 before.1 before.2 before.3 in
      let begun = level.busy.begun in
      record {
        start = w;
        lost = kept.0;
        busy = kept.1;
        demanded = λ d positive short.
            ⊎_elim (λ (now : s.now < w + d).
            demanded_now m lawful order_tasks sections_tasks (next s mark x) sound-next past_after w kept.0 v has (omega arith) kept.1 q member is unended d (omega arith))
            (λ (before : w + d ≤ s.now). rw (releases_after serves v.task w d) (level.demanded d positive before))
            (cases_lt s.now (w + d));
      }

  -- a level through the tick
  pub level_serve : (v : Released) → v.task < tasks m → s.now + 1 ≤ v.at → Level m v s → Level m v (next s mark x)
  level_serve v has later level =
      ⊎_elim (λ some.
      let q = any_some (unended_over m v) (next s mark x).jobs some in
      let parts = and_parts (over m v q.0) (unfinished q.0) q.2 in
      level_goes_on v has later level q.0 q.1 parts.0 parts.1)
      (λ none. restarted m lawful order_tasks (next s mark x) sound-next v has later past_after none)
      (cases_Bool (list_any (unended_over m v) (next s mark x).jobs))

  -- an unfinished job through the tick, from what it had received before, if in its tail it ends in time
  waits_goes_on : (j : Job) → In j (next s mark x).jobs → unfinished j ≡ true → (r : ℕ) → r ≤ j.received → (waits : Waits m (released j) r s)
      → (m.sections.cost j.task - m.sections.tail j.task < j.received
      → waits.lost + received_over m waits.start (released j) s.jobs + 1 + (m.sections.cost j.task - j.received) ≤ ending m j.task waits.length)
      → Waits m (released j) j.received (next s mark x)
  waits_goes_on j member unended r less waits in_time =
      let w = waits.start in
      let has = sound-next.known j member in
      let before = unended_before (released j) j member (over_itself m lawful order_tasks sections_tasks j has) unended in
      let kept = busy_served m lawful order_tasks s mark x sound serves (released j) has w waits.lost waits.busy before.0 before.1 before.2 before.3 in
      record {
        start = w;
        lost = kept.0;
        early = waits.early;
        busy = kept.1;
        ticks = waits.ticks;
        in_window = waits.in_window;
        in_time = waits.in_time;
        length = waits.length;
        is_ready = waits.is_ready;
        later = waits.later;
        before_tail = λ waiting.
            let ended = waits.before_tail (omega arith) in
            not_yet_ready m lawful order_tasks sections_tasks (next s mark x) sound-next past_after w kept.0 j member waits.early kept.1 unended waiting
            waits.length waits.is_ready (omega arith);
        in_tail = λ within. omega (arith, kept.1.account, waits.busy.account, in_time within);
      }

  -- the served job, if it is still unfinished
  waits_moved : unfinished (moved s mark x) ≡ true → Waits m (released x) x.received s → Waits m (released x) (x.received + 1) (next s mark x)
  waits_moved unended waits =
      let i = x.task in
      let inside = served_in serves in
      let sectioned : i < m.sections.tasks = omega (arith, sound.known x inside) in
      let tail = lawful.sections.tail_within i sectioned in
      waits_goes_on (moved s mark x) (moved_in serves) unended x.received (omega arith) waits (λ within.
      ⊎_elim (λ in_tail. omega (arith, waits.in_tail in_tail, sound.below_cost x inside (served_unended serves)))
      (λ before_tail. omega (arith, waits.before_tail before_tail, waits.busy.account))
      (cases_lt (m.sections.cost i - m.sections.tail i) x.received))

  -- an unfinished job through the tick
  pub waits_serve : ((j : Job) → In j s.jobs → unfinished j ≡ true → Waits m (released j) j.received s)
      → (j : Job) → In j (next s mark x).jobs → unfinished j ≡ true → Waits m (released j) j.received (next s mark x)
  waits_serve waits j member =
      each_served serves GoesOn served (λ j old member unended.
      ⊎_elim (λ holds. subst GoesOn (sym (held_is_moved serves sound j member holds)) served member unended)
      (λ free. waits_goes_on j member unended j.received (omega arith) (waits j old unended)
      (λ in_tail. absurd (both_ways (held j) free (sound-next.tail_held j member unended in_tail))))
      (cases_Bool (held j))) j member member
    where
      -- a job has its busy window after the tick, if it is unfinished
      GoesOn : Job → Type 0
      GoesOn j = In j (next s mark x).jobs → unfinished j ≡ true → Waits m (released j) j.received (next s mark x)

      -- the served job has
      served : GoesOn (moved s mark x)
      served member unended = waits_moved unended (waits x (served_in serves) (served_unended serves))
