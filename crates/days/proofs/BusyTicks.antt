-- A busy window through one served tick, while a job over its level is unfinished: the tick goes to a job over the level,
-- or to the one that is held and blocks it.
use Rattle.std.proofs.Common.{◌≡◌, ℕ, ◌+◌, ◌-◌, ◌<◌, ◌≤◌, true, false, not, eqb, leb, subst, ⊎_elim, arith}
use Rattle.std.specs.List.{list_any}
use Rattle.std.proofs.lemmas.Bool.{cases_Bool, both_ways, and_from, and_right, not_from_false, le-leb}
use Rattle.model.specs.Analysis.{Parts, tasks, blocked, blocking}
use Rattle.model.specs.Sums.{when}
use Rattle.model.specs.Tables.{Lawful}
use Rattle.model.specs.declared.released.Released.{Released}
use Rattle.model.proofs.SumLaws.{greatest_at}
use Rattle.days.specs.Jobs.{held, unfinished, released}
use Rattle.days.specs.Rules.{State}
use Rattle.days.specs.declared.command.Mark.{Mark}
use Rattle.days.specs.declared.job.Job.{Job}
use Rattle.days.proofs.Members.{In}
use Rattle.days.proofs.Invariants.{Sound, Serves, Blocker, Busy, over, since_over}
use Rattle.days.proofs.Accounts.{in_window_released}
use Rattle.days.proofs.JobTicks.{served_since}
use Rattle.days.proofs.ServedTick.{next, moved, served_in, served_unended, each_served, sum_after, held_is_moved}

-- what is lost to a blocker in one more tick is still within what can block the task
lost_within_blocked : (m : Parts) (v : Released) (b : ℕ) (l : Job) → l.task < tasks m → Blocker m v b l → l.since < m.sections.longest l.task → b + 1 ≤ blocked m v.task
unfolding blocked
lost_within_blocked m v b l has by short =
    let counts = and_from (not (eqb l.task v.task)) (m.order.blocks v.task l.task) (not_from_false (eqb l.task v.task) by.other) by.blocks in
    let term : blocking m v.task l.task ≡ m.sections.longest l.task - 1 = rw counts in
    omega (arith, greatest_at (tasks m) l.task (blocking m v.task) has)

module _ (m : Parts) (lawful : Lawful m) (order_tasks : m.order.tasks ≡ m.arrivals.tasks)
    (s : State) (mark : Mark) (x : Job) (sound : Sound m s) (serves : Serves m s mark x)
    (v : Released) (has : v.task < tasks m) (w b : ℕ) (busy : Busy m v s w b) where
  -- while a job over the level is unfinished, the served job is over it too, or held
  over_or_held : (q : Job) → In q s.jobs → over m v q ≡ true → unfinished q ≡ true → over m v x ≡ false → held x ≡ true
  over_or_held q member is unended below =
      let ordered : (v.task < m.order.tasks) × (q.task < m.order.tasks) × (x.task < m.order.tasks) =
      omega (arith, sound.known q member, sound.known x (served_in serves)) in
      ⊎_elim (λ some. serves.alone some)
      (λ none. absurd (both_ways (over m v x) below
      (lawful.order.carries (released x) (released q) v ordered.2 ordered.1 ordered.0 (serves.foremost none q member unended) is)))
      (cases_Bool (list_any held s.jobs))

  -- a tick of a job over the level
  busy_over : over m v x ≡ true → Busy m v (next s mark x) w b
  busy_over is =
      let from = in_window_released m v s w b busy x (served_in serves) is (served_unended serves) in
      let since = and_from (leb w x.release) (over m v x) (le-leb w x.release from) is in
      let term = λ (j : Job). when (since_over m w v j) j.received in
      let old-term : term x ≡ x.received = rw since in
      let new_term : term (moved s mark x) ≡ x.received + 1 = rw since in
      record {
        begun = omega arith;
        earlier_ended =
            each_served serves (λ j. over m v j ≡ true → j.release < w → unfinished j ≡ false) (λ _ earlier. absurd (omega arith)) busy.earlier_ended;
        account = omega (arith, sum_after serves term);
        within_blocked = busy.within_blocked;
        blocker = λ l member is_held_lem below.
            absurd (both_ways (over m v l) below (rw (held_is_moved serves sound l member is_held_lem) is));
      }

  -- a tick of the job that blocks the level
  busy_blocked : over m v x ≡ false → held x ≡ true → Busy m v (next s mark x) w (b + 1)
  busy_blocked below is_held_lem =
      let inside = served_in serves in
      let by = busy.blocker x inside is_held_lem below in
      let since = and_right (leb w x.release) (over m v x) below in
      let term = λ (j : Job). when (since_over m w v j) j.received in
      let old-term : term x ≡ 0 = rw since in
      let new_term : term (moved s mark x) ≡ 0 = rw since in
      record {
        begun = omega arith;
        earlier_ended =
            each_served serves (λ j. over m v j ≡ true → j.release < w → unfinished j ≡ false)
            (λ above _. absurd (both_ways (over m v x) below above)) busy.earlier_ended;
        account = omega (arith, sum_after serves term);
        within_blocked = lost_within_blocked m v b x (sound.known x inside) by (sound.held_since x inside is_held_lem).1;
        blocker = λ l member held-l below-l.
            let same = held_is_moved serves sound l member held-l in
            let longer : b + 1 + 1 ≤ (moved s mark x).since = omega (arith, served_since mark (s.now + 1) x (subst (λ l. held l ≡ true) same held-l), by.longer) in
            rw same (record { blocks = by.blocks; other = by.other; longer = longer });
      }

  -- the busy window goes on, whichever it is
  pub busy_served : (q : Job) → In q s.jobs → over m v q ≡ true → unfinished q ≡ true → (c : ℕ) × Busy m v (next s mark x) w c
  busy_served q member is unended =
      ⊎_elim (λ above. (b, busy_over above)) (λ below. (b + 1, busy_blocked below (over_or_held q member is unended below)))
      (cases_Bool (over m v x))
