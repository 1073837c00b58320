-- The levels and the unfinished jobs of a timely state through a release, and the busy window that the new job finds.
use Rattle.std.proofs.Common.{◌≡◌, ℕ, ◌+◌, ◌-◌, ◌<◌, ◌≤◌, true, false, refl, mul-le-mul_left, arith}
use Rattle.std.proofs.lemmas.Bool.{false≢true}
use Rattle.std.proofs.lemmas.List.Sums.{sum_by_push}
use Rattle.model.specs.Analysis.{Parts, tasks}
use Rattle.model.specs.Order.{job}
use Rattle.model.specs.Sums.{when}
use Rattle.model.specs.Tables.{Lawful}
use Rattle.model.specs.declared.released.Released.{Released}
use Rattle.model.proofs.AnalysisLaws.{ready_found}
use Rattle.model.proofs.SumLaws.{when_below}
use Rattle.days.specs.Jobs.{held, unfinished, new_job}
use Rattle.days.specs.Rules.{State, after}
use Rattle.days.specs.declared.command.Command.TheVariants.{Release}
use Rattle.days.proofs.Invariants.{Sound, Blocker, Busy, Level, Waits, Windows, in_span, released_in, over, since_over, received_over}
use Rattle.days.proofs.Offsets.{offset_in_window, offset_ready}
use Rattle.days.proofs.SoundRelease.{each_released}
use Rattle.days.proofs.Spans.{in_span_from, releases_longer}
use Rattle.days.proofs.SumsOver.{one_if}

module _ (m : Parts) (s : State) (k : ℕ) where
  -- a new job has received nothing
  received_release : (v : Released) (w : ℕ) → received_over m w v (after s (Release k)).jobs ≡ received_over m w v s.jobs
  received_release v w =
      let fresh = new_job k s.now in
      omega (arith, sum_by_push (λ j. when (since_over m w v j) j.received) s.jobs fresh, when_below (since_over m w v fresh) 0 0 (λ _. omega arith))

  -- a busy window through a release
  busy_release : (v : Released) (w b : ℕ) → Busy m v s w b → Busy m v (after s (Release k)) w b
  busy_release v w b busy =
      record {
        begun = busy.begun;
        earlier_ended =
            each_released s k (λ j. over m v j ≡ true → j.release < w → unfinished j ≡ false)
            (λ _ earlier. absurd (omega (arith, busy.begun))) busy.earlier_ended;
        account = rw (received_release v w) busy.account;
        within_blocked = busy.within_blocked;
        blocker = each_released s k (λ l. held l ≡ true → over m v l ≡ false → Blocker m v b l) (λ holds _. absurd (false≢true holds)) busy.blocker;
      }

  -- no span loses a release
  releases_grow : (i a d : ℕ) → released_in i a d s.jobs ≤ released_in i a d (after s (Release k)).jobs
  releases_grow i a d = omega (arith, sum_by_push (λ j. one_if (in_span i a d j)) s.jobs (new_job k s.now))

  -- a level through a release: what can have been asked for only grows
  pub level_release : (v : Released) → Level m v s → Level m v (after s (Release k))
  level_release v level =
      record {
        start = level.start;
        lost = level.lost;
        busy = busy_release v level.start level.lost level.busy;
        demanded = λ d positive short.
            let more = mul-le-mul_left (m.sections.cost v.task) (releases_grow v.task level.start d) in
            omega (arith, level.demanded d positive short);
      }

  -- an unfinished job through a release
  pub waits_release : (v : Released) (received : ℕ) → Waits m v received s → Waits m v received (after s (Release k))
  waits_release v received waits =
      record {
        start = waits.start;
        lost = waits.lost;
        early = waits.early;
        busy = busy_release v waits.start waits.lost waits.busy;
        ticks = waits.ticks;
        in_window = waits.in_window;
        in_time = waits.in_time;
        length = waits.length;
        is_ready = waits.is_ready;
        later = waits.later;
        before_tail = waits.before_tail;
        in_tail = λ within. rw (received_release v waits.start) (waits.in_tail within);
      }

module _ (m : Parts) (lawful : Lawful m) (order_tasks : m.order.tasks ≡ m.arrivals.tasks) (sections_tasks : m.sections.tasks ≡ m.arrivals.tasks)
    (windows : Windows m) (s : State) (k : ℕ) (has : k < tasks m) (sound : Sound m s) (sound-next : Sound m (after s (Release k))) (level : Level m (job k s.now) s) where
  -- the new job is one more than the releases before it
  one_more : (d : ℕ) → d ≤ s.now - level.start → released_in k level.start d s.jobs + 1 ≤ m.arrivals.count k (s.now - level.start + 1)
  one_more d short =
      let w = level.start in
      let e = s.now - w + 1 in
      let fresh = new_job k s.now in
      let own : one_if (in_span k w e fresh) ≡ 1 = rw (in_span_from k w e fresh refl level.busy.begun (omega (arith, level.busy.begun))) in
      omega (arith, sound-next.curve k w e has (omega (arith, sound.short)), sum_by_push (λ j. one_if (in_span k w e j)) s.jobs fresh, releases_longer k w d e s.jobs (omega arith))

  -- the busy window that the new job finds
  pub waits_new : Waits m (job k s.now) 0 (after s (Release k))
  waits_new =
      let w = level.start in
      let A = s.now - w in
      let begun = level.busy.begun in
      let releases = λ (d : ℕ). released_in k w d s.jobs in
      let asked = λ (d : ℕ) (positive : 1 ≤ d) (short : d ≤ A). level.demanded d positive (omega arith) in
      let ticks = windows k has in
      let in_time = offset_in_window m lawful order_tasks sections_tasks k A has releases asked (λ d _ last. sound.curve k w d has last) ticks.0 ticks.1 in
      let found = ready_found m lawful order_tasks sections_tasks k ticks.0 A has ticks.1 in_time in
      let later = offset_ready m lawful order_tasks sections_tasks k A has releases asked one_more found.0 found.1 in
      record {
        start = w;
        lost = level.lost;
        early = begun;
        busy = busy_release m s k (job k s.now) w level.lost level.busy;
        ticks = ticks.0;
        in_window = ticks.1;
        in_time = in_time;
        length = found.0;
        is_ready = found.1;
        later = later;
        before_tail = λ _. omega arith;
        in_tail = λ within. absurd (omega arith);
      }
