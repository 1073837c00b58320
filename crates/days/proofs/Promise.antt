-- The promise: after every run of a book on an accepted table, each job that ended took at most its bound, and each that
-- has not has waited fewer ticks. And so it is with the bounds of any accepted heavier table.
use Rattle.std.proofs.Common.{◌≡◌, ℕ, ◌-◌, ◌<◌, ◌≤◌, true, false, not, List, Option, sym, refl, subst, arith}
use Rattle.std.proofs.ByRecursion.{All-map}
use Rattle.model.specs.Analysis.{Parts, tasks, bound}
use Rattle.model.specs.Tables.{Table, Lawful, Accepted}
use Rattle.model.specs.declared.fault.Fault.{Fault}
use Rattle.model.proofs.LighterLaws.{lighter_accepted}
use Rattle.model.proofs.VerdictLaws.{accepted_says}
use Rattle.days.specs.Days.{Call, Event, Led, reading, day_of}
use Rattle.days.specs.Jobs.{is_finished}
use Rattle.days.specs.Promise.{AtMost, InTime, KeepsBounds, NoDayWorse, NoDayWorseThanHeavier}
use Rattle.days.specs.Rules.{State, new_state, after, left}
use Rattle.days.specs.Views.{shown_time, shown, viewed}
use Rattle.days.specs.declared.command.Command.{Command}
use Rattle.days.specs.declared.command.Command.TheVariants.{Release, Serve, Idle}
use Rattle.days.specs.declared.job.JobState.{JobState}
use Rattle.days.specs.declared.job.JobState.TheVariants.{Waiting, Held, Finished}
use Rattle.days.proofs.Invariants.{Sound, Timely, Windows}
use Rattle.days.proofs.MemberLaws.{all_from_in}
use Rattle.days.proofs.Runs.{after_call, after_run, after_day, sound_after}
use Rattle.days.proofs.SoundRelease.{sound_new}
use Rattle.days.proofs.Taken.{KeepsRules, taken_release, taken_service, taken_idling}
use Rattle.days.proofs.TimelySteps.{timely_new, timely_release, timely_serve, timely_idle}
use Rattle.days.proofs.Views.{run, run_reading, led_reading}
use Rattle.days.proofs.Waited.{waited}

-- what is shown of a job's time keeps its bound, if the job did where it ended, and waited fewer ticks where it did not
shown_at_most : (state : JobState) (most took waited : ℕ) → (not (is_finished state) ≡ true → waited < most) → (not (is_finished state) ≡ false → took ≤ most) → AtMost most (shown_time state took) waited
shown_at_most Waiting most took waited waits ended = waits refl
shown_at_most Held most took waited waits ended = waits refl
shown_at_most Finished most took waited waits ended = ended refl

-- what is carried through a day: a sound state, and its busy windows
abbrev pub Carried : Parts → State → Type 0
Carried m s = Sound m s × Timely m s

-- A state in which it holds shows each job within any bounds that are no smaller.
pub timely_keeps : (m : Parts) (lawful : Lawful m) (sections_tasks : m.sections.tasks ≡ m.arrivals.tasks) (bounds : ℕ → ℕ)
    → ((k : ℕ) → k < tasks m → bound m k ≤ bounds k) → (s : State) → Carried m s → KeepsBounds bounds (viewed s)
timely_keeps m lawful sections_tasks bounds wider s held =
    All-map (InTime bounds s.now) shown s.jobs
    (all_from_in (λ j. InTime bounds s.now (shown j)) s.jobs
    (λ j within. let wide = wider j.task (held.0.known j within) in
    shown_at_most j.state (bounds j.task) j.took (s.now - j.release)
    (λ unended. omega (arith, waited m lawful sections_tasks s held.0 held.1 j within unended))
    (λ ended. omega (arith, held.1.ended j within ended))))

-- A table each of whose tasks has a window.
module _ (m : Parts) (lawful : Lawful m) (order_tasks : m.order.tasks ≡ m.arrivals.tasks) (sections_tasks : m.sections.tasks ≡ m.arrivals.tasks) (windows : Windows m) where
  -- a command that breaks no rule keeps the busy windows of a sound state
  timely_after : (s : State) (c : Command) → Sound m s → Sound m (after s c) → KeepsRules m s c → Timely m s → Timely m (after s c)
  timely_after s (Release k) sound sound-next kept timely =
      timely_release m lawful order_tasks sections_tasks windows s k (taken_release m s k kept).0 sound sound-next timely
  timely_after s (Serve mark k) sound sound-next kept timely =
      let taken = taken_service m s mark k kept in
      let sound-there = subst (λ n. Sound m (after s (Serve mark n))) (sym taken.1) sound-next in
      subst (λ n. Timely m (after s (Serve mark n))) taken.1
      (timely_serve m lawful order_tasks sections_tasks s mark taken.0 sound sound-there taken.2 timely)
  timely_after s (Idle n) sound sound-next kept timely =
      timely_idle m lawful order_tasks sections_tasks s n (taken_idling m s n kept).3 sound sound-next timely

  -- a command that breaks no rule keeps what is carried
  pub carried_after : (s : State) (c : Command) → Carried m s → KeepsRules m s c → Carried m (after s c)
  carried_after s c held kept =
      let sound-next = sound_after m lawful sections_tasks s c held.0 kept in
      (sound-next, timely_after s c held.0 sound-next kept held.1)

  module _ (verdict : Option Fault) where
    -- so does every call
    pub timely_left : (s : State) (c : Option Command) → Carried m s → Carried m (left verdict m s c)
    timely_left s c held = after_call verdict m (Carried m) s c held (λ command. carried_after s command held)

    -- The invariant holds after every run.
    pub run_timely : (calls : List Call) → Carried m (run verdict m new_state calls)
    run_timely calls = after_run verdict m (Carried m) carried_after new_state calls (sound_new m, timely_new m lawful order_tasks sections_tasks)

    -- And after every day.
    pub led_timely : {day : List Event} {s : State} → Led verdict m day s → Carried m s
    led_timely led = after_day verdict m (Carried m) carried_after (sound_new m, timely_new m lawful order_tasks sections_tasks) led

-- What acceptance gives: the parts of the table agree in their tasks, and each task has a window.
record Fit (m : Parts) : Type 0 where
  order_tasks : m.order.tasks ≡ m.arrivals.tasks
  sections_tasks : m.sections.tasks ≡ m.arrivals.tasks
  windows : Windows m

module _ (t : Table) (lawful : Lawful t.parts) (verdict : Option Fault) where
  -- what acceptance says of the parts
  fit : Accepted t → Fit t.parts
  fit accepted =
      let so = accepted_says t accepted in
      record {
        order_tasks = omega (arith, so.size);
        sections_tasks = omega (arith, so.size);
        windows = λ k has. let kept = so.each k (omega arith) in (kept.ticks, kept.found);
      }

  -- After every run of a book on an accepted table the jobs keep any bounds that are no smaller than its own.
  pub runs_keep : Accepted t → (bounds : ℕ → ℕ) → ((k : ℕ) → k < tasks t.parts → bound t.parts k ≤ bounds k)
      → (calls : List Call) → KeepsBounds bounds (reading (day_of verdict t.parts new_state calls))
  runs_keep accepted bounds wider calls =
      let so = fit accepted in
      subst (KeepsBounds bounds) (sym (run_reading verdict t.parts calls))
      (timely_keeps t.parts lawful so.sections_tasks bounds wider (run verdict t.parts new_state calls)
      (run_timely t.parts lawful so.order_tasks so.sections_tasks so.windows verdict calls))

  -- No day of a book is worse than its sheet.
  pub no_day_worse : NoDayWorse t verdict
  no_day_worse accepted calls = runs_keep accepted (bound t.parts) (λ k has. omega arith) calls

  -- Nor is it worse than the sheet of any accepted heavier table.
  pub no_day_worse_than_heavier : NoDayWorseThanHeavier t verdict
  no_day_worse_than_heavier heavy heavy-lawful accepted lighter calls =
      let both = lighter_accepted t heavy lawful heavy-lawful accepted lighter in
      runs_keep both.0 (bound heavy.parts) (λ k has. both.1 k (omega (arith, (accepted_says t both.0).size))) calls

  -- The day that leads to a state keeps the bounds of its sheet.
  pub led_keeps : Accepted t → {day : List Event} {s : State} → Led verdict t.parts day s → KeepsBounds (bound t.parts) (reading day)
  led_keeps accepted {day} {s} led =
      let so = fit accepted in
      subst (KeepsBounds (bound t.parts)) (sym (led_reading verdict t.parts led))
      (timely_keeps t.parts lawful so.sections_tasks (bound t.parts) (λ k has. omega arith) s
      (led_timely t.parts lawful so.order_tasks so.sections_tasks so.windows verdict led))
