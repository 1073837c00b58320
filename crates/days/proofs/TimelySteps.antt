-- The busy windows through a day: a new book is timely, and every taken command keeps a state timely.
use Rattle.std.proofs.Common.{◌≡◌, ℕ, zero, suc, ◌+◌, ◌<◌, ◌≤◌, true, false, refl, add-zero, arith}
use Rattle.std.specs.List.{list_any}
use Rattle.std.proofs.lemmas.Bool.{both_ways, true≢false}
use Rattle.model.specs.Analysis.{Parts, tasks, bound}
use Rattle.model.specs.Order.{job}
use Rattle.model.specs.Tables.{Lawful}
use Rattle.days.specs.Jobs.{unfinished, released}
use Rattle.days.specs.Rules.{State, new_state, after}
use Rattle.days.specs.declared.command.Command.TheVariants.{Release, Serve, Idle}
use Rattle.days.specs.declared.command.Mark.{Mark}
use Rattle.days.specs.declared.job.Job.{Job}
use Rattle.days.proofs.Invariants.{Sound, Serves, Waits, Timely, Windows}
use Rattle.days.proofs.JobTicks.{served_took}
use Rattle.days.proofs.MemberLaws.{any_none}
use Rattle.days.proofs.ReleaseSteps.{level_release, waits_release, waits_new}
use Rattle.days.proofs.Restart.{none_over, restarted}
use Rattle.days.proofs.ServeSteps.{level_serve, waits_serve}
use Rattle.days.proofs.ServedTick.{moved, served_in, served_unended, each_served}
use Rattle.days.proofs.SoundRelease.{sound_new, each_released}
use Rattle.days.proofs.Waited.{waited}

module _ (m : Parts) (lawful : Lawful m) (order_tasks : m.order.tasks ≡ m.arrivals.tasks) (sections_tasks : m.sections.tasks ≡ m.arrivals.tasks) where
  -- a new book is timely: every level begins
  pub timely_new : Timely m new_state
  timely_new =
      record {
        levels = λ i tick has later. restarted m lawful order_tasks new_state (sound_new m) (job i tick) has later (λ j none. absurd none) refl;
        waits = λ j none. absurd none;
        ended = λ j none. absurd none;
      }

  -- a release keeps a state timely
  pub timely_release : Windows m → (s : State) (k : ℕ) → k < tasks m → Sound m s → Sound m (after s (Release k)) → Timely m s → Timely m (after s (Release k))
  timely_release windows s k has sound sound-next timely =
      record {
        levels = λ i tick there later. level_release m s k (job i tick) (timely.levels i tick there later);
        waits =
            each_released s k (λ j. unfinished j ≡ true → Waits m (released j) j.received (after s (Release k)))
            (λ _. waits_new m lawful order_tasks sections_tasks windows s k has sound sound-next (timely.levels k s.now has (omega arith)))
            (λ j old unended. waits_release m s k (released j) j.received (timely.waits j old unended));
        ended = each_released s k (λ j. unfinished j ≡ false → j.took ≤ bound m j.task) (λ ended. absurd (true≢false ended)) timely.ended;
      }

  -- a served tick keeps a state timely
  pub timely_serve : (s : State) (mark : Mark) (x : Job) → Sound m s → Sound m (after s (Serve mark x.task)) → Serves m s mark x → Timely m s → Timely m (after s (Serve mark x.task))
  timely_serve s mark x sound sound-next serves timely =
      record {
        levels = λ i tick has later.
            level_serve m lawful order_tasks sections_tasks s mark x sound sound-next serves (job i tick) has later (timely.levels i tick has (omega arith));
        waits = waits_serve m lawful order_tasks sections_tasks s mark x sound sound-next serves timely.waits;
        ended = each_served serves (λ j. unfinished j ≡ false → j.took ≤ bound m j.task) moved_ended timely.ended;
      }
    where
      -- a job that ends with the tick had waited fewer ticks before it
      moved_ended : unfinished (moved s mark x) ≡ false → (moved s mark x).took ≤ bound m x.task
      moved_ended ended =
          omega (
            arith,
            served_took mark (s.now + 1) x (served_unended serves) ended,
            waited m lawful sections_tasks s sound timely x (served_in serves) (served_unended serves),
            sound.past x (served_in serves),
          )

  -- an idling keeps a state timely, if no job is unfinished: every level begins anew
  pub timely_idle : (s : State) (n : ℕ) → list_any unfinished s.jobs ≡ false → Sound m s → Sound m (after s (Idle n)) → Timely m s → Timely m (after s (Idle n))
  timely_idle s zero none sound sound-next timely = rw (add-zero s.now) timely
  timely_idle s (suc n) none sound sound-next timely =
      let s' = after s (Idle (suc n)) in
      record {
        levels = λ i tick has later.
            restarted m lawful order_tasks s' sound-next (job i tick) has later (λ j member. omega (arith, sound.past j member)) (none_over m (job i tick) s' none);
        waits = λ j member unended. absurd (both_ways (unfinished j) (any_none unfinished s.jobs none j member) unended);
        ended = timely.ended;
      }
