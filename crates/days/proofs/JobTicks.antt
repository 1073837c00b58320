-- What one served tick makes of a job, by its mark.
use Rattle.std.proofs.Common.{◌≡◌, ℕ, ◌+◌, ◌-◌, ◌<◌, ◌≤◌, true, false, not, refl, arith}
use Rattle.std.proofs.lemmas.Bool.{false≢true, true≢false, both_ways}
use Rattle.model.specs.Sections.{SectionsMeaning, LawfulSections}
use Rattle.days.specs.Jobs.{is_held, is_finished, held, unfinished, next_state, next_since, next_took, served, allowed}
use Rattle.days.specs.declared.command.Mark.{Mark}
use Rattle.days.specs.declared.command.Mark.TheVariants.{Hold, Open, Done}
use Rattle.days.specs.declared.job.Job.{Job}
use Rattle.days.specs.declared.job.JobState.{JobState}
use Rattle.days.specs.declared.job.JobState.TheVariants.{Waiting, Held, Finished}

-- a job that was unfinished is held after the mark hold
hold_holds : (state : JobState) → not (is_finished state) ≡ true → is_held (next_state state Hold) ≡ true
hold_holds Waiting so = refl
hold_holds Held so = refl
hold_holds Finished so = absurd (false≢true so)

-- none is held after the mark open
open_frees : (state : JobState) → is_held (next_state state Open) ≡ false
open_frees Waiting = refl
open_frees Held = refl
open_frees Finished = refl

-- none is held after the mark done
done_frees : (state : JobState) → is_held (next_state state Done) ≡ false
done_frees Waiting = refl
done_frees Held = refl
done_frees Finished = refl

-- every job is finished after the mark done
done_ends : (state : JobState) → not (is_finished (next_state state Done)) ≡ false
done_ends Waiting = refl
done_ends Held = refl
done_ends Finished = refl

-- a job is held after a tick only if the ticks since its last opening go on
held_goes_on : (state : JobState) (mark : Mark) (since : ℕ) → is_held (next_state state mark) ≡ true → next_since mark since ≡ since + 1
held_goes_on state Hold since holds = refl
held_goes_on state Open since holds = absurd (both_ways _ (open_frees state) holds)
held_goes_on state Done since holds = refl

-- an unfinished job is finished after a tick only by the mark done
finished_by_done : (state : JobState) (mark : Mark) (time took : ℕ) → not (is_finished state) ≡ true → not (is_finished (next_state state mark)) ≡ false → next_took mark time took ≡ time
finished_by_done state Done time took before after = refl
finished_by_done Waiting Hold time took before after = absurd (true≢false after)
finished_by_done Held Hold time took before after = absurd (true≢false after)
finished_by_done Finished Hold time took before after = absurd (false≢true before)
finished_by_done Waiting Open time took before after = absurd (true≢false after)
finished_by_done Held Open time took before after = absurd (true≢false after)
finished_by_done Finished Open time took before after = absurd (false≢true before)

-- a job that is held after a tick has run one tick more since its last opening
pub served_since : (mark : Mark) (end : ℕ) (j : Job) → held (served mark end j) ≡ true → (served mark end j).since ≡ j.since + 1
served_since mark end j holds = held_goes_on j.state mark j.since holds

-- a job that ends with a tick took the time from its release
pub served_took : (mark : Mark) (end : ℕ) (j : Job) → unfinished j ≡ true → unfinished (served mark end j) ≡ false → (served mark end j).took ≡ end - j.release
served_took mark end j before after = finished_by_done j.state mark (end - j.release) j.took before after

-- What is known of a job that was served: unfinished, it has received less than its cost; held, it is within its
-- longest stretch; in its tail and unfinished, it is held.
pub record Ticked (m : SectionsMeaning) (j : Job) : Type 0 where
  pub below_cost : unfinished j ≡ true → j.received < m.cost j.task
  pub held_since : held j ≡ true → (1 ≤ j.since) × (j.since < m.longest j.task)
  pub tail_held : unfinished j ≡ true → m.cost j.task - m.tail j.task < j.received → held j ≡ true

module _ (m : SectionsMeaning) (laws : LawfulSections m) (end : ℕ) (x : Job) (has : x.task < m.tasks) (unended : unfinished x ≡ true) where
  -- a tick of an unfinished job with an allowed mark gives this
  pub ticked : (mark : Mark) → allowed m mark x ≡ true → Ticked m (served mark end x)
  ticked Hold may =
      record {
        below_cost = λ _. laws.hold_unfinished x.task _ _ _ has may;
        held_since = λ _. (omega arith, laws.hold_short x.task _ _ _ has may);
        tail_held = λ _ _. hold_holds x.state unended;
      }
  ticked Open may =
      let early = laws.open_before_tail x.task _ _ _ has may in
      record {
        below_cost = λ _. omega (arith, laws.tail_positive x.task has, laws.tail_within x.task has);
        held_since = λ holds. absurd (both_ways _ (open_frees x.state) holds);
        tail_held = λ _ late. absurd (omega arith);
      }
  ticked Done may =
      record {
        below_cost = λ goes_on. absurd (both_ways _ (done_ends x.state) goes_on);
        held_since = λ holds. absurd (both_ways _ (done_frees x.state) holds);
        tail_held = λ goes_on _. absurd (both_ways _ (done_ends x.state) goes_on);
      }
