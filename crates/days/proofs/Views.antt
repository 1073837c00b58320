-- The reading of a day is the book's view: what is read off the events is what the state shows.
use Rattle.std.proofs.Common.{◌≡◌, ℕ, ◌+◌, true, cond, not, ◌&&◌, List, [], ◌∷◌, map, Some, None, fold, Option, sym, refl, ap, ◌∙◌, is_none}
use Rattle.std.proofs.lemmas.List.{map-append}
use Rattle.std.proofs.lemmas.List.Sums.{fold_push}
use Rattle.std.proofs.lemmas.Bool.{and_parts, false≢true}
use Rattle.model.specs.Analysis.{Parts}
use Rattle.model.specs.Choice.{if_some}
use Rattle.model.specs.declared.fault.Fault.{Fault}
use Rattle.days.specs.Days.{Call, asked, Event, event, day_of, Led, opened, called, nothing_read, not_ended, ended_at, read_command, read_event, reading}
use Rattle.days.specs.Jobs.{is_finished, unfinished, of_task, pending, new_job, next_state, served}
use Rattle.days.specs.Lists.{change_first}
use Rattle.days.specs.Rules.{State, new_state, after, answer, left}
use Rattle.days.specs.Views.{shown_time, shown, viewed}
use Rattle.days.specs.declared.command.Command.{Command}
use Rattle.days.specs.declared.command.Command.TheVariants.{Release, Serve, Idle}
use Rattle.days.specs.declared.command.Mark.{Mark}
use Rattle.days.specs.declared.command.Mark.TheVariants.{Hold, Open, Done}
use Rattle.days.specs.declared.job.Job.{Job}
use Rattle.days.specs.declared.job.JobState.{JobState}
use Rattle.days.specs.declared.job.JobState.TheVariants.{Waiting, Held, Finished}
use Rattle.days.proofs.MapLaws.{map_changed, map_unchanged}

-- no time is shown of a job if it is unfinished
shows_none : (state : JobState) (time : ℕ) → is_none (shown_time state time) ≡ not (is_finished state)
shows_none Waiting time = refl
shows_none Held time = refl
shows_none Finished time = refl

-- a job is pending if it is shown as not ended
shown_pending : (k : ℕ) (j : Job) → not_ended k (shown j) ≡ pending k j
shown_pending k j = ap (λ b. of_task k j && b) (shows_none j.state j.took)

-- after a tick with the mark done, an unfinished job shows its time
done_shows : (state : JobState) (time : ℕ) → not (is_finished state) ≡ true → shown_time (next_state state Done) time ≡ Some time
done_shows Waiting time so = refl
done_shows Held time so = refl
done_shows Finished time so = refl

-- a tick with this mark leaves what is shown of the time of an unfinished job
abbrev StaysShown : Mark → Type 0
StaysShown mark = (state : JobState) (time later : ℕ) → not (is_finished state) ≡ true → shown_time (next_state state mark) later ≡ shown_time state time

-- the mark hold does
hold_stays : StaysShown Hold
hold_stays Waiting time later so = refl
hold_stays Held time later so = refl
hold_stays Finished time later so = absurd (false≢true so)

-- and so does the mark open
open_stays : StaysShown Open
open_stays Waiting time later so = refl
open_stays Held time later so = refl
open_stays Finished time later so = absurd (false≢true so)

module _ (s : State) where
  -- a tick with which a job goes on leaves what is shown of the jobs
  goes_on : (mark : Mark) → StaysShown mark → (k : ℕ) → map shown (after s (Serve mark k)).jobs ≡ map shown s.jobs
  goes_on mark stays k =
      map_unchanged shown (pending k) (served mark (s.now + 1))
      (λ j is. ap (λ time. record { task = j.task; release = j.release; took = time })
      (stays j.state j.took _ (and_parts (of_task k j) (unfinished j) is).1)) s.jobs

  -- a tick with which a job ends shows its time
  ends : (k : ℕ) → map shown (after s (Serve Done k)).jobs ≡ change_first (not_ended k) (ended_at (s.now + 1)) (map shown s.jobs)
  ends k =
      map_changed shown (pending k) (not_ended k) (served Done (s.now + 1)) (ended_at (s.now + 1)) (shown_pending k)
      (λ j is. ap (λ time. record { task = j.task; release = j.release; took = time })
      (done_shows j.state _ (and_parts (of_task k j) (unfinished j) is).1)) s.jobs

  -- what a command makes of the state is what it adds to the reading
  pub read_after : (c : Command) → viewed (after s c) ≡ read_command (viewed s) c
  read_after (Release k) = ap (λ jobs. record { now = s.now; jobs = jobs }) (map-append shown s.jobs (new_job k s.now ∷ []))
  read_after (Serve Hold k) = ap (λ jobs. record { now = s.now + 1; jobs = jobs }) (goes_on Hold hold_stays k)
  read_after (Serve Open k) = ap (λ jobs. record { now = s.now + 1; jobs = jobs }) (goes_on Open open_stays k)
  read_after (Serve Done k) = ap (λ jobs. record { now = s.now + 1; jobs = jobs }) (ends k)
  read_after (Idle n) = refl

  -- what a call makes of the state, by the answer to it, is what it adds to the reading
  read_by_answer : (why : Option Fault) (c : Option Command)
      → viewed (if_some why (if_some c s (after s)) (λ _. s)) ≡ cond (is_none why) (if_some c (viewed s) (read_command (viewed s))) (viewed s)
  read_by_answer (Some f) c = refl
  read_by_answer None None = refl
  read_by_answer None (Some c) = read_after c

module _ (verdict : Option Fault) (m : Parts) where
  -- what a call leaves is shown as what its event adds
  pub read_left : (s : State) (c : Option Command) → viewed (left verdict m s c) ≡ read_event (viewed s) (event verdict m s c)
  read_left s c = read_by_answer s (answer verdict m s c) c

  -- the state after a list of calls
  abbrev pub run : State → List Call → State
  run s [] = s
  run s (c ∷ calls) = run (left verdict m s (asked c)) calls

  -- the reading of the calls, on top of what was shown before them
  pub run_viewed : (s : State) (calls : List Call) → fold read_event (viewed s) (day_of verdict m s calls) ≡ viewed (run s calls)
  run_viewed s [] = refl
  run_viewed s (c ∷ calls) =
      ap (λ r. fold read_event r (day_of verdict m (left verdict m s (asked c)) calls)) (sym (read_left s (asked c)))
      ∙ run_viewed (left verdict m s (asked c)) calls

  -- The reading of a day is the view of the state after its calls.
  pub run_reading : (calls : List Call) → reading (day_of verdict m new_state calls) ≡ viewed (run new_state calls)
  run_reading calls = run_viewed new_state calls

  -- and of the state that the day leads to
  pub led_reading : {day : List Event} {s : State} → Led verdict m day s → reading day ≡ viewed s
  led_reading opened = refl
  led_reading (called {day} {s} led c) =
      fold_push read_event nothing_read day (event verdict m s c)
      ∙ ap (λ r. read_event r (event verdict m s c)) (led_reading led) ∙ sym (read_left s c)
