-- The induction over the calls on a book: what a new book keeps, and every command that breaks no rule, is kept after
-- every run. And so every state is sound.
use Rattle.std.proofs.Common.{◌≡◌, List, [], ◌∷◌, Some, None, Option, refl, subst}
use Rattle.model.specs.Analysis.{Parts}
use Rattle.model.specs.Choice.{if_some}
use Rattle.model.specs.Tables.{Lawful}
use Rattle.model.specs.declared.fault.Fault.{Fault}
use Rattle.days.specs.Days.{Call, asked, Event, Led, opened, called}
use Rattle.days.specs.Rules.{State, new_state, after, answer, left}
use Rattle.days.specs.declared.command.Command.{Command}
use Rattle.days.specs.declared.command.Command.TheVariants.{Release, Serve, Idle}
use Rattle.days.proofs.Invariants.{Sound}
use Rattle.days.proofs.SoundRelease.{sound_new, sound_release, sound_idle}
use Rattle.days.proofs.SoundServe.{sound_serve}
use Rattle.days.proofs.Taken.{KeepsRules, taken_keeps, taken_release, taken_service, taken_idling}
use Rattle.days.proofs.Views.{run}

module _ (verdict : Option Fault) (m : Parts) (P : State → Type 0) where
  -- what holds of a state, and after each command that breaks no rule, holds after a call with this answer
  kept_by_answer : (s : State) (c : Option Command) (why : Option Fault) → answer verdict m s c ≡ why → P s → ((c : Command) → KeepsRules m s c → P (after s c)) → P (if_some why (if_some c s (after s)) (λ _. s))
  kept_by_answer s c (Some f) said holds kept = holds
  kept_by_answer s None None said holds kept = holds
  kept_by_answer s (Some c) None said holds kept = kept c (taken_keeps verdict m s c said).1

  -- so it does after every call
  pub after_call : (s : State) (c : Option Command) → P s → ((c : Command) → KeepsRules m s c → P (after s c)) → P (left verdict m s c)
  after_call s c holds kept = kept_by_answer s c (answer verdict m s c) refl holds kept

  module _ (kept : (s : State) (c : Command) → P s → KeepsRules m s c → P (after s c)) where
    -- what each command that breaks no rule keeps holds after every run
    pub after_run : (s : State) (calls : List Call) → P s → P (run verdict m s calls)
    after_run s [] holds = holds
    after_run s (c ∷ calls) holds = after_run (left verdict m s (asked c)) calls (after_call s (asked c) holds (λ command. kept s command holds))

    -- and of every state that a day leads to
    pub after_day : {day : List Event} {s : State} → P new_state → Led verdict m day s → P s
    after_day new opened = new
    after_day new (called {day} {s} led c) = let holds = after_day new led in after_call s c holds (λ command. kept s command holds)

module _ (m : Parts) (lawful : Lawful m) (sections_tasks : m.sections.tasks ≡ m.arrivals.tasks) where
  -- a command that breaks no rule leaves a sound state
  pub sound_after : (s : State) (c : Command) → Sound m s → KeepsRules m s c → Sound m (after s c)
  sound_after s (Release k) sound kept =
      let taken = taken_release m s k kept in
      sound_release m lawful sections_tasks s k taken.0 sound taken.2
  sound_after s (Serve mark k) sound kept =
      let taken = taken_service m s mark k kept in
      subst (λ n. Sound m (after s (Serve mark n))) taken.1 (sound_serve m lawful sections_tasks s mark taken.0 sound taken.2)
  sound_after s (Idle n) sound kept = sound_idle m s n (taken_idling m s n kept).1 sound

  module _ (verdict : Option Fault) where
    -- so does every call
    pub sound_taken : (s : State) (c : Option Command) → Sound m s → Sound m (left verdict m s c)
    sound_taken s c sound = after_call verdict m (Sound m) s c sound (λ command. sound_after s command sound)

    -- every run of a new book leaves a sound state
    pub run_sound : (calls : List Call) → Sound m (run verdict m new_state calls)
    run_sound calls = after_run verdict m (Sound m) sound_after new_state calls (sound_new m)

    -- and every day
    pub led_sound : {day : List Event} {s : State} → Led verdict m day s → Sound m s
    led_sound led = after_day verdict m (Sound m) sound_after (sound_new m) led
