-- Now is the sum of the ticks of the commands taken.
use Rattle.std.proofs.Common.{◌≡◌, ◌+◌, Bool, true, false, cond, List, [], ◌∷◌, Some, None, fold, Option, sym, refl, ap, ◌∙◌, arith}
use Rattle.std.specs.List.{sum_by}
use Rattle.std.proofs.lemmas.List.Sums.{sum_by-cons}
use Rattle.model.specs.Analysis.{Parts}
use Rattle.model.specs.Choice.{if_some}
use Rattle.model.specs.declared.fault.Fault.{Fault}
use Rattle.days.specs.Days.{Event, event_ticks, Led, Reading, nothing_read, read_command, read_event}
use Rattle.days.specs.Rules.{State, ticks}
use Rattle.days.specs.declared.command.Command.{Command}
use Rattle.days.specs.declared.command.Command.TheVariants.{Release, Serve, Idle}
use Rattle.days.specs.declared.command.Mark.TheVariants.{Hold, Open, Done}
use Rattle.days.proofs.Views.{led_reading}

-- a command moves the time by its ticks
read_ticks : (r : Reading) (c : Command) → (read_command r c).now ≡ r.now + ticks c
read_ticks r (Release k) = omega arith
read_ticks r (Serve Hold k) = refl
read_ticks r (Serve Open k) = refl
read_ticks r (Serve Done k) = refl
read_ticks r (Idle n) = refl

-- an event moves it by its own, if it was taken
read_moves : (r : Reading) (taken : Bool) (c : Option Command)
    → (cond taken (if_some c r (read_command r)) r).now ≡ r.now + cond taken (if_some c 0 ticks) 0
read_moves r true None = omega arith
read_moves r true (Some c) = read_ticks r c
read_moves r false c = omega arith

-- and the events of a day by the sum of theirs
read_sum : (r : Reading) (day : List Event) → (fold read_event r day).now ≡ r.now + sum_by event_ticks day
read_sum r [] = omega arith
read_sum r (e ∷ day) = omega (arith, read_sum (read_event r e) day, read_moves r e.taken e.command, sum_by-cons event_ticks e day)

-- Now is the sum of the ticks of the commands taken.
pub led_now : (verdict : Option Fault) (m : Parts) {day : List Event} {s : State} → Led verdict m day s → s.now ≡ sum_by event_ticks day
led_now verdict m {day} led = ap (λ r. r.now) (sym (led_reading verdict m led)) ∙ read_sum nothing_read day ∙ omega arith
