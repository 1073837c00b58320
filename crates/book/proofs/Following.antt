-- A call that answers and leaves by the rules adds its event to the day.
use Rattle.std.proofs.Common.{◌≡◌, [], ◌∷◌, ◌++◌, Some, None, Option, sym, ap, ◌∙◌, subst}
use Rattle.model.specs.Analysis.{Parts}
use Rattle.model.specs.Choice.{if_some}
use Rattle.model.specs.declared.fault.Fault.{Fault}
use Rattle.days.specs.Days.{event, Led, called, Followed}
use Rattle.days.specs.Rules.{State, after, unfit, answer, left}
use Rattle.days.specs.declared.command.Command.{Command}
use Rattle.timeline.specs.Obeyed.{Obeyed}

pub followed : (verdict : Option Fault) (m : Parts) (s : State) (c : Option Command) (why : Option Fault) (later : State)
    → why ≡ answer verdict m s c → later ≡ left verdict m s c → Followed verdict m s c why later
followed verdict m s c why later answered leaves =
    record {
      answer = answered;
      left = leaves;
      day = λ day led. subst (Led verdict m (day ++ event verdict m s c ∷ [])) (sym leaves) (called led c);
    }

-- a book on a refused table
pub followed_unfit : (verdict : Option Fault) (m : Parts) (s : State) (c : Option Command) (reason : Fault)
    → verdict ≡ Some reason → Followed verdict m s c (Some unfit) s
followed_unfit verdict m s c reason refused = followed verdict m s c (Some unfit) s (rw refused) (rw refused)

-- a command that is obeyed by the rules
pub followed_obeyed : (verdict : Option Fault) (m : Parts) (s : State) (c : Command) (why : Option Fault) (later : State)
    → verdict ≡ None → Obeyed m c s later why → Followed verdict m s (Some c) why later
followed_obeyed verdict m s c why later accepted obeyed =
    let answered : why ≡ answer verdict m s (Some c) = obeyed.answer ∙ rw accepted in
    followed verdict m s (Some c) why later answered (obeyed.left ∙ ap (λ found. if_some found (after s c) (λ _. s)) answered)

-- bytes that are no command
pub followed_unread : (verdict : Option Fault) (m : Parts) (s : State) (f : Fault) → Some f ≡ answer verdict m s None → Followed verdict m s None (Some f) s
followed_unread verdict m s f answered = followed verdict m s None (Some f) s answered (rw (sym answered))
