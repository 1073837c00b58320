-- What a command did to a state: its answer by the rules, and the state after it.
-- Cited by every call that obeys a command.
use Rattle.std.specs.Prelude.{◌≡◌, cond, List, Some, None, Option, Result}
use Rattle.std.specs.Result.{result_err}
use Rattle.std.specs.List.{list_any}
use Rattle.model.specs.Analysis.{Parts}
use Rattle.model.specs.Choice.{◌or_else◌, if_some}
use Rattle.model.specs.declared.fault.Fault.{Fault}
use Rattle.model.specs.declared.fault.Refusal.{Refusal}
use Rattle.model.specs.declared.fault.Refusal.TheVariants as refusal
use Rattle.days.specs.Jobs.{held, allowed}
use Rattle.days.specs.Rules.{State, after, more_urgent, refused}
use Rattle.days.specs.declared.command.Command.{Command}
use Rattle.days.specs.declared.command.Mark.{Mark}
use Rattle.days.specs.declared.job.Job.{Job}
use Rattle.timeline.specs.Timelines.{held_by}
use Rattle.timeline.specs.declared.state.Timeline.{Timeline}

-- Rules 11 to 13 for a job that is at hand, as the functions inside a service answer them; that they agree with the
-- rules is proved (`serve_answer`), and no public contract cites them.

-- why another job has to be served first
abbrev pub rival : Parts → List Job → Job → Option Refusal
rival m jobs j =
    cond (list_any held jobs) (cond (held j) None (Some refusal.Held))
    (cond (list_any (more_urgent m j) jobs) (Some refusal.Behind) None)

-- why a job may not be served for one tick with a mark, among these jobs
abbrev pub obstacle : Parts → List Job → Mark → Job → Option Refusal
obstacle m jobs mark j = rival m jobs j or_else cond (allowed m.sections mark j) None (Some refusal.Section)

pub record Obeyed (m : Parts) (c : Command) (before later : State) (why : Option Fault) : Type 0 where
  pub answer : why ≡ refused m before c
  -- a refused command changes nothing
  pub left : later ≡ if_some why (after before c) (λ _. before)

-- a command turned the one timeline into the other, with this result
abbrev pub ObeyedBy : {X : Type 0} → Parts → Command → Timeline → Timeline → Result X Fault → Type 0
ObeyedBy m c before later result = Obeyed m c (held_by before) (held_by later) (result_err result)
