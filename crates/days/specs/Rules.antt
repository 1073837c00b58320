-- The rules of the day book: what it holds, what it answers to a command, and what it holds afterwards.
-- Cited by every call that obeys a command.
use Rattle.std.specs.Prelude.{ℕ, ◌+◌, ◌-◌, Bool, false, cond, not, ◌&&◌, List, [], ◌∷◌, ◌++◌, length, Some, None, Option, ◌==◌, nat_le, nat_lt}
use Rattle.std.specs.List.{count_by, find, list_any}
use Rattle.model.specs.Analysis.{Parts, tasks}
use Rattle.model.specs.Choice.{◌or_else◌, if_some}
use Rattle.model.specs.Faults.{fault, no_task}
use Rattle.model.specs.declared.fault.Fault.{Fault}
use Rattle.model.specs.declared.fault.Part.TheVariants.{Book}
use Rattle.model.specs.declared.fault.Refusal.{Refusal}
use Rattle.model.specs.declared.fault.Refusal.TheVariants as refusal
use Rattle.days.specs.Jobs.{held, unfinished, of_task, pending, released, new_job, served, allowed}
use Rattle.days.specs.Lists.{change_first}
use Rattle.days.specs.declared.command.Command.{Command}
use Rattle.days.specs.declared.command.Command.TheVariants.{Release, Serve, Idle}
use Rattle.days.specs.declared.job.Job.{Job}

-- Now, and the jobs in order of release.
pub record State : Type 0 where
  pub now : ℕ
  pub jobs : List Job

-- a book as it is opened
abbrev pub new_state : State
new_state = record { now = 0; jobs = [] }

-- the most jobs of a book
abbrev pub most_jobs : ℕ
most_jobs = 512

-- the last tick of a book
abbrev pub last_tick : ℕ
last_tick = 1000000

-- the ticks that a command takes
abbrev pub ticks : Command → ℕ
ticks (Release k) = 0
ticks (Serve mark k) = 1
ticks (Idle n) = n

-- the task that is commanded
abbrev pub commanded : Command → ℕ
commanded (Release k) = k
commanded (Serve mark k) = k
commanded (Idle n) = no_task

-- What a taken command makes of the state: a job more, one tick of one job, or ticks that pass.
abbrev pub after : State → Command → State
after s (Release k) = record { now = s.now; jobs = s.jobs ++ new_job k s.now ∷ [] }
after s (Serve mark k) = record { now = s.now + 1; jobs = change_first (pending k) (served mark (s.now + 1)) s.jobs }
after s (Idle n) = record { now = s.now + n; jobs = s.jobs }

-- the releases of task k from a tick on
abbrev pub releases : ℕ → ℕ → List Job → ℕ
releases k tick jobs = count_by (λ j. of_task k j && nat_le tick j.release) jobs

module _ (m : Parts) where
  -- From the release of j to a tick there are more releases of task k among the jobs than its arrival curve allows.
  abbrev pub crowding : ℕ → ℕ → List Job → Job → Bool
  crowding tick k jobs j = of_task k j && nat_lt (m.arrivals.count k (tick - j.release + 1)) (releases k j.release jobs)

  -- an unfinished job that j is neither ahead of nor level with
  abbrev pub more_urgent : Job → Job → Bool
  more_urgent j l = unfinished l && not (m.order.ahead (released j) (released l))

-- a refusal of the book about a task, if a rule is broken
abbrev pub broken : Bool → Refusal → ℕ → Option Fault
broken so why k = cond so (Some (fault why Book k)) None

module _ (m : Parts) (s : State) where
  -- what is said of the job that a service of task k is for: its first unfinished job; no if there is none
  abbrev pub of_served : ℕ → (Job → Bool) → Bool
  of_served k says = if_some (find (pending k) s.jobs) false says

  -- The rules, by the number of their refusal: each says when a command breaks it.

  -- 7: the table does not have the task, or no tick would pass
  abbrev pub unreadable : Command → Bool
  unreadable (Release k) = nat_le (tasks m) k
  unreadable (Serve mark k) = nat_le (tasks m) k
  unreadable (Idle n) = n == 0

  -- 8: there is no room for the job, or the last tick would be passed
  abbrev pub full : Command → Bool
  full (Release k) = nat_le most_jobs (length s.jobs)
  full (Serve mark k) = nat_lt last_tick (s.now + 1)
  full (Idle n) = nat_lt last_tick (s.now + n)

  -- 9: with this release, some span from a release of the task to now has more releases than its arrival curve allows
  abbrev pub crowded : Command → Bool
  crowded (Release k) = let jobs = (after s (Release k)).jobs in list_any (crowding m s.now k jobs) jobs
  crowded (Serve mark k) = false
  crowded (Idle n) = false

  -- 10: the task has no unfinished job
  abbrev pub absent : Command → Bool
  absent (Release k) = false
  absent (Serve mark k) = not (list_any (pending k) s.jobs)
  absent (Idle n) = false

  -- 11: a job is held, and it is not the one to be served
  abbrev pub another_held : Command → Bool
  another_held (Release k) = false
  another_held (Serve mark k) = list_any held s.jobs && of_served k (λ j. not (held j))
  another_held (Idle n) = list_any held s.jobs

  -- 12: no job is held, and an unfinished one is more urgent; nothing is less urgent than idling
  abbrev pub behind : Command → Bool
  behind (Release k) = false
  behind (Serve mark k) = not (list_any held s.jobs) && of_served k (λ j. list_any (more_urgent m j) s.jobs)
  behind (Idle n) = list_any unfinished s.jobs

  -- 13: the sections do not allow the mark
  abbrev pub forbidden : Command → Bool
  forbidden (Release k) = false
  forbidden (Serve mark k) = of_served k (λ j. not (allowed m.sections mark j))
  forbidden (Idle n) = false

  -- The first rule that a command breaks, in the order of the numbers.
  abbrev pub refused : Command → Option Fault
  refused c =
      broken (unreadable c) refusal.Unread no_task
      or_else broken (full c) refusal.Full (commanded c)
      or_else broken (crowded c) refusal.Crowd (commanded c)
      or_else broken (absent c) refusal.Absent (commanded c)
      or_else broken (another_held c) refusal.Held (commanded c)
      or_else broken (behind c) refusal.Behind (commanded c)
      or_else broken (forbidden c) refusal.Section (commanded c)

-- what is answered to bytes that are no command
abbrev pub no_command : Fault
no_command = fault refusal.Unread Book no_task

-- what is answered to every command on a table that was refused
abbrev pub unfit : Fault
unfit = fault refusal.Unfit Book no_task

-- A book on a table with this verdict and these parts.
module _ (verdict : Option Fault) (m : Parts) (s : State) where
  -- The answer to a command, or to bytes that are none: why it is refused, or nothing if it is taken.
  abbrev pub answer : Option Command → Option Fault
  answer asked = if_some verdict (if_some asked (Some no_command) (refused m s)) (λ _. Some unfit)

  -- What the book holds after it: a refused one changes nothing.
  abbrev pub left : Option Command → State
  left asked = if_some (answer asked) (if_some asked s (after s)) (λ _. s)
