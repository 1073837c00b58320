-- What every state of a book keeps, and what the proof of the promise carries through a day.
use Rattle.std.proofs.Common.{◌≡◌, ℕ, ◌+◌, ◌-◌, ◌*◌, ◌<◌, ◌≤◌, Bool, true, false, ◌&&◌, eqb, ltb, leb, List, [], ◌∷◌, Some}
use Rattle.std.specs.List.{count_by, find, list_any, sum_by}
use Rattle.model.specs.Analysis.{Parts, tasks, blocked, others_work, window, ready, ending, bound}
use Rattle.model.specs.Arrivals.{last_length}
use Rattle.model.specs.Order.{job}
use Rattle.model.specs.Sums.{when}
use Rattle.model.specs.declared.released.Released.{Released}
use Rattle.days.specs.Jobs.{held, unfinished, of_task, pending, released, allowed}
use Rattle.days.specs.Rules.{State, last_tick}
use Rattle.days.specs.declared.command.Mark.{Mark}
use Rattle.days.specs.declared.job.Job.{Job}
use Rattle.days.proofs.Members.{In}

-- a release of task k in the d ticks from tick a on
abbrev pub in_span : ℕ → ℕ → ℕ → Job → Bool
in_span k a d j = of_task k j && (leb a j.release && ltb j.release (a + d))

-- how many they are
abbrev pub released_in : ℕ → ℕ → ℕ → List Job → ℕ
released_in k a d jobs = count_by (in_span k a d) jobs

-- releases never fall along the list
abbrev pub Sorted : List Job → Type 0
Sorted [] = Unit {0}
Sorted (j ∷ jobs) = ((l : Job) → In l jobs → j.release ≤ l.release) × Sorted jobs

-- while a job is unfinished, a later one of its task has received nothing
abbrev pub InTurn : Job → Job → Type 0
InTurn j l = j.task ≡ l.task → unfinished j ≡ true → j.release < l.release → l.received ≡ 0

module _ (m : Parts) where
  -- What every state of a book keeps, whether the table is accepted or not.
  pub record Sound (s : State) : Type 0 where
    -- the last tick is not passed
    pub short : s.now ≤ last_tick
    -- each job is of a task of the table, and was released by now
    pub known : (j : Job) → In j s.jobs → j.task < tasks m
    pub past : (j : Job) → In j s.jobs → j.release ≤ s.now
    -- the jobs stand in order of release
    pub sorted : Sorted s.jobs
    -- no job has received more than its cost, and an unfinished one has received less
    pub within_cost : (j : Job) → In j s.jobs → j.received ≤ m.sections.cost j.task
    pub below_cost : (j : Job) → In j s.jobs → unfinished j ≡ true → j.received < m.sections.cost j.task
    -- at most one job is held, and not for as long as its longest stretch
    pub one_held : count_by held s.jobs ≤ 1
    pub held_since : (j : Job) → In j s.jobs → held j ≡ true → (1 ≤ j.since) × (j.since < m.sections.longest j.task)
    -- an unfinished job in its tail is held
    pub tail_held : (j : Job) → In j s.jobs → unfinished j ≡ true → m.sections.cost j.task - m.sections.tail j.task < j.received → held j ≡ true
    -- the jobs of a task are served in order of release
    pub in_turn : (j l : Job) → In j s.jobs → In l s.jobs → InTurn j l
    -- no span of time has more releases than the arrival curve allows
    pub curve : (k a d : ℕ) → k < tasks m → d ≤ last_length → released_in k a d s.jobs ≤ m.arrivals.count k d

  -- A taken service is one tick of the first unfinished job of its task.
  pub record Serves (s : State) (mark : Mark) (x : Job) : Type 0 where
    pub is_first : find (pending x.task) s.jobs ≡ Some x
    -- if a job is held, it is this one
    pub alone : list_any held s.jobs ≡ true → held x ≡ true
    -- and else it is ahead of or level with every unfinished job
    pub foremost : list_any held s.jobs ≡ false → (l : Job) → In l s.jobs → unfinished l ≡ true → m.order.ahead (released x) (released l) ≡ true
    -- the sections allow the mark, and there is a tick left
    pub may : allowed m.sections mark x ≡ true
    pub room : s.now < last_tick

  -- A level is a job that has come or may come. A job is over it if it is ahead of or level with it.
  abbrev pub over : Released → Job → Bool
  over v j = m.order.ahead (released j) v

  -- a job over the level that was released from w on
  abbrev pub since_over : ℕ → Released → Job → Bool
  since_over w v j = leb w j.release && over v j

  -- the ticks received by the jobs over a level that were released from w on
  abbrev pub received_over : ℕ → Released → List Job → ℕ
  received_over w v jobs = sum_by (λ j. when (since_over w v j) j.received) jobs

  -- a held job that is not over the level blocks it, and has run longer than the b ticks that were lost to it
  pub record Blocker (v : Released) (b : ℕ) (l : Job) : Type 0 where
    pub blocks : m.order.blocks v.task l.task ≡ true
    pub other : eqb l.task v.task ≡ false
    pub longer : b + 1 ≤ l.since

  -- A busy window of a level: since tick w the processor served jobs over it that were released from w on, but for b ticks.
  pub record Busy (v : Released) (s : State) (w b : ℕ) : Type 0 where
    pub begun : w ≤ s.now
    -- every job over the level that was released before is finished
    pub earlier_ended : (j : Job) → In j s.jobs → over v j ≡ true → j.release < w → unfinished j ≡ false
    -- the ticks since then went to jobs over the level, but for those lost
    pub account : s.now ≡ w + (b + received_over w v s.jobs)
    -- no more are lost than can be to blocking
    pub within_blocked : b ≤ blocked m v.task
    pub blocker : (l : Job) → In l s.jobs → held l ≡ true → over v l ≡ false → Blocker v b l

  -- d ticks from w on are fewer than what can have been asked for in them
  abbrev pub Demanded : Released → List Job → ℕ → ℕ → Type 0
  Demanded v jobs w d =
      d < blocked m v.task + m.sections.cost v.task * released_in v.task w d jobs + others_work m v.task (v.at - w) d

  -- The busy window that a job would find which comes at the level.
  pub record Level (v : Released) (s : State) : Type 0 where
    pub start : ℕ
    pub lost : ℕ
    pub busy : Busy v s start lost
    -- each length of it is shorter than what can have been asked for in it
    pub demanded : (d : ℕ) → 1 ≤ d → start + d ≤ s.now → Demanded v s.jobs start d

  -- The busy window of an unfinished job, by its level and the ticks that it has received.
  pub record Waits (v : Released) (received : ℕ) (s : State) : Type 0 where
    pub start : ℕ
    pub lost : ℕ
    pub early : start ≤ v.at
    pub busy : Busy v s start lost
    -- the offset of its release lies in the task's window, and such a job is ready at some length behind it
    pub ticks : ℕ
    pub in_window : window m v.task ≡ Some ticks
    pub in_time : v.at - start < ticks
    pub length : ℕ
    pub is_ready : ready m v.task (v.at - start) ≡ Some length
    pub later : v.at - start < length
    -- before its tail, the window is shorter than that length
    pub before_tail : received ≤ m.sections.cost v.task - m.sections.tail v.task → s.now < start + length
    -- in its tail, what was served and what the job has still to receive end in time
    pub in_tail : m.sections.cost v.task - m.sections.tail v.task < received
        → (lost + received_over start v s.jobs) + (m.sections.cost v.task - received) ≤ ending m v.task length

  -- What is carried through a day on a table each of whose tasks has a window.
  pub record Timely (s : State) : Type 0 where
    -- each job that may still come would find a busy window
    pub levels : (i tick : ℕ) → i < tasks m → s.now ≤ tick → Level (job i tick) s
    -- each unfinished job has one
    pub waits : (j : Job) → In j s.jobs → unfinished j ≡ true → Waits (released j) j.received s
    -- each finished job kept its response-time bound
    pub ended : (j : Job) → In j s.jobs → unfinished j ≡ false → j.took ≤ bound m j.task

  -- every task has a window
  abbrev pub Windows : Type 0
  Windows = (k : ℕ) → k < tasks m → (w : ℕ) × (window m k ≡ Some w)
