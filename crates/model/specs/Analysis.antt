-- The busy-window analysis: from what the parts mean to the window and the response-time bound of a task.
-- Cited by the contracts of judging and by both promises.
use Rattle.std.specs.Prelude.{ℕ, ◌+◌, ◌-◌, ◌*◌, not, ◌&&◌, Option, ◌==◌, nat_lt}
use Rattle.model.specs.Choice.{if_some}
use Rattle.model.specs.Arrivals.{ArrivalsMeaning}
use Rattle.model.specs.Order.{OrderMeaning, within}
use Rattle.model.specs.Sections.{SectionsMeaning}
use Rattle.model.specs.Least.{least}
use Rattle.model.specs.Sums.{when, total, greatest}

-- the three parts of a table, by what they mean
pub record Parts : Type 0 where
  pub arrivals : ArrivalsMeaning
  pub order : OrderMeaning
  pub sections : SectionsMeaning

-- the longest window, and the longest length that a search tries
abbrev pub longest_window : ℕ
longest_window = 100000

module _ (m : Parts) where
  -- how many tasks; a table whose parts disagree about it is refused before anything is worked out
  abbrev pub tasks : ℕ
  tasks = m.arrivals.tasks

  -- the ticks that d ticks' releases of task o can cost
  abbrev pub work : ℕ → ℕ → ℕ
  work o d = m.sections.cost o * m.arrivals.count o d

  -- the ticks for which a job of task l, started just before, can keep the processor from a job of task i that is ahead
  -- of it: its longest stretch less the tick that it has had
  abbrev pub blocking : ℕ → ℕ → ℕ
  blocking i l = when (not (l == i) && m.order.blocks i l) (m.sections.longest l - 1)

  unfoldable pub blocked : ℕ → ℕ
  blocked i = greatest tasks (blocking i)

  -- the work of the counted tasks, i among them
  abbrev pub counted_work : ℕ → ℕ → ℕ
  counted_work i d = total tasks (λ o. when (m.order.counted i o) (work o d))

  -- the ticks that task i can have to wait for, with its own, in d ticks from the start of a busy window
  unfoldable pub load : ℕ → ℕ → ℕ
  load i d = blocked i + counted_work i d

  -- The busy window of task i: the least length that its load fills, or none up to 100,000.
  unfoldable pub window : ℕ → Option ℕ
  window i = least (load i) longest_window

  -- the own share of a job of task i released A ticks into a window: the blocking, and the work of the task's jobs up
  -- to it, its own up to the first tick of its tail
  abbrev pub own_need : ℕ → ℕ → ℕ
  own_need i A = blocked i + work i (A + 1) - m.sections.tail i + 1

  -- the work of other tasks that can go before that job in d ticks
  abbrev pub others_work : ℕ → ℕ → ℕ → ℕ
  others_work i A d = total tasks (λ o. when (not (o == i)) (work o (within (m.order.reach i o A) d)))

  -- the ticks that are needed in d ticks from the start of the window for that job to be in its tail
  unfoldable pub need : ℕ → ℕ → ℕ → ℕ
  need i A d = own_need i A + others_work i A d

  -- the least length by which that job's tail has begun
  unfoldable pub ready : ℕ → ℕ → Option ℕ
  ready i A = least (need i A) longest_window

  -- the tick of the window by which the job has ended
  abbrev pub ending : ℕ → ℕ → ℕ
  ending i d = d + m.sections.tail i - 1

  -- the response time at offset A; no job can stand at an offset that it has passed when it is ready
  unfoldable pub response : ℕ → ℕ → ℕ
  response i A = if_some (ready i A) 0 (λ d. when (nat_lt A d) (ending i d - A))

  -- The response-time bound of task i: the greatest response time over the offsets of its window.
  unfoldable pub bound : ℕ → ℕ
  bound i = if_some (window i) 0 (λ w. greatest w (response i))
