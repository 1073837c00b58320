-- What the listed kinds of order mean, and what their makings refuse.
-- Cited by the crate `orders` and by the reference cases.
use Rattle.std.specs.Prelude.{ℕ, ◌+◌, ◌-◌, true, false, cond, List, length, None, Option, nat_le, nat_lt}
use Rattle.model.specs.Order.{OrderMeaning}
use Rattle.model.specs.Rows.{for_task, outside, making_fault}
use Rattle.model.specs.declared.fault.Fault.{Fault}
use Rattle.model.specs.declared.fault.Part.TheVariants.{Order}
use Rattle.model.specs.declared.fault.Refusal.{Refusal}
use Rattle.model.specs.declared.released.Reach.TheVariants.{Ticks, NoEnd}

-- what the rows of two tasks say together, or `otherwise` where one has none
abbrev pub for_both : {X Y : Type 0} → List X → ℕ → ℕ → Y → (X → X → Y) → Y
for_both rows i o otherwise says = for_task rows i otherwise (λ x. for_task rows o otherwise (says x))

-- Fixed priority: the larger urgency goes first, and jobs of equal urgency are level.
abbrev pub fixed_priority : List ℕ → OrderMeaning
fixed_priority urgencies = record {
  tasks = length urgencies;
  ahead = λ j l. for_both urgencies j.task l.task false (λ own other. nat_le other own);
  reach = λ i o A. for_both urgencies i o (Ticks 0) (λ own other. cond (nat_le own other) NoEnd (Ticks 0));
  counted = λ i o. for_both urgencies i o false (λ own other. nat_le own other);
  blocks = λ i l. for_both urgencies i l false (λ own lower. nat_lt lower own);
}

-- every urgency of a byte is allowed
abbrev pub urgency_refused : ℕ → Option Refusal
urgency_refused u = None

abbrev pub urgencies_fault : List ℕ → Option Fault
urgencies_fault = making_fault urgency_refused Order

-- Earliest deadline first: the earlier of release plus relative deadline goes first.
abbrev pub earliest_deadline : List ℕ → OrderMeaning
earliest_deadline deadlines = record {
  tasks = length deadlines;
  ahead = λ j l. for_both deadlines j.task l.task false (λ own other. nat_le (j.at + own) (l.at + other));
  reach = λ i o A. for_both deadlines i o (Ticks 0) (λ own other. Ticks (A + 1 + own - other));
  counted = λ i o. for_both deadlines i o false (λ own other. true);
  blocks = λ i l. for_both deadlines i l false (λ own lower. nat_lt own lower);
}

-- the longest relative deadline
abbrev pub most_relative_deadline : ℕ
most_relative_deadline = 100000

abbrev pub relative_deadlines_fault : List ℕ → Option Fault
relative_deadlines_fault = making_fault (outside 1 most_relative_deadline) Order
