-- What the listed kinds of sections mean, and what their makings refuse.
-- Cited by the crate `sections` and by the reference cases.
use Rattle.std.specs.Prelude.{◌≡◌, ℕ, zero, suc, ◌-◌, ◌<◌, ◌≤◌, max, Bool, true, false, cond, ◌&&◌, List, [], ◌∷◌, length, take, Some, None, sum, Option, ◌==◌, nat_le, nat_lt, slice_index}
use Rattle.kinds.specs.Numbers.{used}
use Rattle.kinds.specs.declared.FloatingTask.{FloatingTask}
use Rattle.model.specs.Choice.{◌or_else◌}
use Rattle.model.specs.Rows.{for_task, outside, making_fault}
use Rattle.model.specs.Sections.{SectionsMeaning, most_cost}
use Rattle.model.specs.declared.fault.Fault.{Fault}
use Rattle.model.specs.declared.fault.Part.TheVariants.{Sections}
use Rattle.model.specs.declared.fault.Refusal.{Refusal}
use Rattle.model.specs.declared.fault.Refusal.TheVariants as refusal

-- What the sections of one task are: its three lengths, and what it answers to a tick's mark.
pub record Shape : Type 0 where
  pub cost : ℕ
  pub longest : ℕ
  pub tail : ℕ
  pub hold : ℕ → ℕ → ℕ → Bool
  pub opens : ℕ → ℕ → ℕ → Bool
  pub done : ℕ → ℕ → ℕ → Bool

-- the laws of sections, of the shape of one task
pub record LawfulShape (shape : Shape) : Type 0 where
  pub tail_positive : 1 ≤ shape.tail
  pub tail_within : shape.tail ≤ shape.cost
  pub longest_positive : 1 ≤ shape.longest
  pub longest_within : shape.longest ≤ shape.cost
  pub cost_bounded : shape.cost ≤ most_cost
  pub hold_short : (r s p : ℕ) → shape.hold r s p ≡ true → s < shape.longest
  pub hold_unfinished : (r s p : ℕ) → shape.hold r s p ≡ true → r < shape.cost
  pub open_before_tail : (r s p : ℕ) → shape.opens r s p ≡ true → r ≤ shape.cost - shape.tail
  pub finish_within : (r s p : ℕ) → shape.done r s p ≡ true → r ≤ shape.cost

-- the part whose tasks have these shapes, each given by the row of its task
abbrev pub shaped : {X : Type 0} → (X → Shape) → List X → SectionsMeaning
shaped shape rows = record {
  tasks = length rows;
  cost = λ k. for_task rows k 0 (λ row. (shape row).cost);
  longest = λ k. for_task rows k 0 (λ row. (shape row).longest);
  tail = λ k. for_task rows k 0 (λ row. (shape row).tail);
  may_hold = λ k r s p. for_task rows k false (λ row. (shape row).hold r s p);
  may_open = λ k r s p. for_task rows k false (λ row. (shape row).opens r s p);
  may_finish = λ k r s p. for_task rows k false (λ row. (shape row).done r s p);
}

-- why such a part is not made of these rows, given what is refused about one
abbrev pub sections_fault : {X : Type 0} → (X → Option Refusal) → List X → Option Fault
sections_fault refused = making_fault refused Sections

-- Open, fully preemptive: every tick may be the last of a stretch.
abbrev pub open_shape : ℕ → Shape
open_shape cost = record {
  cost = cost;
  longest = 1;
  tail = 1;
  hold = λ r s p. false;
  opens = λ r s p. nat_lt r cost;
  done = λ r s p. nat_le r cost;
}

-- Shut, not preemptive: a job runs from its start to its end.
abbrev pub shut_shape : ℕ → Shape
shut_shape cost = record {
  cost = cost;
  longest = cost;
  tail = cost;
  hold = λ r s p. nat_lt r cost && nat_lt s cost;
  opens = λ r s p. false;
  done = λ r s p. nat_le r cost;
}

-- Floating: a stretch may begin anywhere and is at most so long.
abbrev pub floating_shape : FloatingTask → Shape
floating_shape task = record {
  cost = task.cost;
  longest = task.longest;
  tail = 1;
  hold = λ r s p. nat_lt s task.longest && nat_lt r task.cost;
  opens = λ r s p. nat_le s task.longest && nat_lt r task.cost;
  done = λ r s p. nat_le s task.longest && nat_le r task.cost;
}

-- the greatest of the numbers, and the last of them
abbrev pub largest : List ℕ → ℕ
largest [] = 0
largest (x ∷ xs) = max x (largest xs)

abbrev pub final : ℕ → List ℕ → ℕ
final x [] = x
final x (y ∷ ys) = final y ys

-- Points, preemption at fixed points: a job is the given segments one after the other, and opens between them.
-- In the tick after p openings the job is in segment p, counted from 0.
abbrev pub points_shape : List ℕ → Shape
points_shape segments = record {
  cost = sum segments;
  longest = largest segments;
  tail = final 0 segments;
  hold = λ r s p. nat_lt p (length segments) && (nat_lt s (slice_index segments p) && nat_lt r (sum (take (suc p) segments)));
  opens = λ r s p. nat_lt (suc p) (length segments) && (nat_le s (slice_index segments p) && nat_le r (sum (take (suc p) segments)));
  done = λ r s p. (suc p == length segments) && (nat_le s (final 0 segments) && nat_le r (sum segments));
}

abbrev pub open_sections : List ℕ → SectionsMeaning
open_sections = shaped open_shape

abbrev pub shut_sections : List ℕ → SectionsMeaning
shut_sections = shaped shut_shape

-- the making of open and of shut sections, from costs
abbrev pub costs_fault : List ℕ → Option Fault
costs_fault = sections_fault (outside 1 most_cost)

abbrev pub floating_sections : List FloatingTask → SectionsMeaning
floating_sections = shaped floating_shape

-- the cost first, then the longest stretch, which is at most the cost
abbrev pub floating_refused : FloatingTask → Option Refusal
floating_refused task = outside 1 most_cost task.cost or_else outside 1 task.cost task.longest

abbrev pub floating_fault : List FloatingTask → Option Fault
floating_fault = sections_fault floating_refused

-- a points row is eight numbers, the segments with 0 behind the last
abbrev pub points_sections : List (List ℕ) → SectionsMeaning
points_sections = shaped (λ row. points_shape (used row))

-- behind a 0 no number stands
abbrev pub number_behind : List ℕ → Option Refusal
number_behind [] = None
number_behind (x ∷ xs) = outside 0 most_cost x or_else cond (x == 0) (number_behind xs) (Some refusal.Order)

-- the segments behind the first
abbrev pub segments_refused : List ℕ → Option Refusal
segments_refused [] = None
segments_refused (zero ∷ xs) = number_behind xs
segments_refused (suc x ∷ xs) = outside 1 most_cost (suc x) or_else segments_refused xs

-- number by number, and then their sum
abbrev pub points_refused : List ℕ → Option Refusal
points_refused row = outside 1 most_cost (slice_index row 0) or_else (segments_refused row or_else outside 1 most_cost (sum (used row)))

abbrev pub points_fault : List (List ℕ) → Option Fault
points_fault = sections_fault points_refused
