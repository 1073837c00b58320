-- The listed kinds of sections keep the laws of sections: it is enough that the shape of each task's row keeps them.
use Rattle.std.proofs.Common.{◌≡◌, ℕ, zero, suc, ◌+◌, ◌≤◌, false, List, [], ◌∷◌, length, get_or, take, Some, None, sum, Option, IsNone, arith}
use Rattle.std.specs.List.{slice_get}
use Rattle.std.proofs.lemmas.List.Sums.{sum_by-cons, sum_by-take-le}
use Rattle.std.proofs.lemmas.Bool.Decides.{nat_tests}
use Rattle.model.specs.Rows.{outside}
use Rattle.model.specs.Sections.{SectionsMeaning, LawfulSections, most_cost}
use Rattle.model.specs.declared.fault.Fault.{Fault}
use Rattle.model.specs.declared.fault.Part.TheVariants.{Sections}
use Rattle.model.specs.declared.fault.Refusal.{Refusal}
use Rattle.kinds.specs.Numbers.{used}
use Rattle.kinds.specs.SectionKinds.{Shape, LawfulShape, shaped, sections_fault, open_shape, shut_shape, floating_shape, points_shape, largest, final, floating_refused, segments_refused, points_refused}
use Rattle.kinds.specs.declared.FloatingTask.{FloatingTask}
use Rattle.kinds.proofs.RowLaws.{row_of, for_absent, making_accepted, none_found, inside, neither}

-- Sections of lawful shapes keep the laws.
pub shaped_lawful : {X : Type 0} (shape : X → Shape) (rows : List X) → ((k : ℕ) (row : X) → slice_get rows k ≡ Some row → LawfulShape (shape row)) → LawfulSections (shaped shape rows)
shaped_lawful shape rows lawful = record {
  tail_positive = λ k within. let (row, at) = row_of rows k within in rw at (lawful k row at).tail_positive;
  tail_within = λ k within. let (row, at) = row_of rows k within in rw at (lawful k row at).tail_within;
  longest_positive = λ k within. let (row, at) = row_of rows k within in rw at (lawful k row at).longest_positive;
  longest_within = λ k within. let (row, at) = row_of rows k within in rw at (lawful k row at).longest_within;
  cost_bounded = λ k within. let (row, at) = row_of rows k within in rw at (lawful k row at).cost_bounded;
  hold_short = λ k r s p within. let (row, at) = row_of rows k within in rw at ((lawful k row at).hold_short r s p);
  hold_unfinished = λ k r s p within. let (row, at) = row_of rows k within in rw at ((lawful k row at).hold_unfinished r s p);
  open_before_tail = λ k r s p within. let (row, at) = row_of rows k within in rw at ((lawful k row at).open_before_tail r s p);
  finish_within = λ k r s p within. let (row, at) = row_of rows k within in rw at ((lawful k row at).finish_within r s p);
  absent_cost = λ k. for_absent rows k 0 _;
  absent_longest = λ k. for_absent rows k 0 _;
  absent_tail = λ k. for_absent rows k 0 _;
  absent_hold = λ k r s p. for_absent rows k false _;
  absent_open = λ k r s p. for_absent rows k false _;
  absent_finish = λ k r s p. for_absent rows k false _;
}

-- Sections whose making refuses every row without a lawful shape keep the laws.
pub made_lawful : {X : Type 0} (shape : X → Shape) (refused : X → Option Refusal) → ((row : X) → refused row ≡ None → LawfulShape (shape row)) → (rows : List X) → sections_fault refused rows ≡ None → LawfulSections (shaped shape rows)
made_lawful shape refused lawful rows none = shaped_lawful shape rows (λ k row at. lawful row (making_accepted refused Sections rows none k row at))

-- So does a part that means sections of these shapes, if its making found no fault.
pub part_lawful : {X : Type 0} {shape : X → Shape} {refused : X → Option Refusal} (part : List X → SectionsMeaning) (fault : List X → Option Fault) → ((row : X) → refused row ≡ None → LawfulShape (shape row)) → ((rows : List X) → part rows ≡ shaped shape rows) → ((rows : List X) → fault rows ≡ sections_fault refused rows) → (rows : List X) → IsNone (fault rows) → LawfulSections (part rows)
part_lawful {shape = shape} {refused = refused} part fault lawful shapes finds rows none =
    rw (shapes rows) (made_lawful shape refused lawful rows (rw (← finds rows) (none_found (fault rows) none)))

-- a task that opens at every tick, of a cost that is not refused
pub open_shape_lawful : (cost : ℕ) → outside 1 most_cost cost ≡ None → LawfulShape (open_shape cost)
open_shape_lawful cost none = let limits = inside 1 most_cost cost none in grind (arith, nat_tests)

-- a task that never opens, of a cost that is not refused
pub shut_shape_lawful : (cost : ℕ) → outside 1 most_cost cost ≡ None → LawfulShape (shut_shape cost)
shut_shape_lawful cost none = let limits = inside 1 most_cost cost none in grind (arith, nat_tests)

-- a task with floating sections that is not refused
pub floating_shape_lawful : (task : FloatingTask) → floating_refused task ≡ None → LawfulShape (floating_shape task)
floating_shape_lawful task none =
    let (none-cost, none-longest) = neither (outside 1 most_cost task.cost) _ none in
    let cost-limits = inside 1 most_cost task.cost none-cost in
    let longest-limits = inside 1 task.cost task.longest none-longest in
    grind (arith, nat_tests)

-- a list's sum, by its first number
sum_first : (x : ℕ) (xs : List ℕ) → sum (x ∷ xs) ≡ x + sum xs
sum_first = sum_by-cons (λ x. x)

-- the last of the segments is at most their sum
final_within : (x : ℕ) (xs : List ℕ) → final x xs ≤ sum (x ∷ xs)
final_within x [] = omega arith
final_within x (y ∷ ys) = omega (arith, final_within y ys, sum_first x (y ∷ ys))

-- the last of the used numbers behind one that is not 0 is not 0
final_positive : (x : ℕ) (row : List ℕ) → 1 ≤ x → 1 ≤ final x (used row)
final_positive x [] positive = positive
final_positive x (zero ∷ row) positive = positive
final_positive x (suc y ∷ row) positive = final_positive (suc y) row (omega arith)

-- the greatest of the numbers is at most their sum
largest_within : (xs : List ℕ) → largest xs ≤ sum xs
largest_within [] = omega arith
largest_within (x ∷ xs) = omega (arith, largest_within xs, sum_first x xs)

-- and no number is greater
at_most_largest : (xs : List ℕ) (p : ℕ) → get_or xs p 0 ≤ largest xs
at_most_largest [] p = omega arith
at_most_largest (x ∷ xs) zero = omega arith
at_most_largest (x ∷ xs) (suc p) = omega (arith, at_most_largest xs p)

-- segments from the first on that do not come to the last leave it over
last_left_over : (x : ℕ) (xs : List ℕ) (n : ℕ) → n ≤ length xs → sum (take n (x ∷ xs)) + final x xs ≤ sum (x ∷ xs)
last_left_over x xs zero before = omega (arith, final_within x xs)
last_left_over x [] (suc n) before = absurd (omega arith)
last_left_over x (y ∷ ys) (suc n) before =
    omega (arith, last_left_over y ys n, sum_first x (y ∷ ys), sum_first x (take n (y ∷ ys)))

-- segments of which neither the first nor the last is 0, and that are not too long in all, as a shape
segments_lawful : (x : ℕ) (xs : List ℕ) → 1 ≤ x → 1 ≤ final x xs → sum (x ∷ xs) ≤ most_cost → LawfulShape (points_shape (x ∷ xs))
segments_lawful x xs first last small =
    let tail = final_within x xs in
    let longest = largest_within (x ∷ xs) in
    record {
      tail_positive = last;
      tail_within = tail;
      longest_positive = omega arith;
      longest_within = longest;
      cost_bounded = small;
      hold_short = λ r s p holds. let segment = at_most_largest (x ∷ xs) p in grind (arith, nat_tests);
      hold_unfinished = λ r s p holds. let before = sum_by-take-le (λ x. x) (x ∷ xs) (suc p) in grind (arith, nat_tests);
      open_before_tail = λ r s p opens. let left = last_left_over x xs (suc p) in grind (arith, nat_tests);
      finish_within = λ r s p ends. grind (arith, nat_tests);
    }

-- the used numbers of a row that begins with one, as segments
used_lawful : (row : List ℕ) → 1 ≤ get_or row 0 0 → sum (used row) ≤ most_cost → LawfulShape (points_shape (used row))
used_lawful [] first small = absurd (omega arith)
used_lawful (zero ∷ xs) first small = absurd (omega arith)
used_lawful (suc x ∷ xs) first small = segments_lawful (suc x) (used xs) first (final_positive (suc x) xs first) small

-- the segments of a row that is not refused
pub points_shape_lawful : (row : List ℕ) → points_refused row ≡ None → LawfulShape (points_shape (used row))
points_shape_lawful row none =
    let (first, behind) = neither (outside 1 most_cost (get_or row 0 0)) _ none in
    let (_, in_all) = neither (segments_refused row) _ behind in
    used_lawful row (inside 1 most_cost (get_or row 0 0) first).0 (inside 1 most_cost (sum (used row)) in_all).1
