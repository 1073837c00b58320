-- What the listed kinds of arrivals mean, and what their makings refuse.
-- Cited by the crate `arrivals` and by the reference cases.
use Rattle.std.specs.Prelude.{ℕ, zero, suc, ◌+◌, ◌-◌, ◌*◌, ◌/◌, ◌%◌, min, max, Bool, true, false, cond, ◌&&◌, List, [], ◌∷◌, length, take, drop, Some, None, Option, ◌==◌, nat_le, slice_index}
use Rattle.kinds.specs.Numbers.{used}
use Rattle.model.specs.Arrivals.{ArrivalsMeaning, last_length}
use Rattle.model.specs.Faults.{fault, no_task}
use Rattle.model.specs.Rows.{for_task, outside, between, rows_fault, making_fault, most_tasks}
use Rattle.model.specs.declared.fault.Fault.{Fault}
use Rattle.model.specs.declared.fault.Part.TheVariants.{Arrivals}
use Rattle.model.specs.declared.fault.Refusal.{Refusal}
use Rattle.model.specs.declared.fault.Refusal.TheVariants as refusal

-- the longest separation, repeat length and delay
abbrev pub most_spacing : ℕ
most_spacing = 1000000

-- d / n, rounded up
abbrev pub rounded_up : ℕ → ℕ → ℕ
rounded_up d n = (d + (n - 1)) / n

-- Separations: two releases of task k lie at least its separation apart.
abbrev pub separated : List ℕ → ArrivalsMeaning
separated separations = record {
  tasks = length separations;
  count = λ k d. for_task separations k 0 (rounded_up d);
}

abbrev pub separations_fault : List ℕ → Option Fault
separations_fault = making_fault (outside 1 most_spacing) Arrivals

-- how many of the numbers are at most t
abbrev pub at_most : ℕ → List ℕ → ℕ
at_most t [] = 0
at_most t (x ∷ xs) = cond (nat_le x t) (suc (at_most t xs)) (at_most t xs)

-- Steps: a row is a repeat length and the entries of one repetition, the ticks by which each release of a densest
-- run has come. The count at a length of at least 1: all entries for each whole repetition, and in what is left
-- those that come in time.
abbrev pub steps_count : ℕ → List ℕ → ℕ → ℕ
steps_count repeat entries d = length entries * ((d - 1) / repeat) + at_most ((d - 1) % repeat + 1) entries

-- the numbers of a row: a repeat length, and eight entries with 0 behind the last
abbrev pub row_width : ℕ
row_width = 9

-- the row of task k in a list of rows
abbrev pub steps_row : List ℕ → ℕ → List ℕ
steps_row numbers k = take row_width (drop (row_width * k) numbers)

abbrev pub steps_tasks : List ℕ → ℕ
steps_tasks numbers = min most_tasks (length numbers / row_width)

-- The two maxima are for rows that no making takes: in the others they change nothing.
abbrev pub stepped : List ℕ → ArrivalsMeaning
stepped numbers = record {
  tasks = steps_tasks numbers;
  count = λ k d.
      let row = steps_row numbers k in
      cond (nat_le (suc k) (steps_tasks numbers) && nat_le 1 d) (max 1 (steps_count (max 1 (slice_index row 0)) (used (drop 1 row)) d)) 0;
}

-- nothing but 0
abbrev pub blank : List ℕ → Bool
blank [] = true
blank (x ∷ xs) = x == 0 && blank xs

-- entries after one at `last` never fall, none is above the repeat length, and behind a 0 nothing stands
abbrev pub climbs : ℕ → ℕ → List ℕ → Bool
climbs repeat last [] = true
climbs repeat last (zero ∷ xs) = blank xs
climbs repeat last (suc x ∷ xs) = between last repeat (suc x) && climbs repeat (suc x) xs

-- entries start at 1
abbrev pub entries_in_order : ℕ → List ℕ → Bool
entries_in_order repeat [] = false
entries_in_order repeat (x ∷ xs) = x == 1 && climbs repeat x xs

abbrev pub steps_refused : List ℕ → Option Refusal
steps_refused row =
    cond (between 1 most_spacing (slice_index row 0)) (cond (entries_in_order (slice_index row 0) (drop 1 row)) None (Some refusal.Order)) (Some refusal.Range)

-- the first n rows of a list of numbers
abbrev pub cut_rows : ℕ → List ℕ → List (List ℕ)
cut_rows zero numbers = []
cut_rows (suc n) numbers = take row_width numbers ∷ cut_rows n (drop row_width numbers)

abbrev pub steps_fault : List ℕ → Option Fault
steps_fault numbers =
    cond (length numbers % row_width == 0) (making_fault steps_refused Arrivals (cut_rows (length numbers / row_width) numbers)) (Some (fault refusal.Size Arrivals no_task))

-- Delay: a release can come up to the task's delay late, so that those of a longer time fall together. It stands
-- over any arrivals.
abbrev pub delayed : List ℕ → ArrivalsMeaning → ArrivalsMeaning
delayed delays below = record {
  tasks = below.tasks;
  count = λ k d. cond (d == 0) 0 (below.count k (min (d + slice_index delays k) last_length));
}

abbrev pub delays_fault : List ℕ → Option Fault
delays_fault delays = rows_fault (outside 0 most_spacing) Arrivals 0 delays
