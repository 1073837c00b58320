-- The listed kinds of arrivals keep the laws of arrivals.
use Rattle.std.proofs.Common.{◌≡◌, ℕ, zero, suc, ◌+◌, ◌-◌, ◌*◌, ◌/◌, ◌%◌, ◌<◌, ◌≤◌, min, max, true, eqb, List, [], ◌∷◌, length, get_or, take, drop, Some, None, refl, ap, ◌∙◌, ⊎_elim, div-add-mod', div-le_self, arith, length-drop, length-take}
use native.Mathlib.Nat.{div-eq_of_lt}
use Rattle.std.specs.List.{slice_get}
use Rattle.std.proofs.lemmas.Nat.{div_below, le-div, mul-le}
use Rattle.std.proofs.lemmas.List.{drop-drop}
use Rattle.std.proofs.lemmas.Bool.{cases_lt}
use Rattle.std.proofs.lemmas.Bool.Decides.{nat_tests}
use Rattle.model.specs.Arrivals.{ArrivalsMeaning, LawfulArrivals, last_length, most_releases}
use Rattle.model.specs.Rows.{outside, between, making_fault, most_tasks}
use Rattle.model.specs.declared.fault.Part.TheVariants.{Arrivals}
use Rattle.kinds.specs.ArrivalKinds.{rounded_up, separated, separations_fault, most_spacing, delayed, at_most, steps_count, row_width, steps_row, stepped, entries_in_order, steps_refused, cut_rows, steps_fault}
use Rattle.kinds.specs.Numbers.{used}
use Rattle.kinds.proofs.RowLaws.{row_of, for_absent, making_accepted, inside, passed}

-- a quotient does not fall when the number rises
pub quotient_rises : (a b n : ℕ) → 0 < n → a ≤ b → a / n ≤ b / n
quotient_rises a b n positive rising = le-div (a / n) b n positive (omega (arith, div-add-mod' a n))

module _ (n : ℕ) (positive : 1 ≤ n) where
  -- no ticks have no separations
  pub rounded_none : rounded_up 0 n ≡ 0
  rounded_none = div-eq_of_lt (omega arith)

  -- a tick has one, rounded up
  pub rounded_one : 1 ≤ rounded_up 1 n
  rounded_one = le-div 1 (1 + (n - 1)) n positive (omega arith)

  -- a length has at most as many separations as ticks
  pub rounded_within : (d : ℕ) → rounded_up d n ≤ d
  rounded_within d =
      let below : rounded_up d n < d + 1 = div_below (d + (n - 1)) n (d + 1) positive (omega (arith, mul-le d 1 d n)) in
      omega arith

-- separations of a making without fault are at least 1
pub separation_positive : (xs : List ℕ) → separations_fault xs ≡ None → (k n : ℕ) → slice_get xs k ≡ Some n → 1 ≤ n
separation_positive xs none k n at = (inside 1 most_spacing n (making_accepted (outside 1 most_spacing) Arrivals xs none k n at)).0

-- Separations keep the laws.
pub separated_lawful : (xs : List ℕ) → separations_fault xs ≡ None → LawfulArrivals (separated xs)
separated_lawful xs none =
    let positive = separation_positive xs none in
    record {
      none_at_zero = λ k within. let (n, at) = row_of xs k within in rw at (rounded_none n (positive k n at));
      some_at_one = λ k within. let (n, at) = row_of xs k within in rw at (rounded_one n (positive k n at));
      bounded = λ k d within short.
          let (n, at) = row_of xs k within in
          rw at (let few = rounded_within n (positive k n at) d in omega arith);
      rises = λ k d e within longer _.
          let (n, at) = row_of xs k within in
          rw at (quotient_rises (d + (n - 1)) (e + (n - 1)) n (positive k n at) (omega arith));
      absent = λ k d past _. for_absent xs k 0 (rounded_up d) past;
    }

-- the length at which the arrivals below a delay are asked, for d ticks of task k
abbrev asked : List ℕ → ℕ → ℕ → ℕ
asked delays k d = min (d + get_or delays k 0) last_length

-- Delays over lawful arrivals keep the laws.
pub delayed_lawful : (js : List ℕ) (m : ArrivalsMeaning) → LawfulArrivals m → LawfulArrivals (delayed js m)
delayed_lawful js m lawful = record {
  none_at_zero = λ k within. refl;
  some_at_one = λ k within. omega (arith, lawful.some_at_one k within, lawful.rises k 1 (asked js k 1) within);
  bounded = λ k d within _. let few = lawful.bounded k (asked js k d) within (omega arith) in grind (arith, nat_tests);
  rises = λ k d e within longer _.
      let no-fewer = lawful.rises k (asked js k d) (asked js k e) within (omega arith) (omega arith) in grind (arith, nat_tests);
  absent = λ k d past _. let never = lawful.absent k (asked js k d) past (omega arith) in grind (arith, nat_tests);
}

-- no more numbers are in time than there are
pub in_time_within : (t : ℕ) (xs : List ℕ) → at_most t xs ≤ length xs
in_time_within t [] = omega arith
in_time_within t (x ∷ xs) = let fewer = in_time_within t xs in grind (arith, nat_tests)

-- no fewer are in time where there is more of it
pub in_time_rises : (t u : ℕ) (xs : List ℕ) → t ≤ u → at_most t xs ≤ at_most u xs
in_time_rises t u [] longer = omega arith
in_time_rises t u (x ∷ xs) longer = let fewer = in_time_rises t u xs longer in grind (arith, nat_tests)

-- a repetition more is worth more than all that can be left over
repetition_more : (n q p a b : ℕ) → a ≤ n → q < p → n * q + a ≤ n * p + b
repetition_more n q p a b within more = omega (arith, mul-le n (q + 1) n p (omega arith) (omega arith))

-- of numbers with the same quotient, the larger has no smaller rest
rest_rises : (a b n : ℕ) → a ≤ b → a / n ≡ b / n → a % n ≤ b % n
rest_rises a b n rising same = omega (arith, div-add-mod' a n, div-add-mod' b n, ap (λ q. q * n) same)

-- a count of steps never falls
pub steps_rise : (repeat : ℕ) (entries : List ℕ) (d e : ℕ) → 1 ≤ repeat → d ≤ e → steps_count repeat entries d ≤ steps_count repeat entries e
steps_rise repeat entries d e positive longer =
    let q = (d - 1) / repeat in
    let p = (e - 1) / repeat in
    let rising = quotient_rises (d - 1) (e - 1) repeat positive (omega arith) in
    ⊎_elim
    (λ (more : q < p). repetition_more (length entries) q p _ _ (in_time_within _ entries) more)
    (λ (no_more : p ≤ q).
    let same : q ≡ p = omega arith in
    let rest = rest_rises (d - 1) (e - 1) repeat (omega arith) same in
    let in_time = in_time_rises ((d - 1) % repeat + 1) ((e - 1) % repeat + 1) entries (omega arith) in
    omega (arith, ap (λ n. length entries * n) same))
    (cases_lt q p)

-- eight entries to a repetition at most give no more than the greatest count
pub steps_bounded : (repeat : ℕ) (entries : List ℕ) (d : ℕ) → length entries ≤ 8 → d ≤ last_length → steps_count repeat entries d ≤ most_releases
steps_bounded repeat entries d few short =
    let rest = in_time_within ((d - 1) % repeat + 1) entries in
    omega (arith, mul-le (length entries) ((d - 1) / repeat) 8 (d - 1) few (div-le_self (d - 1) repeat))

-- no more numbers are used than there are
pub used_within : (xs : List ℕ) → length (used xs) ≤ length xs
used_within [] = omega arith
used_within (zero ∷ xs) = omega arith
used_within (suc x ∷ xs) = omega (arith, used_within xs)

-- a row has at most eight entries
pub row_entries : (xs : List ℕ) (k : ℕ) → length (used (drop 1 (steps_row xs k))) ≤ 8
row_entries xs k =
    omega (arith, used_within (drop 1 (steps_row xs k)), length-drop 1 (steps_row xs k), length-take row_width (drop (row_width * k) xs))

-- Steps keep the laws, whatever the numbers of the rows.
pub stepped_lawful : (xs : List ℕ) → LawfulArrivals (stepped xs)
stepped_lawful xs = record {
  none_at_zero = λ k within. grind (arith, nat_tests);
  some_at_one = λ k within. grind (arith, nat_tests);
  bounded = λ k d within short.
      let row = steps_row xs k in
      let few = steps_bounded (max 1 (get_or row 0 0)) (used (drop 1 row)) d (row_entries xs k) short in
      grind (arith, nat_tests);
  rises = λ k d e within longer _.
      let row = steps_row xs k in
      let no-fewer = steps_rise (max 1 (get_or row 0 0)) (used (drop 1 row)) d e (omega arith) longer in
      grind (arith, nat_tests);
  absent = λ k d past _. grind (arith, nat_tests);
}

-- as many rows are cut as are asked for
pub length_cut : (n : ℕ) (xs : List ℕ) → length (cut_rows n xs) ≡ n
length_cut zero xs = refl
length_cut (suc n) xs = ap suc (length_cut n (drop row_width xs))

-- and row k of them is the row of task k
pub nth_cut : (n : ℕ) (xs : List ℕ) (k : ℕ) → k < n → slice_get (cut_rows n xs) k ≡ Some (steps_row xs k)
nth_cut zero xs k within = absurd (omega arith)
nth_cut (suc n) xs zero within = refl
nth_cut (suc n) xs (suc k) within =
    let place : row_width + row_width * k ≡ row_width * suc k = omega arith in
    nth_cut n (drop row_width xs) k (omega arith) ∙ ap (λ rest. Some (take row_width rest)) (drop-drop (row_width * k) row_width xs ∙ ap (λ m. drop m xs) place)

-- entries in order begin with one that is always in time
first_in_time : (repeat t : ℕ) (xs : List ℕ) → entries_in_order repeat xs ≡ true → 1 ≤ t → 1 ≤ at_most t (used xs)
first_in_time repeat t [] ordered long = grind (arith, nat_tests)
first_in_time repeat t (zero ∷ xs) ordered long = grind (arith, nat_tests)
first_in_time repeat t (suc x ∷ xs) ordered long = grind (arith, nat_tests)

-- in a row that is not refused the repeat length and the count are at least 1, so that the maxima change nothing
row_plain : (row : List ℕ) (d : ℕ) → steps_refused row ≡ None → max 1 (steps_count (max 1 (get_or row 0 0)) (used (drop 1 row)) d) ≡ steps_count (get_or row 0 0) (used (drop 1 row)) d
row_plain row d none =
    let (spaced, behind) = passed (between 1 most_spacing (get_or row 0 0)) _ _ none in
    let (ordered, _) = passed (entries_in_order (get_or row 0 0) (drop 1 row)) _ _ behind in
    let repeat : max 1 (get_or row 0 0) ≡ get_or row 0 0 = grind (arith, nat_tests) in
    let first = first_in_time (get_or row 0 0) ((d - 1) % get_or row 0 0 + 1) (drop 1 row) ordered (omega arith) in
    rw repeat (omega arith)

module _ (xs : List ℕ) (none : steps_fault xs ≡ None) where
  -- the rows of the making give no fault
  rows_made : making_fault steps_refused Arrivals (cut_rows (length xs / row_width) xs) ≡ None
  rows_made = (passed (eqb (length xs % row_width) 0) _ _ none).1

  -- A making without fault has at most sixteen rows, so that each is a task.
  pub stepped_tasks : (stepped xs).tasks ≡ length xs / 9
  stepped_tasks =
      let rows = cut_rows (length xs / row_width) xs in
      let sized = (passed (between 1 most_tasks (length rows)) _ _ rows_made).0 in
      let as_many = length_cut (length xs / row_width) xs in
      grind (arith, nat_tests)

  -- The two maxima of steps change nothing where the making gives no fault.
  pub stepped_plain : (k d : ℕ) → k < length xs / 9 → 1 ≤ d → (stepped xs).count k d ≡ steps_count (get_or (steps_row xs k) 0 0) (used (drop 1 (steps_row xs k))) d
  stepped_plain k d within long =
      let at = nth_cut (length xs / row_width) xs k within in
      let plain = row_plain (steps_row xs k) d (making_accepted steps_refused Arrivals _ rows_made k _ at) in
      let tasks = stepped_tasks in
      grind (arith, nat_tests)

  -- and every repeat length is at least 1
  pub stepped_repeats : (k : ℕ) → k < length xs / 9 → 1 ≤ get_or (steps_row xs k) 0 0
  stepped_repeats k within =
      let at = nth_cut (length xs / row_width) xs k within in
      let kept = making_accepted steps_refused Arrivals _ rows_made k _ at in
      let (spaced, _) = passed (between 1 most_spacing (get_or (steps_row xs k) 0 0)) _ _ kept in
      grind (arith, nat_tests)
