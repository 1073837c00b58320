-- Entries in order, as a test of those before the first 0 and a test of those from it on.
use Rattle.std.proofs.Common.{◌≡◌, ℕ, zero, suc, ◌+◌, ◌-◌, ◌<◌, ◌≤◌, ◌==◌, Bool, true, false, ◌&&◌, nat_le, nat_eq, List, [], ◌∷◌, length, get_or, drop, refl, sym, ◌∙◌, ⊎_elim, arith}
use Rattle.std.specs.Bool.{MatchBool}
use Rattle.std.specs.List.{list_all, starts_with}
use Rattle.std.specs.List.Sorted.{IsNonDecreasing}
use Rattle.std.proofs.lemmas.Bool.{cases_Bool}
use Rattle.std.proofs.lemmas.Bool.Decides.{nat_tests}
use Rattle.kinds.specs.ArrivalKinds.{blank, climbs, entries_in_order}
use Rattle.kinds.specs.Numbers.{used}

-- numbers that follow x never fall
abbrev pub rising : ℕ → List ℕ → Bool
rising x [] = true
rising x (y ∷ ys) = nat_le x y && rising y ys

abbrev pub sorted : List ℕ → Bool
sorted [] = true
sorted (x ∷ xs) = rising x xs

rising_true : (x : ℕ) (xs : List ℕ) → IsNonDecreasing (x ∷ xs) → rising x xs ≡ true
rising_true x [] rises = refl
rising_true x (y ∷ ys) rises =
    let first = rises 0 1 0 (omega arith) (omega arith) in
    let later = rising_true y ys (λ i j d order within. rises (suc i) (suc j) d (omega arith) (omega arith)) in
    grind (arith, nat_tests)

rising_false : (x : ℕ) (xs : List ℕ) (k : ℕ) → k + 1 < length (x ∷ xs) → ((d : ℕ) → get_or (x ∷ xs) (k + 1) d < get_or (x ∷ xs) k d) → rising x xs ≡ false
rising_false x [] k within falls = absurd (omega arith)
rising_false x (y ∷ ys) zero within falls = let first = falls 0 in grind (arith, nat_tests)
rising_false x (y ∷ ys) (suc k) within falls =
    let next : suc k + 1 ≡ suc (k + 1) = omega arith in
    let later = rising_false y ys k (omega arith) (λ d. rw next at (falls d)) in
    grind (arith, nat_tests)

-- what the test of a slice for this answers
pub sorted_is : (xs : List ℕ) (r : Bool) → MatchBool r (IsNonDecreasing xs) ((k : ℕ) × (k + 1 < length xs) × ((d : ℕ) → get_or xs (k + 1) d < get_or xs k d)) → r ≡ sorted xs
sorted_is [] true answer = refl
sorted_is [] false answer = absurd (omega (arith, answer.1))
sorted_is (x ∷ xs) true answer = sym (rising_true x xs answer)
sorted_is (x ∷ xs) false answer = sym (rising_false x xs answer.0 answer.1 answer.2)

climbs_apart : (repeat last : ℕ) (xs : List ℕ) → climbs repeat last xs ≡ (rising last (used xs) && (list_all (λ t. nat_le t repeat) (used xs) && list_all (λ x. x == 0) (drop (length (used xs)) xs)))
climbs_apart repeat last [] = refl
climbs_apart repeat last (zero ∷ xs) = refl
climbs_apart repeat last (suc x ∷ xs) = let later = climbs_apart repeat (suc x) xs in grind (arith, nat_tests)

pub in_order_apart : (repeat : ℕ) (xs : List ℕ) → 1 ≤ repeat → entries_in_order repeat xs ≡ (starts_with nat_eq (used xs) (1 ∷ []) && (sorted (used xs) && (list_all (λ t. nat_le t repeat) (used xs) && list_all (λ x. x == 0) (drop (length (used xs)) xs))))
in_order_apart repeat [] some = refl
in_order_apart repeat (zero ∷ xs) some = refl
in_order_apart repeat (suc x ∷ xs) some = let later = climbs_apart repeat (suc x) xs in grind (arith, nat_tests)

-- of numbers that never fall, none is above a limit if the last is not
pub last_tops : (repeat x : ℕ) (xs : List ℕ) → rising x xs ≡ true → nat_le (get_or (x ∷ xs) (length xs) 0) repeat ≡ list_all (λ t. nat_le t repeat) (x ∷ xs)
last_tops repeat x [] rises = grind (arith, nat_tests)
last_tops repeat x (y ∷ ys) rises = let first : nat_le x y ≡ true = grind (arith, nat_tests) in let later = last_tops repeat y ys (grind (arith, nat_tests)) in grind (arith, nat_tests)

-- so the limit may be asked of the last alone
tops : (repeat : ℕ) (ticks : List ℕ) (blank : Bool) → (starts_with nat_eq ticks (1 ∷ []) && (sorted ticks && (list_all (λ t. nat_le t repeat) ticks && blank))) ≡ (starts_with nat_eq ticks (1 ∷ []) && (sorted ticks && (nat_le (get_or ticks (length ticks - 1) 0) repeat && blank)))
tops repeat [] blank = refl
tops repeat (x ∷ xs) blank =
    let place : length (x ∷ xs) - 1 ≡ length xs = omega arith in
    ⊎_elim (λ rises. rw (place, last_tops repeat x xs rises) refl) (λ falls. rw falls refl) (cases_Bool (rising x xs))

pub in_order_by_last : (repeat : ℕ) (xs : List ℕ) → 1 ≤ repeat → entries_in_order repeat xs ≡ (starts_with nat_eq (used xs) (1 ∷ []) && (sorted (used xs) && (nat_le (get_or (used xs) (length (used xs) - 1) 0) repeat && list_all (λ x. x == 0) (drop (length (used xs)) xs))))
in_order_by_last repeat xs some = in_order_apart repeat xs some ∙ tops repeat (used xs) _
