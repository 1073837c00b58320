-- The columns of the sheet, filled task by task.
use Rattle.std.proofs.Common.{◌≡◌, ℕ, zero, suc, ◌+◌, ◌<◌, ltb, List, [], ◌∷◌, ◌++◌, get_or, map, refl, ◌∙◌, ⊎_elim, arith}
use Rattle.std.specs.List.{slice_get}
use Rattle.std.specs.Option.{option_map_or}
use Rattle.std.proofs.lemmas.List.{length-append, map-append, get_or_append_left, get_or_past}
use Rattle.std.proofs.lemmas.Bool.{cases_lt, lt-ltb, le-ltb}
use Rattle.std.proofs.Math.Seq.{get_or-append_seam}
use Rattle.model.specs.Analysis.{Parts, bound}
use Rattle.model.specs.Sums.{when}
use Rattle.model.specs.Tables.{window_length}
use Rattle.model.proofs.VerdictLaws.{first_fault_clear}
use Rattle.analysis.specs.Sheets.{Filled, KeptSo, Timely}
use Rattle.analysis.specs.declared.sheet.Times.{Times}

pub filled_none : (f : ℕ → ℕ) → Filled f 0 []
filled_none f = record { full = refl; each = λ k below. absurd (omega arith) }

pub filled_more : (f : ℕ → ℕ) (n x : ℕ) (column : List ℕ) → Filled f n column → x ≡ f n → Filled f (n + 1) (column ++ x ∷ [])
filled_more f n x column so_far is =
    record {
      full = omega (arith, length-append column (x ∷ []), so_far.full);
      each = λ k below. ⊎_elim (earlier k) (λ past. last k (omega arith)) (cases_lt k n);
    }
  where
    earlier : (k : ℕ) → k < n → get_or (column ++ x ∷ []) k 0 ≡ f k
    earlier k before = get_or_append_left column (x ∷ []) 0 k (omega (arith, so_far.full)) ∙ so_far.each k before

    last : (k : ℕ) → k ≡ n → get_or (column ++ x ∷ []) k 0 ≡ f k
    last k same = rw (same, ← so_far.full, get_or-append_seam column x [] 0, so_far.full) is

-- a look at any place of a filled column
pub filled_at : (f : ℕ → ℕ) (n : ℕ) (column : List ℕ) → Filled f n column → (k : ℕ) → get_or column k 0 ≡ when (ltb k n) (f k)
filled_at f n column filled k =
    ⊎_elim (λ before. rw (lt-ltb k n before) (filled.each k before)) (λ past. rw (le-ltb k n past) (get_or_past column k 0 (omega (arith, filled.full)))) (cases_lt k n)

-- the same of a column of rows, where one row more is kept
pub filled_row : {T : Type 0} (pick : T → ℕ) (f : ℕ → ℕ) (n : ℕ) (rows : List T) (row : T) → Filled f n (map pick rows) → pick row ≡ f n → Filled f (n + 1) (map pick (rows ++ row ∷ []))
filled_row pick f n rows row so_far is = rw (map-append pick rows (row ∷ [])) (filled_more f n (pick row) (map pick rows) so_far is)

-- a look at a column of rows, by the row
pub picked_at : {T : Type 0} (pick : T → ℕ) (rows : List T) (k : ℕ) → get_or (map pick rows) k 0 ≡ option_map_or pick (slice_get rows k) 0
picked_at pick [] k = refl
picked_at pick (row ∷ rows) zero = refl
picked_at pick (row ∷ rows) (suc k) = picked_at pick rows k

-- one task more that keeps its deadline
pub kept_more : (m : Parts) (deadlines : List ℕ) (n : ℕ) (times : List Times) (t : Times) →
    KeptSo m deadlines n (map (λ (t : Times). t.window) times) (map (λ (t : Times). t.bound) times)
    → Timely m n (get_or deadlines n 0) t.window t.bound
    → KeptSo m deadlines (n + 1) (map (λ (t : Times). t.window) (times ++ t ∷ [])) (map (λ (t : Times). t.bound) (times ++ t ∷ []))
kept_more m deadlines n times t so_far timely =
    record {
      clear = first_fault_clear n _ so_far.clear timely.kept;
      windows_so = filled_row (λ (t : Times). t.window) (window_length m) n times t so_far.windows_so (rw timely.by_window);
      bounds_so = filled_row (λ (t : Times). t.bound) (bound m) n times t so_far.bounds_so timely.by_bound;
    }
