-- The first fault, and what an accepted table says of its size, its deadlines and each of its tasks.
use Rattle.std.proofs.Common.{◌≡◌, ℕ, zero, suc, ◌+◌, ◌-◌, ◌<◌, Bool, true, false, cond, length, get_or, Some, None, Option, refl, ⊎_elim, add-zero, add_assoc, add-one, arith}
use Rattle.std.proofs.lemmas.Bool.{leb-true, le-leb, cond-true, cases_eq}
use Rattle.std.proofs.lemmas.Bool.Decides.{nat_tests}
use Rattle.model.specs.Choice.{◌or_else◌, if_some}
use Rattle.model.specs.Analysis.{window, bound}
use Rattle.model.specs.Tables.{Table, first_fault, sized, size_fault, deadlines_fault, task_fault, verdict, Accepted, Sized, Keeps, Accepts}
use Rattle.model.specs.declared.fault.Fault.{Fault}

-- neither of two, if there is no first of them
pub or_else_none : {X : Type 0} (first later : Option X) → (first or_else later) ≡ None → (first ≡ None) × (later ≡ None)
or_else_none (Some x) later none = (none, cc)
or_else_none None later none = (refl, none)

-- the first of three is the first of the first two, if there is any
or_else_early : {X : Type 0} (first second later : Option X) (x : X) → (first or_else second) ≡ Some x → (first or_else (second or_else later)) ≡ Some x
or_else_early (Some y) second later x found = found
or_else_early None (Some y) later x found = found
or_else_early None None later x found = absurd (let z : ◌≡◌ {A = ℕ} 0 1 = cc in omega arith)

-- and else the third
or_else_late : {X : Type 0} (first second later : Option X) → (first or_else second) ≡ None → (first or_else (second or_else later)) ≡ later
or_else_late (Some y) second later none = absurd (let z : ◌≡◌ {A = ℕ} 0 1 = cc in omega arith)
or_else_late None (Some y) later none = absurd (let z : ◌≡◌ {A = ℕ} 0 1 = cc in omega arith)
or_else_late None None later none = refl

-- a choice that answers none where it could answer some
pub cond_none : {X : Type 0} (b : Bool) (x : X) → cond b None (Some x) ≡ None → b ≡ true
cond_none true x none = refl
cond_none false x none = cc

-- a row that must stand, and says none
if_some_none : {X Y : Type 0} (row : Option X) (y : Y) (says : X → Option Y) → if_some row (Some y) says ≡ None → (x : X) × (row ≡ Some x) × (says x ≡ None)
if_some_none (Some x) y says none = (x, refl, none)
if_some_none None y says none = absurd (let z : ◌≡◌ {A = ℕ} 0 1 = cc in omega arith)

-- no tasks, no fault
pub first_fault_zero : (at : ℕ → Option Fault) → first_fault 0 at ≡ None
unfolding first_fault
first_fault_zero at = refl

-- the first fault, with one more task at the end
pub first_fault_more : (n : ℕ) (at : ℕ → Option Fault) → first_fault (n + 1) at ≡ (first_fault n at or_else at n)
unfolding first_fault
first_fault_more n at = rw add-one

-- where there is no first fault, no task has one
pub first_fault_none : (n : ℕ) (at : ℕ → Option Fault) → first_fault n at ≡ None → (k : ℕ) → k < n → at k ≡ None
unfolding first_fault
first_fault_none zero at none k below = absurd (omega arith)
first_fault_none (suc n) at none k below =
    let both = or_else_none (first_fault n at) (at n) none in
    ⊎_elim (λ last. rw last both.1) (λ other. first_fault_none n at both.0 k (omega arith)) (cases_eq k n)

-- where no task has a fault, there is no first one
pub none_first_fault : (n : ℕ) (at : ℕ → Option Fault) → ((k : ℕ) → k < n → at k ≡ None) → first_fault n at ≡ None
unfolding first_fault
none_first_fault zero at none = refl
none_first_fault (suc n) at none = rw (none_first_fault n at (λ k below. none k (omega arith))) (none n (omega arith))

-- the first fault stays the first as tasks come behind it
first_fault_stays : (n m : ℕ) (at : ℕ → Option Fault) (f : Fault) → first_fault n at ≡ Some f → first_fault (n + m) at ≡ Some f
first_fault_stays n zero at f found = rw add-zero found
first_fault_stays n (suc m) at f found =
    rw (← add-one m, ← add_assoc n m 1, first_fault_more (n + m) at, first_fault_stays n m at f found)

-- a fault behind tasks that have none is the first
pub first_fault_found : (n k : ℕ) (at : ℕ → Option Fault) (f : Fault) → k < n → first_fault k at ≡ None → at k ≡ Some f → first_fault n at ≡ Some f
first_fault_found n k at f below before here =
    let found : first_fault (k + 1) at ≡ Some f = rw (first_fault_more k at, before, here) in
    let length : k + 1 + (n - (k + 1)) ≡ n = omega arith in
    rw length at (first_fault_stays (k + 1) (n - (k + 1)) at f found)

-- one task more without a fault
pub first_fault_clear : (k : ℕ) (at : ℕ → Option Fault) → first_fault k at ≡ None → at k ≡ None → first_fault (k + 1) at ≡ None
first_fault_clear k at before here = rw (first_fault_more k at, before, here)

module _ (t : Table) where
  -- a fault of the size or of a deadline is the verdict
  pub verdict_early : (f : Fault) → (size_fault t or_else deadlines_fault t) ≡ Some f → verdict t ≡ Some f
  unfolding verdict
  verdict_early f found = or_else_early (size_fault t) (deadlines_fault t) _ f found

  -- and else the verdict is the first fault of a task
  pub verdict_tasks : (size_fault t or_else deadlines_fault t) ≡ None → verdict t ≡ first_fault (length t.deadlines) (task_fault t)
  unfolding verdict
  verdict_tasks none = or_else_late (size_fault t) (deadlines_fault t) _ none

  -- the test of the size says that the numbers of tasks agree
  pub sized_agrees : sized t ≡ true → Sized t
  sized_agrees so =
      record {
        some = grind (arith, nat_tests);
        few = grind (arith, nat_tests);
        arrivals = grind (arith, nat_tests);
        order = grind (arith, nat_tests);
        sections = grind (arith, nat_tests);
      }

  -- numbers of tasks that agree pass the test of the size
  pub agrees_sized : Sized t → sized t ≡ true
  agrees_sized so = grind (arith, nat_tests)

  -- a task without fault keeps its deadline
  pub task_keeps : (k : ℕ) → task_fault t k ≡ None → Keeps t k
  task_keeps k none =
      let row = if_some_none (window t.parts k) _ (λ _. _) none in
      record { ticks = row.0; found = row.1; in_time = leb-true (bound t.parts k) (get_or t.deadlines k 0) (cond_none _ _ row.2) }

  -- a task that keeps its deadline has no fault
  pub keeps_task : (k : ℕ) → Keeps t k → task_fault t k ≡ None
  keeps_task k kept = rw kept.found (cond-true _ _ _ (le-leb (bound t.parts k) (get_or t.deadlines k 0) kept.in_time))

  -- an accepted table has the right size, allowed deadlines, and keeps each of them
  pub accepted_says : Accepted t → Accepts t
  unfolding verdict
  accepted_says accepted =
      let late = or_else_none (size_fault t) (deadlines_fault t or_else first_fault (length t.deadlines) (task_fault t)) accepted in
      let tasks-late = or_else_none (deadlines_fault t) (first_fault (length t.deadlines) (task_fault t)) late.1 in
      record {
        size = sized_agrees (cond_none (sized t) _ late.0);
        deadlines = tasks-late.0;
        each = λ k below. task_keeps k (first_fault_none (length t.deadlines) (task_fault t) tasks-late.1 k below);
      }

  -- and a table that does so is accepted
  pub says_accepted : Accepts t → Accepted t
  unfolding verdict
  says_accepted so =
      rw (agrees_sized so.size, so.deadlines)
      (none_first_fault (length t.deadlines) (task_fault t) (λ k below. keeps_task k (so.each k below)))
