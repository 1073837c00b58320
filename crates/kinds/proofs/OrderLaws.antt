-- The listed kinds of order keep the laws of an order: each compares the rows of two tasks, so that it is enough that
-- the comparison of rows keeps them.
use Rattle.std.proofs.Common.{◌≡◌, ℕ, ◌+◌, ◌-◌, ◌<◌, ◌≤◌, max, Bool, true, false, cond, ltb, leb, List, length, Some, refl, ⊎_elim, arith}
use Rattle.std.specs.List.{slice_get}
use Rattle.std.proofs.lemmas.Bool.{cases_lt}
use Rattle.std.proofs.lemmas.Bool.Decides.{nat_tests}
use Rattle.model.specs.Order.{OrderMeaning, LawfulOrder, InReach}
use Rattle.model.specs.declared.released.Reach.{Reach}
use Rattle.model.specs.declared.released.Reach.TheVariants.{Ticks, NoEnd}
use Rattle.kinds.specs.OrderKinds.{for_both, fixed_priority, earliest_deadline}
use Rattle.kinds.proofs.RowLaws.{row_of, for_absent}

-- What an order says of two tasks by their rows.
pub record Ranking (X : Type 0) : Type 0 where
  -- `ahead x r y e`: a job of the task with row x released at r, and one of the task with row y released at e
  pub ahead : X → ℕ → X → ℕ → Bool
  pub reach : X → X → ℕ → Reach
  pub counted : X → X → Bool
  pub blocks : X → X → Bool

-- the order whose tasks are ranked by their rows
abbrev pub ranked : {X : Type 0} → Ranking X → List X → OrderMeaning
ranked by rows = record {
  tasks = length rows;
  ahead = λ j l. for_both rows j.task l.task false (λ own other. by.ahead own j.at other l.at);
  reach = λ i o A. for_both rows i o (Ticks 0) (λ own other. by.reach own other A);
  counted = λ i o. for_both rows i o false by.counted;
  blocks = λ i l. for_both rows i l false by.blocks;
}

-- the laws of an order, of the rows of its tasks
pub record LawfulRanking {X : Type 0} (by : Ranking X) : Type 0 where
  pub total : (x y : X) (r e : ℕ) → by.ahead x r y e ≡ false → by.ahead y e x r ≡ true
  pub carries : (x y z : X) (r e u : ℕ) → by.ahead x r y e ≡ true → by.ahead y e z u ≡ true → by.ahead x r z u ≡ true
  pub own_task : (x : X) (r e : ℕ) → r ≤ e → by.ahead x r x e ≡ true
  pub reached : (x y : X) (w z A : ℕ) → by.ahead y (w + z) x (w + A) ≡ true → InReach z (by.reach x y A)
  pub counted_ahead : (x y : X) (r e : ℕ) → by.ahead y r x e ≡ true → by.counted x y ≡ true
  pub counted_reach : (x y : X) (A : ℕ) → InReach 0 (by.reach x y A) → by.counted x y ≡ true
  pub blocks_behind : (x y : X) (r e : ℕ) → r < e → by.ahead y r x e ≡ false → by.blocks x y ≡ true

-- what rows say of two tasks of which the part does not have one
for_both_absent : {X Y : Type 0} (rows : List X) (i o : ℕ) (otherwise : Y) (says : X → X → Y) → length rows ≤ max i o → for_both rows i o otherwise says ≡ otherwise
for_both_absent rows i o otherwise says past =
    ⊎_elim
    (λ within. let (x, at) = row_of rows i within in rw at (for_absent rows o otherwise (says x) (omega arith)))
    (λ past-i. for_absent rows i otherwise _ past-i)
    (cases_lt i (length rows))

-- the rows of two tasks that the part has
rows_of : {X : Type 0} (rows : List X) (i o : ℕ) → i < length rows → o < length rows → (x : X) × (y : X) × (slice_get rows i ≡ Some x) × (slice_get rows o ≡ Some y)
rows_of rows i o has_i has-o =
    let (x, at_x) = row_of rows i has_i in
    let (y, at_y) = row_of rows o has-o in
    (x, y, at_x, at_y)

-- An order by a lawful ranking of rows keeps the laws.
pub ranked_lawful : {X : Type 0} (by : Ranking X) (rows : List X) → LawfulRanking by → LawfulOrder (ranked by rows)
ranked_lawful by rows lawful = record {
  total = λ j l has_j has-l.
      let (x, y, at_x, at_y) = rows_of rows j.task l.task has_j has-l in rw (at_x, at_y) (lawful.total x y j.at l.at);
  carries = λ j l n has_j has-l has-n.
      let (x, y, at_x, at_y) = rows_of rows j.task l.task has_j has-l in
      let (z, at-z) = row_of rows n.task has-n in
      rw (at_x, at_y, at-z) (lawful.carries x y z j.at l.at n.at);
  own_task = λ k r e within longer. let (x, at) = row_of rows k within in rw at (lawful.own_task x r e longer);
  reached = λ i o w z A has_i has-o.
      let (x, y, at_x, at_y) = rows_of rows i o has_i has-o in rw (at_x, at_y) (lawful.reached x y w z A);
  counted_ahead = λ i o r e has_i has-o.
      let (x, y, at_x, at_y) = rows_of rows i o has_i has-o in rw (at_x, at_y) (lawful.counted_ahead x y r e);
  counted_reach = λ i o A has_i has-o.
      let (x, y, at_x, at_y) = rows_of rows i o has_i has-o in rw (at_x, at_y) (lawful.counted_reach x y A);
  blocks_behind = λ i l r e has_i has-l.
      let (x, y, at_x, at_y) = rows_of rows i l has_i has-l in rw (at_x, at_y) (lawful.blocks_behind x y r e);
  absent_ahead = λ j l. for_both_absent rows j.task l.task false _;
  absent_reach = λ i o A. for_both_absent rows i o (Ticks 0) _;
  absent_counted = λ i o. for_both_absent rows i o false _;
  absent_blocks = λ i l. for_both_absent rows i l false _;
}

-- rows that are urgencies
abbrev by_urgency : Ranking ℕ
by_urgency = record {
  ahead = λ own _ other _. leb other own;
  reach = λ own other _. cond (leb own other) NoEnd (Ticks 0);
  counted = λ own other. leb own other;
  blocks = λ own lower. ltb lower own;
}

-- where the test decides between the whole window and none of it, and something is reached, the test has passed
reach_passed : (test : Bool) → InReach 0 (cond test NoEnd (Ticks 0)) → test ≡ true
reach_passed true something = refl
reach_passed false something = absurd (omega arith)

-- the larger urgency first is a lawful ranking
by_urgency_lawful : LawfulRanking by_urgency
by_urgency_lawful = grind (arith, nat_tests, reach_passed)

-- Fixed priority keeps the laws.
pub fixed_priority_lawful : (us : List ℕ) → LawfulOrder (fixed_priority us)
fixed_priority_lawful us = ranked_lawful by_urgency us by_urgency_lawful

-- rows that are relative deadlines
abbrev by_deadline : Ranking ℕ
by_deadline = record {
  ahead = λ own r other e. leb (r + own) (e + other);
  reach = λ own other A. Ticks (A + 1 + own - other);
  counted = λ _ _. true;
  blocks = λ own lower. ltb own lower;
}

-- and so is the earlier of release plus relative deadline
by_deadline_lawful : LawfulRanking by_deadline
by_deadline_lawful = grind (arith, nat_tests)

-- Earliest deadline first keeps the laws.
pub earliest_deadline_lawful : (ds : List ℕ) → LawfulOrder (earliest_deadline ds)
earliest_deadline_lawful ds = ranked_lawful by_deadline ds by_deadline_lawful
