-- What a sections part means and the laws that it keeps.
-- Cited by the trait `Sections`, and so by every crate that asks a part.
use Rattle.std.specs.Prelude.{◌≡◌, ℕ, ◌-◌, ◌<◌, ◌≤◌, Bool, true, false}

-- the greatest cost
abbrev pub most_cost : ℕ
most_cost = 100000

pub record SectionsMeaning : Type 0 where
  -- how many tasks the part has
  pub tasks : ℕ
  -- the most ticks that a job of the task takes
  pub cost : ℕ → ℕ
  -- the longest stretch of a job that nothing interrupts
  pub longest : ℕ → ℕ
  -- the end of a job that runs undisturbed: its last ticks, with no opening among them
  pub tail : ℕ → ℕ
  -- The marks of a tick, `may_hold k r s p` and so on: r ticks received in all, s since the last opening or the
  -- start, both with this tick, and p openings before it.
  -- the job may keep the processor, may be interrupted, or may end
  pub may_hold : ℕ → ℕ → ℕ → ℕ → Bool
  pub may_open : ℕ → ℕ → ℕ → ℕ → Bool
  pub may_finish : ℕ → ℕ → ℕ → ℕ → Bool

pub record LawfulSections (m : SectionsMeaning) : Type 0 where
  pub tail_positive : (k : ℕ) → k < m.tasks → 1 ≤ m.tail k
  pub tail_within : (k : ℕ) → k < m.tasks → m.tail k ≤ m.cost k
  pub longest_positive : (k : ℕ) → k < m.tasks → 1 ≤ m.longest k
  pub longest_within : (k : ℕ) → k < m.tasks → m.longest k ≤ m.cost k
  pub cost_bounded : (k : ℕ) → k < m.tasks → m.cost k ≤ most_cost
  -- a job that holds on has not come to its longest stretch, nor to its cost
  pub hold_short : (k r s p : ℕ) → k < m.tasks → m.may_hold k r s p ≡ true → s < m.longest k
  pub hold_unfinished : (k r s p : ℕ) → k < m.tasks → m.may_hold k r s p ≡ true → r < m.cost k
  -- no opening stands in the tail
  pub open_before_tail : (k r s p : ℕ) → k < m.tasks → m.may_open k r s p ≡ true → r ≤ m.cost k - m.tail k
  pub finish_within : (k r s p : ℕ) → k < m.tasks → m.may_finish k r s p ≡ true → r ≤ m.cost k
  -- a question about a task that the part does not have is answered 0 or no
  pub absent_cost : (k : ℕ) → m.tasks ≤ k → m.cost k ≡ 0
  pub absent_longest : (k : ℕ) → m.tasks ≤ k → m.longest k ≡ 0
  pub absent_tail : (k : ℕ) → m.tasks ≤ k → m.tail k ≡ 0
  pub absent_hold : (k r s p : ℕ) → m.tasks ≤ k → m.may_hold k r s p ≡ false
  pub absent_open : (k r s p : ℕ) → m.tasks ≤ k → m.may_open k r s p ≡ false
  pub absent_finish : (k r s p : ℕ) → m.tasks ≤ k → m.may_finish k r s p ≡ false
