-- What an arrivals part means and the laws that it keeps.
-- Cited by the trait `Arrivals`, and so by every crate that asks a part.
use Rattle.std.specs.Prelude.{◌≡◌, ℕ, ◌<◌, ◌≤◌}

-- the longest length for which a count is asked
abbrev pub last_length : ℕ
last_length = 4294967295

-- the greatest count
abbrev pub most_releases : ℕ
most_releases = 34359738368

-- The arrival curve of each task.
pub record ArrivalsMeaning : Type 0 where
  -- how many tasks the part has
  pub tasks : ℕ
  -- `count k d`: the most releases of task k in any d ticks in a row
  pub count : ℕ → ℕ → ℕ

pub record LawfulArrivals (m : ArrivalsMeaning) : Type 0 where
  -- nothing comes in no time
  pub none_at_zero : (k : ℕ) → k < m.tasks → m.count k 0 ≡ 0
  -- every task can release a job
  pub some_at_one : (k : ℕ) → k < m.tasks → 1 ≤ m.count k 1
  pub bounded : (k d : ℕ) → k < m.tasks → d ≤ last_length → m.count k d ≤ most_releases
  -- a longer time has no fewer releases
  pub rises : (k d e : ℕ) → k < m.tasks → d ≤ e → e ≤ last_length → m.count k d ≤ m.count k e
  -- a task that the part does not have never releases
  pub absent : (k d : ℕ) → m.tasks ≤ k → d ≤ last_length → m.count k d ≡ 0
