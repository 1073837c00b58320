-- What an order means and the laws that it keeps.
-- Cited by the trait `Order`, and so by every crate that asks a part.
use Rattle.std.specs.Prelude.{◌≡◌, ℕ, ◌+◌, ◌<◌, ◌≤◌, min, max, Bool, true, false}
use Rattle.model.specs.declared.released.Released.{Released}
use Rattle.model.specs.declared.released.Reach.{Reach}
use Rattle.model.specs.declared.released.Reach.TheVariants.{Ticks, NoEnd}

-- the job of task k that is released at tick r
abbrev pub job : ℕ → ℕ → Released
job k r = record { task = k; at = r }

-- tick z of a window, counted from 0, lies below the reach
abbrev pub InReach : ℕ → Reach → Type 0
InReach z (Ticks n) = z < n
InReach z NoEnd = Unit {0}

-- the lesser of a length and a reach
abbrev pub within : Reach → ℕ → ℕ
within (Ticks n) d = min d n
within NoEnd d = d

pub record OrderMeaning : Type 0 where
  -- how many tasks the part has
  pub tasks : ℕ
  -- whether the first job is ahead of or level with the second
  pub ahead : Released → Released → Bool
  -- `reach i o A`: the jobs of o that can be ahead of or level with a job of i, released A ticks into a window,
  -- come before this many ticks of the window
  pub reach : ℕ → ℕ → ℕ → Reach
  -- `counted i o`: jobs of o can be ahead of or level with jobs of i
  pub counted : ℕ → ℕ → Bool
  -- `blocks i l`: a job of l can be released before a job of i and yet not be ahead of or level with it
  pub blocks : ℕ → ℕ → Bool

-- the part has the task of the job
abbrev pub Has : OrderMeaning → Released → Type 0
Has m j = j.task < m.tasks

pub record LawfulOrder (m : OrderMeaning) : Type 0 where
  -- of two jobs at least one is ahead of or level with the other
  pub total : (j l : Released) → Has m j → Has m l → m.ahead j l ≡ false → m.ahead l j ≡ true
  -- the relation carries through a third job
  pub carries : (j l n : Released) → Has m j → Has m l → Has m n → m.ahead j l ≡ true → m.ahead l n ≡ true → m.ahead j n ≡ true
  -- a job is ahead of or level with every job of its task released no earlier
  pub own_task : (k r e : ℕ) → k < m.tasks → r ≤ e → m.ahead (job k r) (job k e) ≡ true
  -- from tick w of a window's start on, what is ahead comes before the reach
  pub reached : (i o w z A : ℕ) → i < m.tasks → o < m.tasks → m.ahead (job o (w + z)) (job i (w + A)) ≡ true → InReach z (m.reach i o A)
  -- what can be ahead is counted, and so is whatever has a reach
  pub counted_ahead : (i o r e : ℕ) → i < m.tasks → o < m.tasks → m.ahead (job o r) (job i e) ≡ true → m.counted i o ≡ true
  pub counted_reach : (i o A : ℕ) → i < m.tasks → o < m.tasks → InReach 0 (m.reach i o A) → m.counted i o ≡ true
  -- what comes earlier and can be behind, blocks
  pub blocks_behind : (i l r e : ℕ) → i < m.tasks → l < m.tasks → r < e → m.ahead (job l r) (job i e) ≡ false → m.blocks i l ≡ true
  -- a question about a task that the part does not have is answered 0 or no
  pub absent_ahead : (j l : Released) → m.tasks ≤ max j.task l.task → m.ahead j l ≡ false
  pub absent_reach : (i o A : ℕ) → m.tasks ≤ max i o → m.reach i o A ≡ Ticks 0
  pub absent_counted : (i o : ℕ) → m.tasks ≤ max i o → m.counted i o ≡ false
  pub absent_blocks : (i l : ℕ) → m.tasks ≤ max i l → m.blocks i l ≡ false
