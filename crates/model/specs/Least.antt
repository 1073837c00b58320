-- The least length that meets a demand, and what it means to find one or none.
-- Cited by the search and by the analysis.
use Rattle.std.specs.Prelude.{ℕ, zero, suc, ◌<◌, ◌≤◌, cond, Some, None, Option, nat_le}

-- the first of d, d + 1, .., d + n − 1 at which the demand is at most the length itself
unfoldable pub first_met : (ℕ → ℕ) → ℕ → ℕ → Option ℕ
first_met demand zero d = None
first_met demand (suc n) d = let later = first_met demand n (suc d) in cond (nat_le (demand d) d) (Some d) later

-- The least length from 1 to the limit at which the demand is at most the length, or none.
abbrev pub least : (ℕ → ℕ) → ℕ → Option ℕ
least demand limit = first_met demand limit 1

-- the demand is above each length from one on, before another
abbrev pub Unmet : ℕ → ℕ → (ℕ → ℕ) → Type 0
Unmet from to demand = (e : ℕ) → from ≤ e → e < to → e < demand e

-- no length up to the limit is met
abbrev pub NeverMet : (ℕ → ℕ) → ℕ → Type 0
NeverMet demand limit = (e : ℕ) → 1 ≤ e → e ≤ limit → e < demand e

-- a longer length has no smaller demand, as far as the limit
abbrev pub Rises : (ℕ → ℕ) → ℕ → Type 0
Rises demand limit = (d e : ℕ) → d ≤ e → e ≤ limit → demand d ≤ demand e

-- d is the least length from 1 to the limit at which the demand is at most the length
pub record LeastMet (demand : ℕ → ℕ) (limit d : ℕ) : Type 0 where
  pub positive : 1 ≤ d
  pub within : d ≤ limit
  pub met : demand d ≤ d
  pub earlier : Unmet 1 d demand
