-- How far a search goes.
use Rattle.std.proofs.Common.{ℕ, ◌≤◌, IfSome, Some, None, Option, MatchOption}
use Rattle.model.specs.Least.{LeastMet}

-- what a search found is within its limit
pub found_within : (demand : ℕ → ℕ) (limit : ℕ) (none : Type 0) (r : Option ℕ) → MatchOption r none (LeastMet demand limit) → IfSome r (λ d. d ≤ limit)
found_within demand limit none None law = tt
found_within demand limit none (Some d) law = law.within
