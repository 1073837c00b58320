use Rattle.std.proofs.Common.{ℕ, suc, ◌-◌, ◌<◌, ◌≤◌}
use Rattle.search.proofs.least_length.Given as goal

abbrev pub invariant-loop-length : goal.invariant-loop-length
invariant-loop-length g l = (1 ≤ l.length) × ((e : ℕ) → 1 ≤ e → e < l.length → e < g.D.Demand.demand l.demand e)

abbrev pub decreases-loop-length : goal.decreases-loop-length
decreases-loop-length g l = suc l.limit - l.length
