-- When one more release of a task is one too many.
-- Cited by the question that a release asks before it is taken.
use Rattle.std.specs.Prelude.{ℕ, ◌+◌, ◌-◌, min, Bool, ◌&&◌, ◌||◌, List, nat_lt}
use Rattle.std.specs.List.{list_any}
use Rattle.model.specs.Analysis.{Parts}
use Rattle.model.specs.Arrivals.{last_length}
use Rattle.days.specs.Jobs.{of_task}
use Rattle.days.specs.Rules.{releases}
use Rattle.days.specs.declared.job.Job.{Job}

-- the ticks from one to another, both counted, up to the longest length for which a count is asked
abbrev pub span : ℕ → ℕ → ℕ
span from to = min (to - from + 1) last_length

module _ (m : Parts) (jobs : List Job) (k now : ℕ) where
  -- with one more release now, there are more releases of task k from a tick to now than its arrival curve allows
  abbrev pub crowded_from : ℕ → Bool
  crowded_from tick = nat_lt (m.arrivals.count k (span tick now)) (releases k tick jobs + 1)

  -- there are, from some release of the task
  abbrev pub crowded_from_a_release : Bool
  crowded_from_a_release = list_any (λ j. of_task k j && crowded_from j.release) jobs

  -- there are, from some release of the task or from now
  abbrev pub crowded_now : Bool
  crowded_now = crowded_from_a_release || crowded_from now
