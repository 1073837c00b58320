use Rattle.std.proofs.Common.{◌≡◌, ◌≤◌, ◌&&◌, nat_le, take, count_by}
use Rattle.days.specs.Jobs.{of_task}
use Rattle.jobs.proofs.questions.released_since.Given as goal

abbrev pub invariant-loop-job : goal.invariant-loop-job
invariant-loop-job l =
    (l.number ≤ l.job-index)
    × (l.number ≡ count_by (λ j. of_task l.task j && nat_le l.tick j.release) (take l.job-index l.jobs))
