-- A job as the book shows it: task, release, state, and the time that it took or 0.
-- Cited by the question about a job.
use Rattle.std.specs.Prelude.{ℕ, List, Option}
use Rattle.std.specs.List.{slice_get}
use Rattle.std.specs.Option.{option_map}
use Rattle.model.specs.Choice.{if_some}
use Rattle.days.specs.Views.{shown_time}
use Rattle.days.specs.declared.job.Job.{Job}
use Rattle.book.specs.declared.views.JobView.{JobView}

abbrev pub job_view : Job → JobView
job_view j = record { task = j.task; release = j.release; state = j.state; took = if_some (shown_time j.state j.took) 0 (λ ticks. ticks) }

-- job n of the book, or none
abbrev pub nth_job : List Job → ℕ → Option JobView
nth_job jobs n = option_map job_view (slice_get jobs n)
