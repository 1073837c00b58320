-- The longest time among the jobs of a task that ended.
use Rattle.std.proofs.Common.{◌≡◌, ℕ, max, Bool, true, false, ◌&&◌, eqb, is_some, List, [], ◌∷◌, map, fold, filter, unwrap_or, refl, ap, ◌∙◌, ⊎_elim, arith}
use Rattle.std.specs.List.{reduce}
use Rattle.std.proofs.lemmas.Bool.{cases_Bool}
use Rattle.model.specs.Choice.{if_some}
use Rattle.model.specs.Sums.{when}
use Rattle.days.specs.Lists.{greatest_of}
use Rattle.days.specs.Promise.{ended, time}
use Rattle.days.specs.Views.{shown_time, shown}
use Rattle.days.specs.declared.job.Job.{Job}
use Rattle.days.specs.declared.job.JobState.{JobState}
use Rattle.days.specs.declared.job.JobState.TheVariants.{Waiting, Held, Finished}

-- the time of a job, by whether it is of the task and its state
by_state : (own : Bool) (state : JobState) (took : ℕ) → when own (if_some (shown_time state took) 0 (λ ticks. ticks)) ≡ when (own && is_some (shown_time state took)) took
by_state true Waiting took = refl
by_state true Held took = refl
by_state true Finished took = refl
by_state false state took = refl

-- the greatest of numbers, or 0
greatest_or_0 : (xs : List ℕ) → unwrap_or (reduce max xs) 0 ≡ fold max 0 xs
greatest_or_0 [] = refl
greatest_or_0 (x ∷ xs) = let same : x ≡ max 0 x = omega arith in ap (λ n. fold max n xs) same

module _ (k : ℕ) where
  -- the times of the jobs that ended
  abbrev pub times : List Job → List ℕ
  times jobs = map (λ (j : Job). j.took) (filter (λ j. ended k (shown j)) jobs)

  -- the greatest of a number and these times
  greatest_from : (n : ℕ) (jobs : List Job) → fold max n (times jobs) ≡ max n (greatest_of (time k) (map shown jobs))
  greatest_from n [] = omega arith
  greatest_from n (j ∷ jobs) =
      ⊎_elim (λ is. rw is (omega (arith, greatest_from (max n j.took) jobs, time_is true is)))
      (λ not. rw not (omega (arith, greatest_from n jobs, time_is false not)))
      (cases_Bool (ended k (shown j)))
    where
      time_is : (b : Bool) → ended k (shown j) ≡ b → time k (shown j) ≡ when b j.took
      time_is b is = by_state (eqb j.task k) j.state j.took ∙ ap (λ b. when b j.took) is

  -- The greatest of these times, or 0, is the longest time of what the jobs show.
  pub greatest_time : (jobs : List Job) → unwrap_or (reduce max (times jobs)) 0 ≡ greatest_of (time k) (map shown jobs)
  greatest_time jobs = greatest_or_0 (times jobs) ∙ greatest_from 0 jobs ∙ omega arith
