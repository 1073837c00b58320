-- One more release among the releases of a task.
use Rattle.std.proofs.Common.{◌≡◌, ℕ, suc, ◌+◌, ◌-◌, ◌<◌, ◌≤◌, Bool, ◌&&◌, ◌||◌, ltb, leb, List, [], ◌∷◌, ◌++◌, length, get_or, refl, ap, ◌∙◌, ap₂, arith, cond, All}
use Rattle.std.specs.List.{list_any}
use Rattle.std.proofs.Math.Bool.{or-false}
use Rattle.std.proofs.lemmas.Bool.{eq-eqb, le-leb, and_from}
use Rattle.std.proofs.lemmas.List.Folds.{list_any-append}
use Rattle.std.proofs.lemmas.List.Sums.{sum_by_push}
use Rattle.model.specs.Analysis.{Parts}
use Rattle.model.specs.Arrivals.{last_length}
use Rattle.days.specs.Jobs.{of_task, new_job}
use Rattle.days.specs.Rules.{releases, crowding}
use Rattle.days.specs.declared.job.Job.{Job}
use Rattle.jobs.specs.Crowds.{span, crowded_from, crowded_now}

-- two tests that agree on every element
any_agree : {X : Type 0} (p q : X → Bool) (xs : List X) → ((n : ℕ) (d : X) → n < length xs → p (get_or xs n d) ≡ q (get_or xs n d)) → list_any p xs ≡ list_any q xs
any_agree p q [] agree = refl
any_agree p q (x ∷ xs) agree = ap₂ (λ b c. b || c) (agree 0 x (omega arith)) (any_agree p q xs (λ n d within. agree (suc n) d (omega arith)))

module _ (m : Parts) (jobs : List Job) (k tick : ℕ) (short : tick < last_length) where
  -- the jobs with the new one
  abbrev with_new : List Job
  with_new = jobs ++ new_job k tick ∷ []

  -- a job from whose release to the tick there are too many releases, with one more at the tick
  abbrev crowding_more : Job → Bool
  crowding_more j = of_task k j && crowded_from m jobs k tick j.release

  -- one more release counts from every release up to it
  releases_more : (from : ℕ) → from ≤ tick → releases k from with_new ≡ releases k from jobs + 1
  releases_more from early =
      sum_by_push (λ j. cond (of_task k j && leb from j.release) 1 0) jobs (new_job k tick)
      ∙ ap (λ b. releases k from jobs + cond b 1 0) (and_from (of_task k (new_job k tick)) (leb from tick) (eq-eqb k k refl) (le-leb from tick early))

  -- a job released by the tick crowds the longer list if it crowds with one more release
  crowds_alike : (j : Job) → j.release ≤ tick → crowding m tick k with_new j ≡ crowding_more j
  crowds_alike j early =
      let length : tick - j.release + 1 ≡ span j.release tick = omega arith in
      ap₂ (λ d n. of_task k j && ltb (m.arrivals.count k d) n) length (releases_more j.release early)

  -- a release at the tick crowds if it does so for some job before it, or for itself
  pub crowds_more : All (λ j. j.release ≤ tick) jobs → list_any (crowding m tick k with_new) with_new ≡ crowded_now m jobs k tick
  crowds_more past =
      list_any-append (crowding m tick k with_new) jobs (new_job k tick ∷ [])
      ∙ ap₂ (λ b c. b || c) (any_agree _ crowding_more jobs (λ n d within. crowds_alike (get_or jobs n d) (past n d within)))
      (or-false _ ∙ crowds_alike (new_job k tick) (omega arith) ∙ ap (λ b. b && crowded_from m jobs k tick tick) (eq-eqb k k refl))
