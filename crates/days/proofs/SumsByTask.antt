-- Sums over tasks, and a sum over jobs as the sum over tasks of the sums over their jobs.
use Rattle.std.proofs.Common.{◌≡◌, ℕ, zero, suc, ◌+◌, ◌<◌, ◌≤◌, not, eqb, List, [], ◌∷◌, sym, refl, inl, inr, ⊎_elim, arith}
use Rattle.std.specs.List.{sum_by}
use Rattle.std.proofs.lemmas.Bool.{cases_eq, eq-eqb, ne_eqb}
use Rattle.std.proofs.lemmas.List.Sums.{sum_by-cons}
use Rattle.model.specs.Sums.{when, total}
use Rattle.model.proofs.SumLaws.{total_le, total_bound}
use Rattle.days.specs.Jobs.{of_task}
use Rattle.days.specs.declared.job.Job.{Job}
use Rattle.days.proofs.Members.{In}

-- a sum of sums, term by term
total_plus : (n : ℕ) (f g : ℕ → ℕ) → total n (λ k. f k + g k) ≡ total n f + total n g
unfolding total
total_plus zero f g = refl
total_plus (suc n) f g = omega (arith, total_plus n f g)

-- a sum of nothing but zeros
total_none : (n : ℕ) (f : ℕ → ℕ) → ((k : ℕ) → k < n → f k ≡ 0) → total n f ≡ 0
total_none n f each = omega (arith, total_bound n 0 f (λ k below. omega (arith, each k below)))

-- a sum of the same terms
total_same : (n : ℕ) (f g : ℕ → ℕ) → ((k : ℕ) → f k ≡ g k) → total n f ≡ total n g
total_same n f g same = omega (arith, total_le n f g (λ k below. omega (arith, same k)), total_le n g f (λ k below. omega (arith, same k)))

-- a sum with one term
total_only : (n i c : ℕ) → i < n → total n (λ k. when (eqb i k) c) ≡ c
unfolding total
total_only zero i c below = omega arith
total_only (suc n) i c below =
    ⊎_elim (λ last. rw (eq-eqb i n last) (omega (arith, total_none n (λ k. when (eqb i k) c) (λ k before. rw (ne_eqb i k (omega arith))))))
    (λ other. rw (ne_eqb i n other) (omega (arith, total_only n i c (omega arith)))) (cases_eq i n)

-- a sum by one of its terms and the others
pub total_but_one : (n i own : ℕ) (f g : ℕ → ℕ) → i < n → f i ≤ own → ((k : ℕ) → k < n → (k ≡ i → ⊥) → f k ≤ g k) → total n f ≤ own + total n (λ k. when (not (eqb k i)) (g k))
total_but_one n i own f g has first each =
    let split = total_plus n (λ k. when (eqb i k) own) (λ k. when (not (eqb k i)) (g k)) in
    let terms = total_le n f (λ k. when (eqb i k) own + when (not (eqb k i)) (g k)) (λ k below.
    ⊎_elim (λ same. rw (eq-eqb i k same) (omega (arith, rw same at first)))
    (λ (other : i ≡ k → ⊥). let differs : k ≡ i → ⊥ = λ same. other (sym same) in rw (ne_eqb k i differs) (omega (arith, each k below differs))) (cases_eq i k)) in
    omega (arith, total_only n i own has)

-- The jobs of all tasks, task by task.
pub sum_by_task : (f : Job → ℕ) (n : ℕ) (jobs : List Job) → ((j : Job) → In j jobs → j.task < n) → sum_by f jobs ≡ total n (λ k. sum_by (λ j. when (of_task k j) (f j)) jobs)
sum_by_task f n [] known = sym (total_none n (λ k. 0) (λ k below. refl))
sum_by_task f n (j ∷ jobs) known =
    let later = sum_by_task f n jobs (λ l there. known l (inr there)) in
    let terms = total_same n (λ k. sum_by (λ l. when (of_task k l) (f l)) (j ∷ jobs)) (λ k. when (of_task k j) (f j) + sum_by (λ l. when (of_task k l) (f l)) jobs)
    (λ k. sum_by-cons (λ l. when (of_task k l) (f l)) j jobs) in
    omega (arith, terms, sum_by-cons f j jobs, total_only n j.task (f j) (known j (inl refl)), total_plus n (λ k. when (of_task k j) (f j)) (λ k. sum_by (λ l. when (of_task k l) (f l)) jobs))
