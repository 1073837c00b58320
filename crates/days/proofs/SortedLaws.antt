-- Jobs in order of release: one more at the end and a change of one keep the order, and the first job that passes a
-- test is the earliest that does.
use Rattle.std.proofs.Common.{◌≡◌, ◌≤◌, Bool, true, List, [], ◌∷◌, ◌++◌, Some, refl, inl, inr, ⊎_elim, le_refl, arith}
use Rattle.std.specs.List.{find}
use Rattle.std.proofs.lemmas.Bool.{cases_Bool, both_ways}
use Rattle.days.specs.Lists.{change_first}
use Rattle.days.specs.declared.job.Job.{Job}
use Rattle.days.proofs.Members.{In}
use Rattle.days.proofs.Invariants.{Sorted}
use Rattle.days.proofs.MemberLaws.{first_here, each_pushed, each_kept}

-- a job released no earlier than the others comes at the end
pub sorted_push : (jobs : List Job) (x : Job) → Sorted jobs → ((j : Job) → In j jobs → j.release ≤ x.release) → Sorted (jobs ++ x ∷ [])
sorted_push [] x sorted last = ((λ l within. absurd within), tt)
sorted_push (y ∷ jobs) x sorted last = (
  each_pushed (λ l. y.release ≤ l.release) jobs x (last y (inl refl)) sorted.0,
  sorted_push jobs x sorted.1 (λ j within. last j (inr within)),
)

-- a change that leaves the releases leaves the order
pub sorted_changed : (p : Job → Bool) (f : Job → Job) → ((j : Job) → (f j).release ≡ j.release) → (jobs : List Job) → Sorted jobs → Sorted (change_first p f jobs)
sorted_changed p f same [] sorted = tt
sorted_changed p f same (x ∷ jobs) sorted =
    ⊎_elim (λ passes. rw passes ((λ l within. omega (arith, same x, sorted.0 l within)), sorted.1))
    (λ fails. rw fails (each_kept (λ l. x.release ≤ l.release) p f (λ l later. omega (arith, same l)) jobs sorted.0, sorted_changed p f same jobs sorted.1))
    (cases_Bool (p x))

-- the first job that passes is the earliest that does
pub first_earliest : (p : Job → Bool) (jobs : List Job) (x : Job) → Sorted jobs → find p jobs ≡ Some x → (l : Job) → In l jobs → p l ≡ true → x.release ≤ l.release
first_earliest p [] x sorted found l within passes = absurd within
first_earliest p (y ∷ jobs) x sorted found l within passes =
    ⊎_elim
    (λ here. let same = first_here p y jobs x here found in
    let before : y.release ≤ l.release = ⊎_elim (λ (it : l ≡ y). rw it (le_refl y.release)) (sorted.0 l) within in
    rw same at before)
    (λ fails. ⊎_elim (λ it. absurd (both_ways (p y) fails (rw it at passes)))
    (λ later. first_earliest p jobs x sorted.1 (rw fails at found) l later passes) within)
    (cases_Bool (p y))
