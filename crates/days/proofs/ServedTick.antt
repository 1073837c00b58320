-- One served tick of a state: which jobs it leaves, how sums over them move, and who is held then.
use Rattle.std.proofs.Common.{◌≡◌, ℕ, ◌+◌, ◌≤◌, true, ⊎_elim, arith}
use Rattle.std.specs.List.{count_by, list_any, sum_by}
use Rattle.std.proofs.lemmas.Bool.{cases_Bool, and_parts}
use Rattle.model.specs.Analysis.{Parts}
use Rattle.days.specs.Jobs.{held, unfinished, of_task, pending, served}
use Rattle.days.specs.Rules.{State, after}
use Rattle.days.specs.declared.command.Command.TheVariants.{Serve}
use Rattle.days.specs.declared.command.Mark.{Mark}
use Rattle.days.specs.declared.job.Job.{Job}
use Rattle.days.proofs.Members.{In}
use Rattle.days.proofs.Invariants.{Sound, Serves, in_span, released_in}
use Rattle.days.proofs.MemberLaws.{any_none, first_in, changed_new, each_changed}
use Rattle.days.proofs.SumsOver.{one_if, one_if_most, sum_none, sum_changed, count_some, only_one}

-- the state after a tick of job x
abbrev pub next : State → Mark → Job → State
next s mark x = after s (Serve mark x.task)

-- job x after its tick
abbrev pub moved : State → Mark → Job → Job
moved s mark x = served mark (s.now + 1) x

module _ {m : Parts} {s : State} {mark : Mark} {x : Job} (serves : Serves m s mark x) where
  -- the served job is one of the jobs
  pub served_in : In x s.jobs
  served_in = (first_in (pending x.task) s.jobs x serves.is_first).0

  -- and was unfinished
  pub served_unended : unfinished x ≡ true
  served_unended = (and_parts (of_task x.task x) (unfinished x) (first_in (pending x.task) s.jobs x serves.is_first).1).1

  -- after its tick it is one of the jobs
  pub moved_in : In (moved s mark x) (next s mark x).jobs
  moved_in = changed_new (pending x.task) (served mark (s.now + 1)) s.jobs x serves.is_first

  -- what holds of the served job after its tick, and held of every job before, holds of every job
  pub each_served : (P : Job → Type 0) → P (moved s mark x) → ((j : Job) → In j s.jobs → P j) → (j : Job) → In j (next s mark x).jobs → P j
  each_served P new old = each_changed P (pending x.task) (served mark (s.now + 1)) s.jobs x serves.is_first new old

  -- a sum over the jobs moves by the term of the served one
  pub sum_after : (f : Job → ℕ) → sum_by f (next s mark x).jobs + f x ≡ sum_by f s.jobs + f (moved s mark x)
  sum_after f = sum_changed f (pending x.task) (served mark (s.now + 1)) s.jobs x serves.is_first

  -- releases stay
  pub releases_after : (k a d : ℕ) → released_in k a d (next s mark x).jobs ≡ released_in k a d s.jobs
  releases_after k a d = omega (arith, sum_after (λ j. one_if (in_span k a d j)))

  module _ (sound : Sound m s) where
    -- after the tick no job is held but the served one, if that is
    held_after : count_by held (next s mark x).jobs ≤ one_if (held (moved s mark x))
    held_after =
        let count = sum_after (λ j. one_if (held j)) in
        ⊎_elim (λ some. let own : one_if (held x) ≡ 1 = rw (serves.alone some) in omega (arith, sound.one_held))
        (λ none. let old = sum_none (λ j. one_if (held j)) s.jobs (λ j member. rw (any_none held s.jobs none j member)) in omega arith)
        (cases_Bool (list_any held s.jobs))

    -- so at most one job is held
    pub one_held_after : count_by held (next s mark x).jobs ≤ 1
    one_held_after = omega (arith, held_after, one_if_most (held (moved s mark x)))

    -- and a held job is the served one
    pub held_is_moved : (j : Job) → In j (next s mark x).jobs → held j ≡ true → j ≡ moved s mark x
    held_is_moved j member holds =
        ⊎_elim (λ too. only_one held (next s mark x).jobs j (moved s mark x) one_held_after member moved_in holds too)
        (λ free. let none : one_if (held (moved s mark x)) ≡ 0 = rw free in
        absurd (omega (arith, held_after, count_some held (next s mark x).jobs j member holds)))
        (cases_Bool (held (moved s mark x)))
