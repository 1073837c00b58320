-- The answer to a service, once the task is known and the last tick has not come.
use Rattle.std.proofs.Common.{◌≡◌, ℕ, ◌+◌, ◌<◌, Bool, true, false, cond, not, ◌&&◌, Some, None, Option, sym, refl, ap, ◌∙◌, position, get_or, set, arith}
use Rattle.std.specs.List.{find, list_any}
use Rattle.std.proofs.lemmas.Bool.{lt-leb, le-ltb}
use Rattle.model.specs.Analysis.{Parts, tasks}
use Rattle.model.specs.Choice.{◌or_else◌, if_some}
use Rattle.model.specs.Faults.{fault}
use Rattle.model.specs.declared.fault.Fault.{Fault}
use Rattle.model.specs.declared.fault.Part.TheVariants.{Book}
use Rattle.model.specs.declared.fault.Refusal.{Refusal}
use Rattle.model.specs.declared.fault.Refusal.TheVariants as refusal
use Rattle.days.specs.Jobs.{held, pending, served, allowed}
use Rattle.days.specs.Rules.{State, last_tick, after, more_urgent, broken, refused}
use Rattle.days.specs.declared.command.Command.TheVariants.{Serve}
use Rattle.days.specs.declared.command.Mark.{Mark}
use Rattle.days.specs.declared.job.Job.{Job}
use Rattle.days.proofs.MemberLaws.{first_in, some_any}
use Rattle.timeline.specs.Obeyed.{obstacle}
use Rattle.timeline.proofs.Places.{none_placed, first_placed}

-- what the book says of a task, if there is a reason
abbrev pub about : ℕ → Option Refusal → Option Fault
about k why = if_some why None (λ reason. Some (fault reason Book k))

-- the first of three reasons
three : (k : ℕ) (some-held held urgent may : Bool)
    → (broken (some-held && not held) refusal.Held k or_else broken (not some-held && urgent) refusal.Behind k or_else broken (not may) refusal.Section k)
    ≡ about k (cond some-held (cond held None (Some refusal.Held)) (cond urgent (Some refusal.Behind) None) or_else cond may None (Some refusal.Section))
three k true true urgent true = refl
three k true true urgent false = refl
three k true false urgent may = refl
three k false held true may = refl
three k false held false true = refl
three k false held false false = refl

module _ (m : Parts) (s : State) (mark : Mark) (k : ℕ) where
  module _ (known : k < tasks m) (room : s.now < last_tick) where
    -- the task has no unfinished job
    pub serve_none : list_any (pending k) s.jobs ≡ false → refused m s (Serve mark k) ≡ Some (fault refusal.Absent Book k)
    serve_none none = rw (lt-leb (tasks m) k known, le-ltb last_tick (s.now + 1) (omega arith), none)

    -- and so none has a place
    pub serve_absent : None ≡ position (pending k) s.jobs → Some (fault refusal.Absent Book k) ≡ refused m s (Serve mark k)
    serve_absent none = sym (serve_none (none_placed (pending k) s.jobs (sym none)))

    -- its first unfinished job may be served or not
    pub serve_obstacle : (x : Job) → find (pending k) s.jobs ≡ Some x → refused m s (Serve mark k) ≡ about k (obstacle m s.jobs mark x)
    serve_obstacle x found =
        let member = first_in (pending k) s.jobs x found in
        rw (lt-leb (tasks m) k known, le-ltb last_tick (s.now + 1) (omega arith), some_any (pending k) s.jobs x member.0 member.1, found) (three k (list_any held s.jobs) (held x) (list_any (more_urgent m x) s.jobs) (allowed m.sections mark x))

    -- and so may the job that stands at its place
    pub serve_answer : (n : ℕ) (x : Job) → Some n ≡ position (pending k) s.jobs → x ≡ get_or s.jobs n x → about k (obstacle m s.jobs mark x) ≡ refused m s (Serve mark k)
    serve_answer n x place there =
        sym (serve_obstacle x ((first_placed (pending k) x s.jobs n (sym place)).is_first ∙ ap Some (sym there)))

  -- a service changes the job at n
  pub serve_changes : (n : ℕ) (x : Job) → Some n ≡ position (pending k) s.jobs → x ≡ get_or s.jobs n x → set s.jobs n (served mark (s.now + 1) x) ≡ (after s (Serve mark k)).jobs
  serve_changes n x place there =
      ap (λ j. set s.jobs n (served mark (s.now + 1) j)) there ∙ sym ((first_placed (pending k) x s.jobs n (sym place)).changed (served mark (s.now + 1)))
