-- What it says that a command is taken: it breaks none of the rules, and so a release finds room and no crowd, a
-- service is one tick of the first unfinished job of its task, and an idling finds nothing to do.
use Rattle.std.proofs.Common.{◌≡◌, ℕ, ◌+◌, ◌<◌, ◌≤◌, Bool, true, false, not, ◌&&◌, length, Some, None, Option, sym, refl, subst, arith}
use Rattle.std.specs.List.{find, list_any}
use Rattle.std.proofs.lemmas.Bool.{leb-false, ltb-false, eqb-true, eqb-false, and_parts, not-false, not_from_false, false≢true}
use Rattle.model.specs.Analysis.{Parts, tasks}
use Rattle.model.specs.Choice.{if_some}
use Rattle.model.specs.declared.fault.Fault.{Fault}
use Rattle.model.specs.declared.fault.Refusal.{Refusal}
use Rattle.model.proofs.VerdictLaws.{or_else_none}
use Rattle.days.specs.Jobs.{held, unfinished, of_task, pending, released, allowed}
use Rattle.days.specs.Rules.{State, most_jobs, last_tick, after, crowding, more_urgent, of_served, unreadable, full, crowded, absent, another_held, behind, forbidden, broken, refused, answer}
use Rattle.days.specs.declared.command.Command.{Command}
use Rattle.days.specs.declared.command.Command.TheVariants.{Release, Serve, Idle}
use Rattle.days.specs.declared.command.Mark.{Mark}
use Rattle.days.specs.declared.job.Job.{Job}
use Rattle.days.proofs.Members.{In}
use Rattle.days.proofs.Invariants.{Serves}
use Rattle.days.proofs.MemberLaws.{first_in, any_first, any_none}

-- a rule that gives no refusal is kept
unbroken : (so : Bool) (why : Refusal) (k : ℕ) → broken so why k ≡ None → so ≡ false
unbroken true why k none = absurd (let z : ◌≡◌ {A = ℕ} 0 1 = cc in omega arith)
unbroken false why k none = refl

-- of two that do not both hold, the second fails if the first holds
and_other : (x y : Bool) → (x && y) ≡ false → x ≡ true → y ≡ false
and_other true y fails holds = fails
and_other false y fails holds = absurd (false≢true holds)

-- what is said to be false of what may be there is false of what is there
if_some_false : {X : Type 0} (o : Option X) (says : X → Bool) (x : X) → o ≡ Some x → if_some o false says ≡ false → says x ≡ false
if_some_false o says x found denied = rw found at denied

module _ (m : Parts) (s : State) where
  -- a command breaks none of the seven rules
  pub record KeepsRules (c : Command) : Type 0 where
    pub readable : unreadable m s c ≡ false
    pub fits : full m s c ≡ false
    pub uncrowded : crowded m s c ≡ false
    pub present : absent m s c ≡ false
    pub unhindered : another_held m s c ≡ false
    pub urgent : behind m s c ≡ false
    pub permitted : forbidden m s c ≡ false

  -- a command that is not refused keeps the rules
  keeps_rules : (c : Command) → refused m s c ≡ None → KeepsRules c
  keeps_rules c none =
      let r7 = or_else_none _ _ none in
      let r8 = or_else_none _ _ r7.1 in
      let r9 = or_else_none _ _ r8.1 in
      let r10 = or_else_none _ _ r9.1 in
      let r11 = or_else_none _ _ r10.1 in
      let r12 = or_else_none _ _ r11.1 in
      record {
        readable = unbroken _ _ _ r7.0;
        fits = unbroken _ _ _ r8.0;
        uncrowded = unbroken _ _ _ r9.0;
        present = unbroken _ _ _ r10.0;
        unhindered = unbroken _ _ _ r11.0;
        urgent = unbroken _ _ _ r12.0;
        permitted = unbroken _ _ _ r12.1;
      }

  -- a taken release is of a task of the table, finds room, and no span that starts at a release and ends now is crowded
  pub taken_release : (k : ℕ) → KeepsRules (Release k)
      → (k < tasks m) × (length s.jobs < most_jobs)
      × ((j : Job) → In j (after s (Release k)).jobs → crowding m s.now k (after s (Release k)).jobs j ≡ false)
  taken_release k kept = (
    leb-false (tasks m) k kept.readable,
    leb-false most_jobs (length s.jobs) kept.fits,
    any_none (crowding m s.now k (after s (Release k)).jobs) (after s (Release k)).jobs kept.uncrowded,
  )

  -- a taken idling takes time that there is, and finds no job held and none unfinished
  pub taken_idling : (n : ℕ) → KeepsRules (Idle n)
      → (1 ≤ n) × (s.now + n ≤ last_tick) × (list_any held s.jobs ≡ false) × (list_any unfinished s.jobs ≡ false)
  taken_idling n kept =
      (omega (arith, eqb-false n 0 kept.readable), ltb-false last_tick (s.now + n) kept.fits, kept.unhindered, kept.urgent)

  module _ (mark : Mark) (k : ℕ) (kept : KeepsRules (Serve mark k)) (x : Job) (found : find (pending k) s.jobs ≡ Some x) where
    -- what is said of the served job
    says_of : (says : Job → Bool) → of_served m s k says ≡ false → says x ≡ false
    says_of says denied = if_some_false (find (pending k) s.jobs) says x found denied

    -- it is of the task
    its_task : x.task ≡ k
    its_task = eqb-true x.task k (and_parts (of_task k x) (unfinished x) (first_in (pending k) s.jobs x found).1).0

    -- no job that is unfinished is more urgent, if none is held
    its_turn : list_any held s.jobs ≡ false → (l : Job) → In l s.jobs → unfinished l ≡ true → m.order.ahead (released x) (released l) ≡ true
    its_turn none l within waits =
        let unserved = and_other _ _ kept.urgent (not_from_false (list_any held s.jobs) none) in
        let urgent = any_none (more_urgent m x) s.jobs (says_of (λ j. list_any (more_urgent m j) s.jobs) unserved) l within in
        not-false (m.order.ahead (released x) (released l)) (and_other (unfinished l) _ urgent waits)

    -- the service is one tick of it
    serves : Serves m s mark x
    serves =
        record {
          is_first = subst (λ n. find (pending n) s.jobs ≡ Some x) (sym its_task) found;
          alone = λ some. not-false (held x) (says_of (λ j. not (held j)) (and_other _ _ kept.unhindered some));
          foremost = its_turn;
          may = not-false (allowed m.sections mark x) (says_of (λ j. not (allowed m.sections mark j)) kept.permitted);
          room = omega (arith, ltb-false last_tick (s.now + 1) kept.fits);
        }

  -- A taken service is one tick of the first unfinished job of its task.
  pub taken_service : (mark : Mark) (k : ℕ) → KeepsRules (Serve mark k) → (x : Job) × (x.task ≡ k) × Serves m s mark x
  taken_service mark k kept =
      let one = any_first (pending k) s.jobs (not-false (list_any (pending k) s.jobs) kept.present) in
      (one.0, its_task mark k kept one.0 one.1, serves mark k kept one.0 one.1)

-- a command that is taken was asked for, on a book whose table is accepted, and keeps the rules
pub taken_keeps : (verdict : Option Fault) (m : Parts) (s : State) (c : Command) → answer verdict m s (Some c) ≡ None → (verdict ≡ None) × KeepsRules m s c
taken_keeps None m s c taken = (refl, keeps_rules m s c taken)
taken_keeps (Some why) m s c taken = absurd (let z : ◌≡◌ {A = ℕ} 0 1 = cc in omega arith)
