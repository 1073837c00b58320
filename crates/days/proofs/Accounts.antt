-- The two accounts of a busy window: while a job over the level is unfinished, the window is shorter than what can have
-- been asked for in it; and before a job is in its tail, it is shorter than the job's need.
use Rattle.std.proofs.Common.{◌≡◌, ℕ, ◌+◌, ◌-◌, ◌*◌, ◌<◌, ◌≤◌, true, Some, ⊎_elim, mul-le-mul_left, arith}
use Rattle.std.proofs.lemmas.Bool.{cases_Bool, cases_lt, both_ways}
use Rattle.model.specs.Analysis.{Parts, tasks, blocked, others_work, need, ready}
use Rattle.model.specs.Arrivals.{last_length}
use Rattle.model.specs.Tables.{Lawful}
use Rattle.model.specs.declared.released.Released.{Released}
use Rattle.model.proofs.AnalysisLaws.{cost_within_work, ready_least}
use Rattle.days.specs.Jobs.{unfinished, released}
use Rattle.days.specs.Rules.{State}
use Rattle.days.specs.declared.job.Job.{Job}
use Rattle.days.proofs.Members.{In}
use Rattle.days.proofs.Invariants.{Sound, Busy, Demanded, released_in, over, received_over}
use Rattle.days.proofs.Charges.{covered}

-- an unfinished job over the level was released in its busy window
pub in_window_released : (m : Parts) (v : Released) (s : State) (w b : ℕ) → Busy m v s w b
    → (q : Job) → In q s.jobs → over m v q ≡ true → unfinished q ≡ true → w ≤ q.release
in_window_released m v s w b busy q member is unended =
    ⊎_elim (λ earlier. absurd (both_ways (unfinished q) (busy.earlier_ended q member is earlier) unended)) (λ from. from) (cases_lt q.release w)

module _ (m : Parts) (lawful : Lawful m) (order_tasks : m.order.tasks ≡ m.arrivals.tasks) (sections_tasks : m.sections.tasks ≡ m.arrivals.tasks) where
  -- a job is over its own level
  pub over_itself : (j : Job) → j.task < tasks m → over m (released j) j ≡ true
  over_itself j has =
      let ordered : j.task < m.order.tasks = omega arith in
      ⊎_elim (λ yes. yes) (λ no. lawful.order.total (released j) (released j) ordered ordered no) (cases_Bool (over m (released j) j))

  module _ (s : State) (sound : Sound m s) (w b d : ℕ) (last : d ≤ last_length) (before : (j : Job) → In j s.jobs → j.release < w + d) where
    -- the account of a level, while a job over it is unfinished
    pub level_account : (v : Released) → v.task < tasks m → w ≤ v.at → Busy m v s w b
        → (q : Job) → In q s.jobs → over m v q ≡ true → unfinished q ≡ true
        → b + received_over m w v s.jobs < blocked m v.task + m.sections.cost v.task * released_in v.task w d s.jobs + others_work m v.task (v.at - w) d
    level_account v has early busy q member is unended =
        let from = in_window_released m v s w b busy q member is unended in
        let sums = covered m lawful order_tasks s sound v has w d d early last before
        (λ j in-jobs same behind. omega (arith, before j in-jobs))
        q member is from (λ _. before q member) 1 (omega (arith, sound.below_cost q member unended)) in
        omega (arith, busy.within_blocked)

    -- the account of an unfinished job before its tail
    pub need_account : (q : Job) → In q s.jobs → w ≤ q.release → Busy m (released q) s w b → unfinished q ≡ true
        → q.received ≤ m.sections.cost q.task - m.sections.tail q.task
        → b + received_over m w (released q) s.jobs < need m q.task (q.release - w) d
    unfolding need
    need_account q member early busy unended waiting =
        let i = q.task in
        let A = q.release - w in
        let has = sound.known q member in
        let sectioned : i < m.sections.tasks = omega arith in
        let tail = lawful.sections.tail_within i sectioned in
        let short : A + 1 ≤ last_length = omega (arith, sound.past q member, sound.short) in
        let sums = covered m lawful order_tasks s sound (released q) has w (A + 1) d early last before
        (λ j in-jobs same behind. sound.in_turn q j member in-jobs (cc) unended (omega arith))
        q member (over_itself q has) early (λ _. omega arith) (m.sections.tail i) (omega arith) in
        let few = mul-le-mul_left (m.sections.cost i) (sound.curve i w (A + 1) has short) in
        omega (arith, busy.within_blocked, cost_within_work m lawful.arrivals i (A + 1) has (omega arith) short)

  -- A state all of whose jobs were released before now.
  module _ (s : State) (sound : Sound m s) (past : (j : Job) → In j s.jobs → j.release < s.now) (w b : ℕ) where
    -- while a job over the level is unfinished, the ticks from the window's start to now can have been asked for
    pub demanded_now : (v : Released) → v.task < tasks m → w ≤ v.at → Busy m v s w b
        → (q : Job) → In q s.jobs → over m v q ≡ true → unfinished q ≡ true → (d : ℕ) → s.now ≡ w + d → Demanded m v s.jobs w d
    demanded_now v has early busy q member is unended d now =
        let account = level_account s sound w b d (omega (arith, sound.short)) (λ j in-jobs. omega (arith, past j in-jobs)) v has early busy q member is unended in
        omega (arith, busy.account)

    -- before its tail an unfinished job is not ready yet
    pub not_yet_ready : (q : Job) → In q s.jobs → w ≤ q.release → Busy m (released q) s w b → unfinished q ≡ true
        → q.received ≤ m.sections.cost q.task - m.sections.tail q.task
        → (length : ℕ) → ready m q.task (q.release - w) ≡ Some length → s.now ≤ w + length → s.now < w + length
    not_yet_ready q member early busy unended waiting length is within =
        let least = ready_least m q.task (q.release - w) length is in
        let account = need_account s sound w b length (omega (arith, least.within)) (λ j in-jobs. omega (arith, past j in-jobs)) q member early busy unended waiting in
        omega (arith, least.met, busy.account)
