-- What follows from what a judged table holds: when it is accepted, what its sheet then says, and that it is no worse
-- than a heavier one.
use Rattle.std.proofs.Common.{◌≡◌, ℕ, ◌<◌, List, [], length, get_or, Some, None, Option, sym, ◌∙◌, arith}
use Rattle.std.proofs.lemmas.Bool.{lt-ltb}
use Rattle.model.specs.Analysis.{bound}
use Rattle.model.specs.Lighter.{NoWorseThanHeavier}
use Rattle.model.specs.Sealed.{SealedSheet}
use Rattle.model.specs.Tables.{Table, Lawful, verdict, Accepts, on_sheet, window_length, JudgedSo}
use Rattle.model.specs.declared.fault.Fault.{Fault}
use Rattle.model.proofs.LighterLaws.{lighter_accepted}
use Rattle.model.proofs.SealedLaws.{sealed}
use Rattle.model.proofs.VerdictLaws.{accepted_says, says_accepted}

module _ (t : Table) where
  -- on the sheet of an accepted table stand the numbers of its tasks
  pub on_accepted : (f : ℕ → ℕ) (k : ℕ) → verdict t ≡ None → k < length t.deadlines → on_sheet t f k ≡ f k
  on_accepted f k accepted has = rw (accepted, lt-ltb k (length t.deadlines) has)

  -- on that of a refused one, 0
  pub on_refused : (f : ℕ → ℕ) (k : ℕ) (why : Fault) → verdict t ≡ Some why → on_sheet t f k ≡ 0
  on_refused f k why refused = rw refused

  -- a refused table has no sheet
  pub refused_blank : (why : Fault) → verdict t ≡ Some why → JudgedSo t (Some why) [] []
  refused_blank why refused =
      record {
        by_verdict = sym refused;
        by_window = λ k. sym (on_refused (window_length t.parts) k why refused);
        by_bound = λ k. sym (on_refused (bound t.parts) k why refused);
      }

  module _ (found : Option Fault) (windows bounds : List ℕ) (held : JudgedSo t found windows bounds) where
    -- no fault is found in just those tables that ought to be accepted
    pub judged_accepts : (found ≡ None → Accepts t) × (Accepts t → found ≡ None)
    judged_accepts = (λ none. accepted_says t (sym held.by_verdict ∙ none), λ so. held.by_verdict ∙ says_accepted t so)

    -- none of its bounds is larger than those of an accepted heavier table
    pub judged_no_worse : Lawful t.parts → NoWorseThanHeavier t found bounds
    judged_no_worse lawful heavy heavy-lawful accepted lighter =
        let both = lighter_accepted t heavy lawful heavy-lawful accepted lighter in (
          held.by_verdict ∙ both.0,
          λ k has. rw (held.by_bound k ∙ on_accepted (bound t.parts) k both.0 has) (both.1 k has),
        )

    -- the sheet of an accepted table says what it should of each task
    pub judged_sealed : Lawful t.parts → SealedSheet t found windows bounds
    judged_sealed lawful none k has =
        let accepted : verdict t ≡ None = sym held.by_verdict ∙ none in
        let so = accepted_says t accepted in
        let kept = so.each k has in
        let window-so : get_or windows k 0 ≡ kept.ticks = held.by_window k ∙ on_accepted (window_length t.parts) k accepted has ∙ rw kept.found in
        let bound-so : get_or bounds k 0 ≡ bound t.parts k = held.by_bound k ∙ on_accepted (bound t.parts) k accepted has in
        rw (window-so, bound-so)
        (sealed t.parts lawful (omega arith) (omega arith) k kept.ticks (omega arith) kept.found)
