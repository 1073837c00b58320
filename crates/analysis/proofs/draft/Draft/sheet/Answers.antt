use Rattle.std.proofs.Common.{sym}
use Rattle.std.proofs.lemmas.Result.{err_from_is_err_and, MatchResult-weaker}
use Rattle.model.proofs.VerdictLaws.{verdict_early}
use Rattle.analysis.specs.Drafted.{drafted}
use Rattle.analysis.specs.Judgement.{windows_on, bounds_on}
use Rattle.analysis.proofs.Verdicts.{sheet_accepted, sheet_refused}
use Rattle.analysis.proofs.draft.Draft.sheet.Goals as goal

pub returns-in_err-check : goal.returns-in_err-check
returns-in_err-check g c =
    let p = err_from_is_err_and c.from_residual.result c.from_residual.ensures.1 in
    rw (p.1, p.2) (verdict_early _ _ (sym c.in_err-check.ensures))

pub returns : goal.returns
returns g c =
    let t = drafted g.P.Parts.meaning c.args.self.now in
    let fits = sym c.in_ok-check.ensures in
    let found = rw c.as_slice.ensures.value at c.sheet.ensures in
    MatchResult-weaker c.sheet.result found (λ s kept. sheet_accepted t fits (windows_on s) (bounds_on s) kept) (sheet_refused t fits)
