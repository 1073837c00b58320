use Rattle.std.proofs.Common.{refl}
use Rattle.model.proofs.JudgedLaws.{judged_accepts, judged_sealed, judged_no_worse}
use Rattle.analysis.specs.Drafted.{drafted}
use Rattle.analysis.proofs.Verdicts.{held_sheet}
use Rattle.analysis.proofs.draft.Draft.judge.Goals as goal

pub returns : goal.returns
returns g c =
    let t = drafted g.P.Parts.meaning c.args.self in
    let held = held_sheet t c.sheet-sheet.result c.sheet-sheet.ensures in
    let lawful = g.P.Parts.lawful c.args.self.parts in
    record { same = refl; sheet = held; accepted = judged_accepts t _ _ _ held; sealed = judged_sealed t _ _ _ held lawful; lighter = judged_no_worse t _ _ _ held lawful }
