use Rattle.std.proofs.Common.{[], sym, refl, subst}
use Rattle.days.specs.Days.{Led, opened}
use Rattle.days.proofs.Promise.{no_day_worse, no_day_worse_than_heavier}
use Rattle.analysis.specs.Drafted.{drafted}
use Rattle.analysis.specs.Judgement.{verdict_of}
use Rattle.book.proofs.books.Book.open.Goals as goal

pub returns : goal.returns
returns g c =
    let table = c.args.table in
    let t = drafted g.P.Parts.meaning table.draft in
    let lawful = g.P.Parts.lawful table.draft.parts in
    record {
      table = refl;
      state = c.new.ensures;
      day = subst (Led (verdict_of table) t.parts []) (sym c.new.ensures) opened;
      promise = no_day_worse t lawful (verdict_of table);
      lighter = no_day_worse_than_heavier t lawful (verdict_of table);
    }
