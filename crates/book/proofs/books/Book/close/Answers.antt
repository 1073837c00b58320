use Rattle.std.proofs.Common.{refl}
use Rattle.analysis.specs.Drafted.{drafted}
use Rattle.analysis.specs.Judgement.{verdict_of}
use Rattle.book.specs.Books.{parts_of, state_of}
use Rattle.book.proofs.DayTotals.{of_every_day, within_bounds}
use Rattle.book.proofs.books.Book.close.Goals as goal

pub returns : goal.returns
returns g c =
    let book = c.args.self in
    let t = drafted g.P.Parts.meaning book.table.draft in
    let lawful = g.P.Parts.lawful (parts_of book) in
    let so = c.totals-totals.ensures in
    record {
      table = refl;
      totals = so;
      day = of_every_day t lawful (verdict_of book.table) (state_of book) c.totals-totals.result so;
      promise = within_bounds t lawful (verdict_of book.table) (state_of book) c.totals-totals.result so;
    }
