use Rattle.std.proofs.Common.{◌≡◌, drop, None, sym, ap, ◌∙◌}
use Rattle.days.specs.Records.{decoded}
use Rattle.analysis.specs.Judgement.{verdict_of}
use Rattle.book.specs.Books.{parts_of, state_of}
use Rattle.book.proofs.Following.{followed_unread}
use Rattle.records.proofs.reader.obey.Goals as goal

pub returns-in_default-clause-followed : goal.returns-in_default-clause-followed
returns-in_default-clause-followed g c =
    let book = c.args.book.now in
    let asked = decoded (drop c.args.place c.args.bytes.now) in
    let none : asked ≡ None = ap decoded (sym c.bytes_from.ensures) ∙ c.in_default.ensures in
    rw (none, c.from.ensures) (followed_unread (verdict_of book.table) (g.P.Parts.meaning (parts_of book)) (state_of book) c.unread.result c.unread.ensures)
