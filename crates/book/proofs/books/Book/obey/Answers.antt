use Rattle.std.proofs.Common.{Some, sym, refl, ◌∙◌, subst}
use Rattle.std.specs.Result.{result_err}
use Rattle.timeline.specs.Obeyed.{Obeyed}
use Rattle.timeline.specs.Timelines.{held_by}
use Rattle.analysis.specs.Judgement.{verdict_of}
use Rattle.book.specs.Books.{parts_of}
use Rattle.book.proofs.Following.{followed_unfit, followed_obeyed}
use Rattle.book.proofs.books.Book.obey.Goals as goal

pub returns-in-Some : goal.returns-in-Some
returns-in-Some g c =
    let book = c.args.self.now in
    let m = g.P.Parts.meaning (parts_of book) in
    record {
      table = refl;
      followed = rw c.new.ensures (followed_unfit (verdict_of book.table) m (held_by book.timeline) (Some c.args.command) c.in-Some.field-0 (sym c.verdict.ensures ∙ c.in-Some.is));
    }

pub returns-in-None : goal.returns-in-None
returns-in-None g c =
    let book = c.args.self.now in
    let m = g.P.Parts.meaning (parts_of book) in
    let before = held_by book.timeline in
    let later = held_by c.obey.new.self in
    let obeyed = subst (λ parts. Obeyed (g.P.Parts.meaning parts) c.args.command before later (result_err c.obey.result)) c.parts.ensures c.obey.ensures in
    record { table = refl; followed = followed_obeyed (verdict_of book.table) m before c.args.command (result_err c.obey.result) later (sym c.verdict.ensures ∙ c.in-None.is) obeyed }
