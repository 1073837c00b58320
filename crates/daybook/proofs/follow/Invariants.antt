use Rattle.std.proofs.Common.{◌≡◌, ◌-◌, length}
use Rattle.days.specs.Days.{GoesOn}
use Rattle.analysis.specs.Judgement.{verdict_of}
use Rattle.book.specs.Books.{parts_of, state_of}
use Rattle.daybook.proofs.follow.Given as goal

abbrev pub invariant-loop-place : goal.invariant-loop-place
invariant-loop-place g l =
    let book = l.initial.book in
    (l.book.table ≡ book.table)
    × GoesOn (verdict_of book.table) (g.P.Parts.meaning (parts_of book)) (state_of book) (state_of l.book)

abbrev pub decreases-loop-place : goal.decreases-loop-place
decreases-loop-place g l = length l.«record» - l.place
