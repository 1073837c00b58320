-- What a book is about, the parts of its table and the state that it has come to; and what is said of it by the rules.
-- Cited by every call on a book.
use Rattle.std.specs.Prelude.{List, Option}
use Rattle.model.specs.Analysis.{Parts}
use Rattle.model.specs.declared.fault.Fault.{Fault}
use Rattle.days.specs.Days.{Event, Led, Followed, GoesOn}
use Rattle.days.specs.Rules.{State, answer}
use Rattle.days.specs.declared.command.Command.{Command}
use Rattle.analysis.specs.Judgement.{verdict_of}
use Rattle.timeline.specs.Timelines.{held_by}
use Rattle.book.specs.declared.books.Book.{Book}

module _ {P : Type 0} where
  abbrev pub parts_of : Book P → P
  parts_of book = book.table.draft.parts

  abbrev pub state_of : Book P → State
  state_of book = held_by book.timeline

-- what is said of a book whose parts have this meaning
module _ {P : Type 0} (meaning : P → Parts) where
  -- what the book answers
  abbrev pub answer_of : Book P → Option Command → Option Fault
  answer_of book asked = answer (verdict_of book.table) (meaning (parts_of book)) (state_of book) asked

  -- the day led to the book
  abbrev pub LedTo : List Event → Book P → Type 0
  LedTo day book = Led (verdict_of book.table) (meaning (parts_of book)) day (state_of book)

  -- a call on the book `before` answered `why` and left it as `later`
  abbrev pub CalledOn : Book P → Option Command → Option Fault → Book P → Type 0
  CalledOn before asked why later = Followed (verdict_of before.table) (meaning (parts_of before)) (state_of before) asked why (state_of later)

  -- more calls lead from the book `before` to the book `later`
  abbrev pub ComesOf : Book P → Book P → Type 0
  ComesOf before later = GoesOn (verdict_of before.table) (meaning (parts_of before)) (state_of before) (state_of later)
