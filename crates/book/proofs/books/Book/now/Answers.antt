use Rattle.std.proofs.Common.{◌∙◌}
use Rattle.days.proofs.Elapsed.{led_now}
use Rattle.book.proofs.books.Book.now.Goals as goal

pub returns : goal.returns
returns g c = record { value = c.now.ensures; day = λ day led. c.now.ensures ∙ led_now _ _ led }
