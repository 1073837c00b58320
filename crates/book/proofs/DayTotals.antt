-- The totals of a state are those of every day that leads to it, and on an accepted table within the bounds.
use Rattle.std.proofs.Common.{ltb, Option, sym, subst}
use Rattle.model.specs.Analysis.{bound}
use Rattle.model.specs.Tables.{Table, Lawful}
use Rattle.model.specs.declared.fault.Fault.{Fault}
use Rattle.model.proofs.SumLaws.{when_below}
use Rattle.days.specs.Days.{reading}
use Rattle.days.specs.Promise.{longest_time}
use Rattle.days.specs.Rules.{State}
use Rattle.days.specs.Views.{viewed}
use Rattle.days.proofs.Promise.{led_keeps}
use Rattle.days.proofs.Totals.{totals_keep}
use Rattle.days.proofs.Views.{led_reading}
use Rattle.analysis.proofs.Columns.{filled_at}
use Rattle.book.specs.Columns.{longest_in}
use Rattle.book.specs.Totalled.{Totalled, OfEveryDay, WithinBounds}
use Rattle.book.specs.declared.totals.Totals.{Totals}

module _ (t : Table) (lawful : Lawful t.parts) (verdict : Option Fault) (s : State) (totals : Totals) (so : Totalled (viewed s) totals) where
  -- what is read off a day is what the state shows
  pub of_every_day : OfEveryDay verdict t.parts s totals
  of_every_day day led = subst (λ r. Totalled r totals) (sym (led_reading verdict t.parts led)) so

  -- and so the bounds hold that a day keeps
  pub within_bounds : WithinBounds t verdict s totals
  within_bounds accepted day led k =
      let kept = totals_keep (bound t.parts) (reading day) (led_keeps t lawful verdict accepted led) k in
      rw (filled_at (longest_time (reading day)) 16 (longest_in totals) (of_every_day day led).longest_so k) (when_below (ltb k 16) (longest_time (reading day) k) (bound t.parts k) (λ _. kept))
