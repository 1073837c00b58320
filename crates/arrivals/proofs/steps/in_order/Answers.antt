use Rattle.std.proofs.Common.{◌==◌, length, drop, arith, rules}
use Rattle.std.proofs.lemmas.List.{take_rest}
use Rattle.std.proofs.lemmas.List.Sorted.{non_decreasing_from_is_sorted}
use Rattle.std.proofs.lemmas.Iterator.{YieldsList-from_slice}
use Rattle.std.proofs.lemmas.Iterator.Search.{all_from_yields_List}
use Rattle.std.proofs.lemmas.Bool.Decides.{nat_tests}
use borrow.Author.Tests.{tests}
use Rattle.arrivals.proofs.InOrder.{sorted_is, in_order_by_last}
use Rattle.arrivals.proofs.steps.in_order.Goals as goal
use Rattle.arrivals.proofs.steps.in_order.Goals.{then-starts_with, else-starts_with, then-is_sorted, else-is_sorted}

pub returns-then-ticks-repeat : goal.returns-then-ticks-repeat
returns-then-ticks-repeat c =
    let ticks = c.used-ticks.result.now in
    let apart = in_order_by_last c.args.repeat c.args.entries.now c.requires in
    let rest = take_rest c.args.entries.now (length ticks) in
    let behind = all_from_yields_List (λ x. x == 0) _ _ c.all.result c.all.ensures.ran (YieldsList-from_slice (drop (length ticks) c.args.entries.now) cc) (λ x b q k. search (rules, tests)) in
    elim c.if-is_sorted.branch [
      | then-is_sorted w ↦
          elim c.if-starts_with.branch [
            | then-starts_with v ↦
                let rises = sorted_is ticks v.is_sorted.result (non_decreasing_from_is_sorted ticks _ v.is_sorted.ensures.cases) in
                grind (arith, nat_tests)
            | else-starts_with v ↦ grind (arith, nat_tests)
          ]
      | else-is_sorted w ↦ grind (arith, nat_tests)
    ]

pub returns-else-ticks-repeat : goal.returns-else-ticks-repeat
returns-else-ticks-repeat c =
    let ticks = c.used-ticks.result.now in
    let apart = in_order_by_last c.args.repeat c.args.entries.now c.requires in
    elim c.if-is_sorted.branch [
      | then-is_sorted w ↦
          elim c.if-starts_with.branch [
            | then-starts_with v ↦
                let rises = sorted_is ticks v.is_sorted.result (non_decreasing_from_is_sorted ticks _ v.is_sorted.ensures.cases) in
                grind (arith, nat_tests)
            | else-starts_with v ↦ grind (arith, nat_tests)
          ]
      | else-is_sorted w ↦
          elim c.if-starts_with.branch [
            | then-starts_with v ↦
                let rises = sorted_is ticks v.is_sorted.result (non_decreasing_from_is_sorted ticks _ v.is_sorted.ensures.cases) in
                grind (arith, nat_tests)
            | else-starts_with v ↦ grind (arith, nat_tests)
          ]
    ]
