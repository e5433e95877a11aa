use Rattle.std.proofs.Common.{◌≡◌, ◌++◌, length}
use Rattle.patr_reply.proofs.Names.{AgreesWith, AllByRecursion, IsHeld, Numbering, look_by, open_tree, rules_of, steps_text, steps_weight, string_bytes, tree}
use Rattle.patr_reply.proofs.tree.write_tree.Given as goal

abbrev pub invariant-loop-step : goal.invariant-loop-step
invariant-loop-step l =
    ((names : Numbering) → AgreesWith names l.symbols → string_bytes l.out ++ steps_text (look_by names) (rules_of l.library) l.chart.edges l.left.items
    ≡ string_bytes l.fn.out ++ open_tree (look_by names) (rules_of l.library) (tree l.chart.edges l.number))
    × AllByRecursion (IsHeld (length l.chart.edges)) l.left.items

abbrev pub decreases-loop-step : goal.decreases-loop-step
decreases-loop-step l = steps_weight l.chart.edges l.left.items
