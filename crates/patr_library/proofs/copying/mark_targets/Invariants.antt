use Rattle.std.proofs.Common.{◌≡◌, drop, length}
use Rattle.patr_library.proofs.Names.{shown_of, arcs_from, with_marks}
use Rattle.patr_library.proofs.copying.mark_targets.Given as goal

-- what is marked, and then what the arcs that are left lead to, is what all arcs lead to
abbrev pub invariant-loop-arc : goal.invariant-loop-arc
invariant-loop-arc l =
    let v = shown_of l.arena in
    record {
      marks : with_marks l.reached.items (arcs_from v l.at.block (drop l.arc-index l.arc-items)) ≡ with_marks l.initial.reached.items (arcs_from v l.at.block l.arc-items);
      long : length l.reached.items ≡ length v.structure;
    }
