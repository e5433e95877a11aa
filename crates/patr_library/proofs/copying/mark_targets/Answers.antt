use Rattle.std.proofs.Common.{◌∙◌, List, ap, sym, length, arith}
use Rattle.patr_library.proofs.Names.{drop_all, shown_of, arcs_from, with_marks, Feature}
use Rattle.patr_library.proofs.Imaging.{held_at}
use Rattle.patr_library.proofs.Marking.{target_marked, value_long}
use Rattle.patr_library.proofs.copying.mark_targets.Goals as goal

pub resolve-requires : goal.resolve-requires
resolve-requires c = held_at (shown_of c.args.arena.now) c.args.at.block c.arcs-arc-items.result.now c.loop-arc.arc-index _ c.arcs-arc-items.ensures.held (omega (arith, c.loop-arc-test.true))

pub loop-arc-preserved : goal.loop-arc-preserved
loop-arc-preserved c =
    let v = shown_of c.args.arena.now in
    let fs = c.arcs-arc-items.result.now in
    record {
      marks = target_marked v c.args.at.block fs c.loop-arc.arc-index _ c.loop-arc.reached.items c.mark.new.reached.items _ (with_marks c.args.reached.now.items (arcs_from v c.args.at.block fs)) (omega (arith, c.loop-arc-test.true)) c.resolve.ensures.same c.mark.ensures c.loop-arc.invariant.marks;
      long = ap length c.mark.ensures ∙ (value_long c.loop-arc.reached.items _ ∙ c.loop-arc.invariant.long);
    }

pub returns : goal.returns
returns c =
    let v = shown_of c.args.arena.now in
    let fs = c.arcs-arc-items.result.now in
    let l = c.loop-arc in
    let none = drop_all l.arc-index fs (omega (arith, c.loop-arc-test.false)) in
    sym (ap (λ (gs : List Feature). with_marks l.reached.items (arcs_from v c.args.at.block gs)) none) ∙ (l.invariant.marks ∙ ap (with_marks c.args.reached.now.items) c.arcs-arc-items.ensures.same)
