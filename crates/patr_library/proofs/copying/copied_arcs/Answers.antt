use Rattle.std.proofs.Common.{arith, subst, sym}
use Rattle.patr_library.proofs.Names.{shown_of, HasCopy, HaveCopies, IsImage, image_at}
use Rattle.patr_library.proofs.Imaging.{held_at, copies_more}
use Rattle.patr_library.proofs.Marking.{copy_of_arc}
use Rattle.patr_library.proofs.copying.copied_arcs.Goals as goal

pub resolve-requires : goal.resolve-requires
resolve-requires c = held_at (shown_of c.args.arena.now) c.args.at.block c.arcs-arc-items.result.now c.loop-arc.arc-index _ c.arcs-arc-items.ensures.held (omega (arith, c.loop-arc-test.true))

pub image_of-to-requires-clause-copied : goal.image_of-to-requires-clause-copied
image_of-to-requires-clause-copied c =
    let to = image_at c.args.images.now in
    let v = shown_of c.args.arena.now in
    subst (HasCopy to) (sym c.resolve.ensures.same)
    (copy_of_arc to v c.args.at.block c.arcs-arc-items.result.now c.loop-arc.arc-index _ (subst (HaveCopies to) (sym c.arcs-arc-items.ensures.same) c.requires.copied) (omega (arith, c.loop-arc-test.true)))

pub loop-arc-preserved : goal.loop-arc-preserved
loop-arc-preserved c =
    copies_more (image_at c.args.images.now) (shown_of c.args.arena.now) c.args.at.block c.arcs-arc-items.result.now c.loop-arc.arc-index _ c.loop-arc.arcs.items c.push.new.self.items c.image_of-to.result (omega (arith, c.loop-arc-test.true)) c.loop-arc.invariant
    (subst (λ x. IsImage (image_at c.args.images.now) x c.image_of-to.result) c.resolve.ensures.same c.image_of-to.ensures) c.in_ok-push.ensures.items
