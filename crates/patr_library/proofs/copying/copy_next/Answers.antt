use Rattle.std.proofs.Common.{◌≡◌, ◌∙◌, sym, ap, subst, rules, length, arith, ◌<◌, ◌++◌, ◌∷◌, [], Some}
use Rattle.patr_library.proofs.Names.{IsStrictlyIncreasing, Node, arcs_of, shown_of, number_of, held_below, AreCopies, AreImages, image_at, IsOwnBlock}
use Rattle.patr_library.proofs.Imaging.{arcs_own, copies_attributes, images_none, images_some}
use Rattle.patr_library.proofs.copying.copy_next.Goals as goal

pub returns-then-not-reached-clause-images : goal.returns-then-not-reached-clause-images
returns-then-not-reached-clause-images c =
    subst (λ images. AreImages (shown_of c.args.arena.now).structure images c.args.block.now) (sym c.in_ok-push.ensures.items) (images_none (shown_of c.args.arena.now).structure c.args.images.now.items c.args.block.now c.requires.images)

pub top-requires-clause-rising : goal.top-requires-clause-rising
top-requires-clause-rising c =
    let v = shown_of c.args.arena.now in
    let n = number_of v c.args.at.block c.args.at.offset in
    let same : c.deref-2.result.now ≡ c.in_ok-arcs.arcs.items = search rules in
    let copies : AreCopies (image_at c.args.images.now.items) (arcs_of v.structure (Node n)) c.deref-2.result.now = search rules in
    subst IsStrictlyIncreasing (copies_attributes (image_at c.args.images.now.items) (arcs_of v.structure (Node n)) c.deref-2.result.now copies) (c.args.arena.now.lawful.rising n)

pub top-requires-clause-own : goal.top-requires-clause-own
top-requires-clause-own c =
    let v = shown_of c.args.arena.now in
    let n = number_of v c.args.at.block c.args.at.offset in
    let copies : AreCopies (image_at c.args.images.now.items) (arcs_of v.structure (Node n)) c.deref-2.result.now = search rules in
    arcs_own v.structure c.args.images.now.items c.args.block.now c.requires.images (arcs_of v.structure (Node n)) c.deref-2.result.now copies

pub returns-clause-images : goal.returns-clause-images
returns-clause-images c =
    let v = shown_of c.args.arena.now in
    let n = number_of v c.args.at.block c.args.at.offset in
    let copies : AreCopies (image_at c.args.images.now.items) (arcs_of v.structure (Node n)) c.deref-2.result.now = search rules in
    let at : AreCopies (image_at c.args.images.now.items) (arcs_of v.structure (Node (length c.args.images.now.items))) c.deref-2.result.now = subst (λ m. AreCopies (image_at c.args.images.now.items) (arcs_of v.structure (Node m)) c.deref-2.result.now) c.requires.next copies in
    let below : n < length v.structure = held_below v c.args.arena.now.lawful c.args.at.block c.args.at.offset c.requires.at in
    let block : c.top.new.block ≡ c.args.block.now ++ c.deref-2.result.now ∷ [] = c.in_ok-offset.ensures.new.1 in
    let all = images_some v.structure c.args.images.now.items c.args.block.now c.deref-2.result.now c.requires.images at (omega (arith, below, c.requires.next)) (subst IsOwnBlock block c.in_ok-offset.ensures.block) in
    subst (λ images. AreImages v.structure images c.top.new.block) (ap (λ k. c.args.images.now.items ++ Some k ∷ []) (sym c.in_ok-offset.ensures.new.0) ∙ sym c.in_ok-push-2.ensures.items)
    (subst (λ b. AreImages v.structure (c.args.images.now.items ++ Some (length c.args.block.now) ∷ []) b) (sym block) all)
