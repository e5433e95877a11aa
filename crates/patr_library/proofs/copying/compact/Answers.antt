use Rattle.std.proofs.Common.{◌≡◌, ◌∙◌, ◌<◌, ◌+◌, ℕ, List, Option, subst, true, false, ap, length, get_or, sym, rules, arith}
use Rattle.patr_library.proofs.Names.{slice_get-get_or, shown_of, value_of, HasCopy, IsImage, image_at, get_or_read, value_below}
use Rattle.patr_library.proofs.Imaging.{image_is}
use Rattle.patr_library.proofs.Marking.{arcs_copied, copied_more, first_copied, next_long}
use Rattle.patr_library.proofs.copying.compact.Goals as goal

pub copy_next-requires-clause-next : goal.copy_next-requires-clause-next
copy_next-requires-clause-next c =
    (c.requires.places.each c.loop-place.place _ (slice_get-get_or c.args.places.now c.loop-place.place _ (omega (arith, c.loop-place-test.true)))).1 ∙ sym c.loop-place.invariant.1

pub returns-clause-rooted : goal.returns-clause-rooted
returns-clause-rooted c =
    let image : IsImage (image_at c.loop-place.images.items) (value_of (shown_of c.args.arena.now) c.args.from) c.image_of-root.result = search rules in
    (image_is (shown_of c.args.arena.now).structure c.loop-place.images.items c.loop-place.block c.loop-place.invariant.0 (value_of (shown_of c.args.arena.now) c.args.from) c.image_of-root.result image).0

pub returns-clause-same : goal.returns-clause-same
returns-clause-same c =
    let image : IsImage (image_at c.loop-place.images.items) (value_of (shown_of c.args.arena.now) c.args.from) c.image_of-root.result = search rules in
    (image_is (shown_of c.args.arena.now).structure c.loop-place.images.items c.loop-place.block c.loop-place.invariant.0 (value_of (shown_of c.args.arena.now) c.args.from) c.image_of-root.result image).1

pub copy_next-requires-clause-copied : goal.copy_next-requires-clause-copied
copy_next-requires-clause-copied c =
    let v = shown_of c.args.arena.now in
    let i = c.loop-place.invariant in
    let marks = c.in_ok-reached.reached.items in
    let n = c.loop-place.place in
    let below : n < length marks = omega (arith, c.loop-place-test.true, c.in_ok-reached.ensures.long) in
    let at = c.requires.places.each n _ (slice_get-get_or c.args.places.now n _ c.loop-place-test.true) in
    let next = at.1 ∙ sym i.1 in
    λ h.
    let here : get_or marks n false ≡ true = sym (get_or_read marks n _ below c.index.ensures false) ∙ h in
    arcs_copied v.structure (value_of v c.args.from) marks c.loop-place.images.items c.in_ok-reached.ensures.exact i.2 c.args.arena.now.lawful.structure _ next (ap (λ k. get_or marks k false) at.1 ∙ here)

pub loop-place-preserved : goal.loop-place-preserved
loop-place-preserved c =
    let i = c.loop-place.invariant in
    let marks = c.in_ok-reached.reached.items in
    let n = c.loop-place.place in
    let old = c.loop-place.images.items in
    let new = c.copy_next.new.images.items in
    let more = c.in_ok-copy_next.ensures.more in
    let below : n < length marks = omega (arith, c.loop-place-test.true, c.in_ok-reached.ensures.long) in
    let here : c.index.result.now ≡ get_or marks (length old) false = get_or_read marks n _ below c.index.ensures false ∙ ap (λ k. get_or marks k false) (sym i.1) in (
      c.in_ok-copy_next.ensures.images,
      next_long c.index.result.now old new more ∙ ap (λ k. k + 1) i.1,
      copied_more marks c.index.result.now old new here i.2 more,
    )

pub image_of-root-requires-clause-copied : goal.image_of-root-requires-clause-copied
image_of-root-requires-clause-copied c =
    let v = shown_of c.args.arena.now in
    let i = c.loop-place.invariant in
    let all : length c.loop-place.images.items ≡ length v.structure = omega (arith, i.1, c.loop-place-test.false, c.loop-place.auto.place-end, c.requires.places.long) in
    let same : c.deref.result.now ≡ c.loop-place.images.items = search rules in
    subst (λ (images : List (Option ℕ)). HasCopy (image_at images) (value_of v c.args.from)) (sym same)
    (first_copied v.structure (value_of v c.args.from) c.in_ok-reached.reached.items c.loop-place.images.items c.in_ok-reached.ensures.exact i.2 (value_below v c.args.arena.now.lawful c.args.from c.requires.from) all)
