use Rattle.std.proofs.Common.{◌≡◌, ◌∙◌, ◌++◌, ◌∷◌, [], sym, ap, subst, arith, length, zero-add}
use Rattle.patr_library.proofs.Names.{append_assoc, shown_of, with_block, ArePlaces, offsets_of}
use Rattle.patr_library.proofs.Placed.{offsets_more, places_pushed}
use Rattle.patr_library.proofs.copying.push.Goals as goal

pub loop-offset-preserved : goal.loop-offset-preserved
loop-offset-preserved c =
    let old = c.args.places.now.items in
    let k = c.loop-offset.offset in
    let b = c.in-Ok.number in
    c.in_ok-push.ensures.items
    ∙ (ap (λ l. l ++ record { block = b; offset = k } ∷ []) c.loop-offset.invariant
    ∙ (append_assoc old (offsets_of b 0 k) (record { block = b; offset = k } ∷ [])
    ∙ ap (λ l. old ++ l) (ap (λ o. offsets_of b 0 k ++ record { block = b; offset = o } ∷ []) (sym (zero-add k)) ∙ sym (offsets_more b 0 k))))

pub returns-clause-places : goal.returns-clause-places
returns-clause-places c =
    let v = shown_of c.args.arena.now in
    let all : c.loop-offset.offset ≡ length c.args.block = omega (arith, c.loop-offset-test.false, c.loop-offset.auto.offset-end, c.len-count.ensures.len) in
    let is : c.loop-offset.places.items ≡ c.args.places.now.items ++ offsets_of (length v.sizes) 0 (length c.args.block) =
    c.loop-offset.invariant ∙ (ap (λ b. c.args.places.now.items ++ offsets_of b 0 c.loop-offset.offset) c.in-Ok.ensures.0 ∙ ap (λ n. c.args.places.now.items ++ offsets_of (length v.sizes) 0 n) all) in
    subst (λ w. ArePlaces w c.loop-offset.places.items) (sym c.in-Ok.ensures.1)
    (subst (λ l. ArePlaces (with_block v c.args.block) l) (sym is) (places_pushed v c.args.arena.now.lawful c.args.block c.len-count.ensures.block c.requires.block c.args.places.now.items c.requires.places))
