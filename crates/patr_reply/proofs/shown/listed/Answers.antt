use Rattle.std.proofs.Common.{◌≡◌, ◌++◌, ◌+◌, List, ℕ, [], Some, length, codes, decimal, get_or, take, sym, ap, ◌∙◌, arith, append-nil, append_assoc}
use Rattle.patr_reply.proofs.Names.{IsItemReady, all_get, canonical, item_line, item_value, line, numbered, slice_get_within, table_look, take_all}
use Rattle.patr_arena.specs.Arenas.{shown_of}
use Rattle.patr_reply.proofs.Listing.{numbered_more}
use Rattle.patr_reply.proofs.Showing.{item_held, item_spelled}
use Rattle.patr_reply.proofs.shown.listed.Goals as goal

pub loop-number-init : goal.loop-number-init
loop-number-init c = c.in_ok-text.ensures.ok ∙ sym (append-nil (line (codes "entries " ++ decimal (length c.args.places.now))))

pub item_at-requires : goal.item_at-requires
item_at-requires c =
    let ready = all_get (IsItemReady (length c.args.symbols.now) (shown_of c.args.arena.now) c.args.items.now) c.args.places.now c.loop-number.number 0 c.requires c.loop-number-test.true in
    slice_get_within c.args.items.now _ ready.item ready.there

pub write_item-requires-clause-value : goal.write_item-requires-clause-value
write_item-requires-clause-value c =
    let v = shown_of c.args.arena.now in
    let ready = all_get (IsItemReady (length c.args.symbols.now) v c.args.items.now) c.args.places.now c.loop-number.number 0 c.requires c.loop-number-test.true in
    item_held (length c.args.symbols.now) v c.args.items.now (get_or c.args.places.now c.loop-number.number 0) ready c.item_at.result.now c.item_at.ensures

pub write_item-requires-clause-spelled : goal.write_item-requires-clause-spelled
write_item-requires-clause-spelled c =
    let v = shown_of c.args.arena.now in
    let ready = all_get (IsItemReady (length c.args.symbols.now) v c.args.items.now) c.args.places.now c.loop-number.number 0 c.requires c.loop-number-test.true in
    item_spelled (length c.args.symbols.now) v c.args.items.now (get_or c.args.places.now c.loop-number.number 0) ready c.item_at.result.now c.item_at.ensures

pub loop-number-preserved : goal.loop-number-preserved
loop-number-preserved c =
    let look = table_look c.args.symbols.now [] in
    let v = shown_of c.args.arena.now in
    let ks = c.args.places.now in
    let i = c.loop-number.number in
    let head = line (codes "entries " ++ decimal (length ks)) in
    let f = item_line look v c.args.items.now in
    let text : List ℕ = line (decimal (i + 1) ++ codes " " ++ canonical look v.structure (item_value v (Some c.item_at.result.now))) in
    let one : f (i + 1) (get_or ks i 0) ≡ text = ap (λ o. line (decimal (i + 1) ++ codes " " ++ canonical look v.structure (item_value v o))) c.item_at.ensures in
    c.in_ok-write_item.ensures
    ∙ (ap (λ t. t ++ text) c.loop-number.invariant
    ∙ (append_assoc head (numbered f 1 (take i ks)) text ∙ ap (λ t. head ++ t) (ap (λ t. numbered f 1 (take i ks) ++ t) (sym one) ∙ sym (numbered_more f ks 0 i c.loop-number-test.true))))

pub returns : goal.returns
returns c =
    c.loop-number.invariant
    ∙ ap (λ ks. line (codes "entries " ++ decimal (length c.args.places.now)) ++ numbered (item_line (table_look c.args.symbols.now []) (shown_of c.args.arena.now) c.args.items.now) 1 ks)
    (take_all c.loop-number.number c.args.places.now (omega (arith, c.loop-number-test.false)))
