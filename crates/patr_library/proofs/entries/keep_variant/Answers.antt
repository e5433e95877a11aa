use Rattle.std.proofs.Common.{◌≡◌, ◌∙◌, subst, sym, ap, rules, arith, length, Some}
use Rattle.patr_library.proofs.Names.{length-take-le, Node, arc, shown_of, IsOwn, own_nodes, own_value, IsLeastAt, IsSolved, variant_of}
use Rattle.patr_library.proofs.Keeping.{entry_dealt}
use Rattle.patr_library.proofs.Fronts.{own_front}
use Rattle.patr_library.proofs.Steps.{first_slot}
use Rattle.patr_library.proofs.entries.keep_variant.Goals as goal

pub slot_value-to-requires-clause-slot : goal.slot_value-to-requires-clause-slot
slot_value-to-requires-clause-slot c =
    let m = c.in-Some.least in
    let es = (variant_of c.args.entry.now c.args.features.now).equations in
    let least : IsLeastAt 1 es m.block m.root = subst (IsSolved 1 es) c.in-Some.is c.in_ok-least.ensures in
    first_slot (own_nodes m.block) (Node m.root) 1 es (omega arith) least.least

pub store-requires : goal.store-requires
store-requires c =
    let m = c.in-Some.least in
    let es = (variant_of c.args.entry.now c.args.features.now).equations in
    let least : IsLeastAt 1 es m.block m.root = subst (IsSolved 1 es) c.in-Some.is c.in_ok-least.ensures in
    rw (c.truncate.ensures) (own_front m.block m.root least.rooted.own)

pub returns : goal.returns
returns c =
    let m = c.in-Some.least in
    let made = c.in_ok-made.made in
    let x = variant_of c.args.entry.now c.args.features.now in
    let to = c.slot_value-to.result in
    let front = c.truncate.ensures in
    let least : IsLeastAt 1 x.equations m.block m.root = subst (IsSolved 1 x.equations) c.in-Some.is c.in_ok-least.ensures in
    let slot : arc (own_nodes m.block) (Node m.root) 0 ≡ Some (own_value to) = search rules in
    let below = least.rooted.root in
    let size : length c.truncate.new.self ≡ m.root = ap length front ∙ length-take-le m.root m.block (omega (arith, below)) in
    let own : IsOwn (length c.truncate.new.self) to = subst (λ n. IsOwn n to) (sym size) c.slot_value-to.ensures.own in
    entry_dealt (shown_of c.args.arena.now) (shown_of c.store.new.arena) c.args.number c.args.variant x m.block c.truncate.new.self m.root to made.root.block c.resolve-root.result made.nodes made.arcs c.args.items.now.items c.push.new.self.items c.args.arena.now.lawful
    least front c.in_ok-made.ensures.arena c.in_ok-made.ensures.root.0 slot own c.resolve-root.ensures.same c.resolve-root.ensures.held c.in_ok-made.ensures.counts.0 c.in_ok-made.ensures.counts.1 c.in_ok-push.ensures.items
