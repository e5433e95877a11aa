use Rattle.std.proofs.Common.{◌≡◌, ◌∙◌, ◌++◌, ◌∷◌, [], List, length, length-append, refl, sym, ap, subst, arith}
use Rattle.patr_model.specs.Pairs.{IsOnPairs}
use Rattle.patr_arena.specs.declared.value.Value.{Value}
use Rattle.patr_arena.specs.Mapping.{IsSettled, PairsAreHeld, images_at, pairs_at}
use Rattle.patr_arena.specs.Paths.{FoundIsHeld}
use Rattle.patr_arena.specs.Shown.{value_of}
use Rattle.patr_arena.proofs.Addresses.{value_below}
use Rattle.patr_arena.proofs.Maps.{start, last_first, ended, held_pop, lookup_empty, not_so, nothing_waits}
use Rattle.patr_arena.proofs.mapping.maps_into.Goals as goal

pub loop-left-init : goal.loop-left-init
loop-left-init g c =
    let v = g.N.Nodes.shown c.args.nodes.now in
    let s = g.met.N.Nodes.lawful c.args.nodes.now in
    let items : c.push.new.self.items ≡ (c.args.from, c.args.to) ∷ [] = c.in_ok-push.ensures.items ∙ ap (λ (ps : List (Value × Value)). ps ++ (c.args.from, c.args.to) ∷ []) c.new-waiting.ensures.items in
    let none = lookup_empty c.new-images.result c.new-images.ensures.empty in
    record {
      pairs = subst (λ (ps : List (Value × Value)). IsOnPairs v.structure (value_of v c.args.from) v.structure (value_of v c.args.to) (images_at v c.new-images.result) (pairs_at v ps)) (sym items)
          (start v s c.new-images.result c.args.from c.args.to none c.requires.to);
      images_held = λ q. subst (FoundIsHeld v) (sym (none q)) tt;
      pairs_held = subst (PairsAreHeld v) (sym items) (c.requires.from, c.requires.to, tt);
    }

pub settle-requires-clause-left : goal.settle-requires-clause-left
settle-requires-clause-left g c = (held_pop (g.N.Nodes.shown c.args.nodes.now) _ _ _ _ c.in-Some.ensures.items c.loop-left.invariant.pairs_held).1

pub settle-requires-clause-right : goal.settle-requires-clause-right
settle-requires-clause-right g c = (held_pop (g.N.Nodes.shown c.args.nodes.now) _ _ _ _ c.in-Some.ensures.items c.loop-left.invariant.pairs_held).2

pub settle-requires-clause-pairs : goal.settle-requires-clause-pairs
settle-requires-clause-pairs g c = (held_pop (g.N.Nodes.shown c.args.nodes.now) _ _ _ _ c.in-Some.ensures.items c.loop-left.invariant.pairs_held).0

pub returns-then-not-branch : goal.returns-then-not-branch
returns-then-not-branch g c =
    let v = g.N.Nodes.shown c.args.nodes.now in
    let s = g.met.N.Nodes.lawful c.args.nodes.now in
    let below = value_below v s c.args.to c.requires.to in
    let on = last_first v s (images_at v c.loop-left.images) (value_of v c.args.from) (value_of v c.args.to) below _ _ _ _ c.in-Some.ensures.items c.loop-left.invariant.pairs in
    let refused = subst (IsSettled v c.loop-left.images c.settle.new.images c.in-Some.left c.in-Some.right c.pop.new.self.items c.settle.new.waiting.items) c.if-not-branch.true c.in_ok-settle.ensures in
    ((λ t. absurd (not_so t)), (λ m. absurd (refused (value_of v c.args.from) (value_of v c.args.to) below on m)))

pub loop-left-preserved : goal.loop-left-preserved
loop-left-preserved g c =
    let v = g.N.Nodes.shown c.args.nodes.now in
    let s = g.met.N.Nodes.lawful c.args.nodes.now in
    let below = value_below v s c.args.to c.requires.to in
    let on = last_first v s (images_at v c.loop-left.images) (value_of v c.args.from) (value_of v c.args.to) below _ _ _ _ c.in-Some.ensures.items c.loop-left.invariant.pairs in
    let looked = subst (IsSettled v c.loop-left.images c.settle.new.images c.in-Some.left c.in-Some.right c.pop.new.self.items c.settle.new.waiting.items) c.if-not-branch.false c.in_ok-settle.ensures in
    record {
      pairs = looked.pairs (value_of v c.args.from) (value_of v c.args.to) below on;
      images_held = looked.images_held;
      pairs_held = looked.pairs_held;
    }

pub loop-left-smaller : goal.loop-left-smaller
loop-left-smaller g c =
    let v = g.N.Nodes.shown c.args.nodes.now in
    let looked = subst (IsSettled v c.loop-left.images c.settle.new.images c.in-Some.left c.in-Some.right c.pop.new.self.items c.settle.new.waiting.items) c.if-not-branch.false c.in_ok-settle.ensures in
    let fewer = looked.fewer in
    let size = ap length c.in-Some.ensures.items in
    let all = length-append c.pop.new.self.items ((c.in-Some.left, c.in-Some.right) ∷ []) in
    omega (arith, fewer, size, all)

pub returns : goal.returns
returns g c =
    let v = g.N.Nodes.shown c.args.nodes.now in
    let s = g.met.N.Nodes.lawful c.args.nodes.now in
    let below = value_below v s c.args.to c.requires.to in
    let none : c.loop-left.waiting.items ≡ [] = nothing_waits c.loop-left.waiting.items (sym c.in_default.ensures.cases.0 ∙ c.loop-left.waiting.ok.0) in
    let on = subst (λ (ps : List (Value × Value)). IsOnPairs v.structure (value_of v c.args.from) v.structure (value_of v c.args.to) (images_at v c.loop-left.images) (pairs_at v ps)) none c.loop-left.invariant.pairs in
    ((λ t. ended v s (images_at v c.loop-left.images) (value_of v c.args.from) (value_of v c.args.to) below on), (λ m. refl))
