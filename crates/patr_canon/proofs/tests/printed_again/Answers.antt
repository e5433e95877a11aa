use Rattle.std.proofs.Common.{◌≡◌, ℕ, ◌<◌, List, length, subst, sym, ap, ◌∙◌}
use Rattle.patr_canon.proofs.Names.{AreSpelled, Feature, IsOwn, IsRefBelow, OfValue, Ref, RefIsHeld, Shown, nothing, ref_of, shown_of, with_block}
use Rattle.patr_arena.specs.declared.value.Ref.TheVariants as ref
use Rattle.patr_canon.proofs.Spelled.{block_spelled, nodes_own}
use Rattle.patr_canon.proofs.tests.printed_again.Goals as goal

root_symbol : (n : ℕ) (v : Shown) (r : Ref) → IsRefBelow n r → OfValue (λ c. c < n) (ref_of v 0 r)
root_symbol n v (ref.Atom c) h = h
root_symbol n v (ref.Old at) h = tt
root_symbol n v (ref.New k) h = tt

-- the arena shows the block alone
shows : (v w : Shown) (block : List (List Feature)) → v ≡ nothing → w ≡ with_block v block → w ≡ with_block nothing block
shows v w block start push = push ∙ ap (λ u. with_block u block) start

pub push-requires : goal.push-requires
push-requires c =
    let own = subst (IsOwn (length c.read_back.new.symbols)) c.in-Some.is c.in_ok-block.ensures in
    nodes_own (length c.read_back.new.symbols) c.in-Some.block own.0 (shown_of c.new-arena.result)

pub resolve-value-requires : goal.resolve-value-requires
resolve-value-requires c =
    let own = subst (IsOwn (length c.read_back.new.symbols)) c.in-Some.is c.in_ok-block.ensures in
    let is = shows (shown_of c.new-arena.result) (shown_of c.push.new.self) c.in-Some.block c.new-arena.ensures c.in-Ok.ensures.1 in
    subst (λ (w : Shown). RefIsHeld w 0 c.in-Some.root) (sym is) own.1

pub canonical-requires-clause-spelled : goal.canonical-requires-clause-spelled
canonical-requires-clause-spelled c =
    let n = length c.read_back.new.symbols in
    let own = subst (IsOwn n) c.in-Some.is c.in_ok-block.ensures in
    let is = shows (shown_of c.new-arena.result) (shown_of c.push.new.self) c.in-Some.block c.new-arena.ensures c.in-Ok.ensures.1 in
    subst (AreSpelled n (shown_of c.push.new.self).structure) (sym c.resolve-value.ensures.same)
    (subst (λ (w : Shown). AreSpelled n w.structure (ref_of w 0 c.in-Some.root)) (sym is)
    (block_spelled n c.in-Some.block own.0 (ref_of (with_block nothing c.in-Some.block) 0 c.in-Some.root) (root_symbol n (with_block nothing c.in-Some.block) c.in-Some.root own.2)))
