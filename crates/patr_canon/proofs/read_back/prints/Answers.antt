use Rattle.std.proofs.Common.{◌≡◌, List, length, subst, sym, ap, ◌∙◌}
use Rattle.patr_canon.proofs.Names.{AreSpelled, Feature, OldIsHeld, Shown, ValueIsHeld, canonical, ids, nothing, shown_of, structure_of, table_look, target_seen, value_of, value_seen, with_block}
use Rattle.patr_arena.specs.declared.value.Value.{Value}
use Rattle.patr_canon.proofs.ReadBacks.{arena_value, match_text, value_is_held}
use Rattle.patr_canon.proofs.Spelled.{block_spelled, nodes_own}
use Rattle.patr_canon.proofs.read_back.prints.Goals as goal

-- the arena shows the block alone
shows : (v w : Shown) (copy block : List (List Feature)) → v ≡ nothing → w ≡ with_block v copy → copy ≡ block → w ≡ with_block nothing block
shows v w copy block start push same = push ∙ (ap (λ u. with_block u copy) start ∙ ap (with_block nothing) same)

pub push-requires : goal.push-requires
push-requires c = subst (λ (b : List (List Feature)). OldIsHeld (shown_of c.new-arena.result) b) (sym c.in_ok-copied.ensures) (nodes_own (length c.args.symbols.now) c.args.block.now c.requires.own (shown_of c.new-arena.result))

pub canonical-requires-clause-value : goal.canonical-requires-clause-value
canonical-requires-clause-value c =
    let is = shows (shown_of c.new-arena.result) (shown_of c.push.new.self) c.in_ok-copied.field-0 c.args.block.now c.new-arena.ensures c.in-Ok.ensures.1 c.in_ok-copied.ensures in
    subst (λ (x : Value). ValueIsHeld (shown_of c.push.new.self) x) (sym c.in_arena.ensures) (subst (λ (w : Shown). ValueIsHeld w (value_seen c.args.root)) (sym is) (value_is_held c.args.block.now c.args.root c.requires.held))

pub canonical-requires-clause-spelled : goal.canonical-requires-clause-spelled
canonical-requires-clause-spelled c =
    let is = shows (shown_of c.new-arena.result) (shown_of c.push.new.self) c.in_ok-copied.field-0 c.args.block.now c.new-arena.ensures c.in-Ok.ensures.1 c.in_ok-copied.ensures in
    let n = length c.args.symbols.now in
    subst (λ (x : Value). AreSpelled n (shown_of c.push.new.self).structure (value_of (shown_of c.push.new.self) x)) (sym c.in_arena.ensures)
    (subst (λ (w : Shown). AreSpelled n w.structure (value_of w (value_seen c.args.root))) (sym is)
    (subst (AreSpelled n (structure_of c.args.block.now)) (sym (arena_value c.args.block.now c.args.root)) (block_spelled n c.args.block.now c.requires.own (target_seen c.args.root) c.requires.symbol)))

pub returns : goal.returns
returns c =
    let is = shows (shown_of c.new-arena.result) (shown_of c.push.new.self) c.in_ok-copied.field-0 c.args.block.now c.new-arena.ensures c.in-Ok.ensures.1 c.in_ok-copied.ensures in
    let look = table_look c.args.symbols.now (ids c.args.order.now) in
    match_text c.eq.result c.as_str.result.now c.args.text.now (canonical look (structure_of c.args.block.now) (target_seen c.args.root)) c.eq.ensures
    (ap (canonical look (structure_of c.args.block.now)) (sym (arena_value c.args.block.now c.args.root))
    ∙ (ap (λ (w : Shown). canonical look w.structure (value_of w (value_seen c.args.root))) (sym is)
    ∙ (ap (λ (x : Value). canonical look (shown_of c.push.new.self).structure (value_of (shown_of c.push.new.self) x)) (sym c.in_arena.ensures)
    ∙ (sym c.in_ok-written.ensures ∙ sym c.as_str.ensures.value))))
