use Rattle.std.proofs.Common.{◌≡◌, ◌∙◌, ◌++◌, length, length-append, refl, ◌+◌, ap, arith, rules}
use Rattle.std.proofs.lemmas.List.{length-map, take_all}
use Rattle.patr_arena.specs.Cuts.{cut}
use Rattle.patr_arena.proofs.Cutting.{cut_append, cut_read, ends_join, shifted}
use Rattle.patr_arena.proofs.block.Block.append_to.Goals as goal

pub overflow_add-before-in-loop-end : goal.overflow_add-before-in-loop-end
overflow_add-before-in-loop-end c =
    let count = ap length c.deref-end-items.ensures.value in
    let below = c.loop-end-test.true in
    let end = (cut_read c.self.inside.features.items c.self.inside.ends.items c.loop-end.end-index _ c.self.invariant.cuts (omega (arith, count, below)) refl).1 in
    rw (c.deref-end-items.ensures.value) (omega (arith, end, c.self.inside.features.ok.0, c.len.ensures, c.if-before-len.false))

pub returns-clause-ok : goal.returns-clause-ok
returns-clause-ok c =
    let fs = c.args.features.now.items in
    let ends = c.args.ends.now.items in
    let block = c.self.inside in
    let before : c.len-before.result ≡ length fs = c.len-before.ensures ∙ c.args.features.now.ok.0 in
    let features : c.extend_from_slice.new.self.items ≡ fs ++ block.features.items = search rules in
    let count = ap length c.deref-end-items.ensures.value in
    let all = take_all c.loop-end.end-index block.ends.items (omega (arith, count, c.loop-end-test.false)) in
    let bounds : c.loop-end.ends.items ≡ ends ++ shifted (length fs) block.ends.items =
    c.loop-end.invariant.ends ∙ rw (c.in_ok-reserve.ensures.items, before, c.deref-end-items.ensures.value, all) in
    let both = length-append ends (shifted (length fs) block.ends.items) in
    let size = length-map block.ends.items (λ end. length fs + end) in
    rw (features, bounds) (record {
      nodes = cut_append fs block.features.items 0 ends block.ends.items c.requires.order c.requires.last ∙ ap (λ nodes. cut fs 0 ends ++ nodes) c.self.view_is;
      cuts = ends_join fs block.features.items ends block.ends.items c.requires c.self.invariant.cuts;
      few = omega (arith, both, size, c.args.ends.now.ok.0, block.ends.ok.0, c.len-else-before-len.ensures, c.len-else-before-len-2.ensures, c.if-len.false);
    })
