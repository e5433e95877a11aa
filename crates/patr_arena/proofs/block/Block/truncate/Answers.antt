use Rattle.std.proofs.Common.{◌<◌, ◌∙◌, ℕ, List, length, take, sym, ap, arith}
use Rattle.std.proofs.lemmas.List.{take_all}
use Rattle.patr_arena.specs.declared.value.Feature.{Feature}
use Rattle.patr_arena.specs.Cuts.{begin}
use Rattle.patr_arena.proofs.Cutting.{cut_front, cut_length, is_cut_front}
use Rattle.patr_arena.proofs.block.Block.truncate.Goals as goal

pub returns-then-nodes-len : goal.returns-then-nodes-len
returns-then-nodes-len c =
    let size = cut_length c.self.inside.features.items 0 c.self.inside.ends.items in
    let view = ap length c.self.view_is in
    let kept = c.self.inside.ends.ok.0 in
    let len = c.len.ensures in
    let above = c.if-nodes-len.true in
    sym (take_all c.args.nodes c.args.self.now (omega arith))

pub invariant_of-self : goal.invariant_of-self
invariant_of-self c =
    let fs = c.self.inside.features.items in
    let ends = c.self.inside.ends.items in
    let inside : c.args.nodes < length ends = (let kept = c.self.inside.ends.ok.0 in let len = c.len.ensures in let below = c.if-nodes-len.false in omega arith) in
    rw (c.truncate.ensures.items, c.truncate-2.ensures.items)
    (is_cut_front fs ends c.args.nodes c.start_of-arcs.result c.self.invariant inside (c.start_of-arcs.ensures ∙ ap (λ (es : List ℕ). begin 0 es c.args.nodes) c.deref.ensures.value))

pub returns : goal.returns
returns c =
    let fs = c.self.inside.features.items in
    let ends = c.self.inside.ends.items in
    let inside : c.args.nodes < length ends = (let kept = c.self.inside.ends.ok.0 in let len = c.len.ensures in let below = c.if-nodes-len.false in omega arith) in
    rw (c.truncate.ensures.items, c.truncate-2.ensures.items)
    (cut_front fs 0 ends c.args.nodes c.start_of-arcs.result c.self.invariant.cuts.order inside (c.start_of-arcs.ensures ∙ ap (λ (es : List ℕ). begin 0 es c.args.nodes) c.deref.ensures.value)
    ∙ ap (λ (nodes : List (List Feature)). take c.args.nodes nodes) c.self.view_is)
