use Rattle.std.proofs.Common.{◌≡◌, ◌∙◌, ◌+◌, ◌<◌, ◌^◌, ◌++◌, ◌∷◌, [], List, ℕ, length, length-append, sym, ap, subst, arith}
use Rattle.patr_arena.specs.declared.value.Feature.{Feature}
use Rattle.patr_arena.specs.Blocks.{AllBelow}
use Rattle.patr_arena.proofs.Cutting.{cut_length, cut_more, cut_push}
use Rattle.patr_arena.proofs.block.Block.add.Goals as goal

pub invariant_of-self-2 : goal.invariant_of-self-2
invariant_of-self-2 c =
    let fs = c.self.inside.features.items in
    let ends = c.self.inside.ends.items in
    let few : length ends + 1 < 2 ^ 32 = (let kept = c.self.inside.ends.ok.0 in let size = c.len-offset.ensures in let below = c.if-offset.false in omega arith) in
    let more = cut_more fs c.args.arcs.now ends c.self.invariant few c.requires.rising (subst (λ nodes. AllBelow (length nodes) c.args.arcs.now) (sym c.self.view_is) c.requires.below) in
    let features : c.extend_from_slice.new.self.items ≡ fs ++ c.args.arcs.now = c.in_ok-extend_from_slice.ensures.items in
    let long : c.len.result + length c.args.arcs.now ≡ length (fs ++ c.args.arcs.now) = ap (λ (n : ℕ). n + length c.args.arcs.now) (c.len.ensures ∙ c.self.inside.features.ok.0) ∙ sym (length-append fs c.args.arcs.now) in
    let pushed : c.push_reserved.new.self.items ≡ ends ++ length (fs ++ c.args.arcs.now) ∷ [] =
    c.push_reserved.ensures.items ∙ (ap (λ (es : List ℕ). es ++ (c.len.result + length c.args.arcs.now) ∷ []) c.in_ok-reserve.ensures.items ∙ ap (λ (n : ℕ). ends ++ n ∷ []) long) in
    rw (features, pushed) more

pub returns-clause-ok : goal.returns-clause-ok
returns-clause-ok c =
    let fs = c.self.inside.features.items in
    let ends = c.self.inside.ends.items in
    let features : c.extend_from_slice.new.self.items ≡ fs ++ c.args.arcs.now = c.in_ok-extend_from_slice.ensures.items in
    let long : c.len.result + length c.args.arcs.now ≡ length (fs ++ c.args.arcs.now) = ap (λ (n : ℕ). n + length c.args.arcs.now) (c.len.ensures ∙ c.self.inside.features.ok.0) ∙ sym (length-append fs c.args.arcs.now) in
    let pushed : c.push_reserved.new.self.items ≡ ends ++ length (fs ++ c.args.arcs.now) ∷ [] =
    c.push_reserved.ensures.items ∙ (ap (λ (es : List ℕ). es ++ (c.len.result + length c.args.arcs.now) ∷ []) c.in_ok-reserve.ensures.items ∙ ap (λ (n : ℕ). ends ++ n ∷ []) long) in (
      c.len-offset.ensures ∙ (c.self.inside.ends.ok.0 ∙ (sym (cut_length fs 0 ends) ∙ ap length c.self.view_is)),
      rw (features, pushed) (cut_push fs c.args.arcs.now 0 ends c.self.invariant.cuts.order c.self.invariant.cuts.last ∙ ap (λ (nodes : List (List Feature)). nodes ++ c.args.arcs.now ∷ []) c.self.view_is),
    )
