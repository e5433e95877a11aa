use Rattle.std.proofs.Common.{rules, ◌<◌, ◌≤◌, ◌∙◌, [], length, get_or, sym, ap, subst, arith}
use Rattle.std.proofs.lemmas.List.{take_all}
use Rattle.patr_scratch.specs.declared.Place.{Place}
use Rattle.patr_unify.specs.Copying.{HasCopied}
use Rattle.patr_unify.specs.Walking.{stack_of}
use Rattle.patr_unify.proofs.CopyLoop.{copied_next, copied_none, next_held}
use Rattle.patr_unify.proofs.Reaching.{copy_fits}
use Rattle.patr_unify.proofs.Worked.{worked_ends, worked_held}
use Rattle.patr_unify.proofs.build.copy_ends.Goals as goal

pub loop-index-init : goal.loop-index-init
loop-index-init g c =
    let v = g.N.Nodes.shown c.args.nodes.now in
    let w = c.args.scratch.now in
    record {
      copied = λ l p r hl set. subst (λ b. HasCopied v w w l r b 0 0 []) (sym c.new.ensures) (copied_none v w l r p set (copy_fits v (g.met.N.Nodes.lawful c.args.nodes.now) w l p r hl set));
      room = search rules;
    }

pub order_at-end-requires : goal.order_at-end-requires
order_at-end-requires g c =
    let q = c.requires.settled in
    let has = c.loop-index.invariant.copied q.0 q.1 q.2 q.3 q.4 in
    omega (arith, c.loop-index-test.true, c.order_len-index-end.ensures, ap (length {A = Place}) has.order)

pub finish-requires : goal.finish-requires
finish-requires g c =
    let v = g.N.Nodes.shown c.args.nodes.now in
    let w = c.args.scratch.now in
    let t = c.loop-index.scratch in
    let i = c.loop-index.index in
    let top = c.order_at-end.result in
    let q = c.requires.settled in
    let has = c.loop-index.invariant.copied q.0 q.1 q.2 q.3 q.4 in
    let low : i < length w.order = omega (arith, c.loop-index-test.true, c.order_len-index-end.ensures) in
    record {
      top = next_held v (g.met.N.Nodes.lawful c.args.nodes.now) w q.0 q.1 q.2 q.3 q.4 i top low (c.order_at-end.ensures ∙ ap (λ ps. get_or ps i top) has.order);
      held = worked_held v w t has.still q.4.held;
      ending = worked_ends v w t has.still q.4.ending;
      copies = has.fits;
    }

pub loop-index-preserved : goal.loop-index-preserved
loop-index-preserved g c =
    let v = g.N.Nodes.shown c.args.nodes.now in
    let w = c.args.scratch.now in
    let i = c.loop-index.index in
    let top = c.order_at-end.result in
    let low : i < length w.order = omega (arith, c.loop-index-test.true, c.order_len-index-end.ensures) in
    record {
      copied = λ l p r hl set. (
          let has = c.loop-index.invariant.copied l p r hl set in
          copied_next v (g.met.N.Nodes.lawful c.args.nodes.now) w l p r hl set i top low (c.order_at-end.ensures ∙ ap (λ ps. get_or ps i top) has.order) c.loop-index.scratch c.finish.new.scratch c.loop-index.draft c.finish.new.draft has c.in_ok-finish.ensures.finished);
      room = search rules;
    }

pub returns-clause-copied : goal.returns-clause-copied
returns-clause-copied g c l p r hl set =
    let v = g.N.Nodes.shown c.args.nodes.now in
    let w = c.args.scratch.now in
    let d = c.loop-index.draft in
    let all : length w.order ≤ c.loop-index.index = omega (arith, c.loop-index-test.false, c.order_len-index-end.ensures) in
    subst (λ ps. HasCopied v w c.loop-index.scratch l r d.block d.nodes d.arcs (stack_of v ps)) (take_all c.loop-index.index w.order all) (c.loop-index.invariant.copied l p r hl set)
