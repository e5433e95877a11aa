use Rattle.std.proofs.Common.{subst, sym}
use Rattle.patr_arena.specs.Shown.{number_of}
use Rattle.patr_arena.proofs.Showing.{held_below}
use Rattle.patr_unify.specs.Copying.{IsEndRef}
use Rattle.patr_unify.specs.Reading.{TargetIsHeld, value_at}
use Rattle.patr_unify.specs.Walking.{end_value, stack_of}
use Rattle.patr_unify.proofs.CopyLoop.{behind_once}
use Rattle.patr_unify.proofs.Making.{made}
use Rattle.patr_unify.proofs.Worked.{worked_ends, worked_end, worked_held}
use Rattle.patr_unify.proofs.build.copy.Goals as goal

pub copy_ends-requires : goal.copy_ends-requires
copy_ends-requires g c =
    let v = g.N.Nodes.shown c.args.nodes.now in
    let q = c.requires.settled in
    record { settled = (number_of v c.args.left.block c.args.left.offset, q.0, q.1, held_below v (g.met.N.Nodes.lawful c.args.nodes.now) c.args.left.block c.args.left.offset c.requires.left, q.2) }

pub end_ref-root-requires : goal.end_ref-root-requires
end_ref-root-requires g c =
    let v = g.N.Nodes.shown c.args.nodes.now in
    let w = c.args.scratch.now in
    let t = c.copy_ends.new.scratch in
    let q = c.requires.settled in
    let has = c.in_ok-draft.ensures.copied _ q.0 q.1 (held_below v (g.met.N.Nodes.lawful c.args.nodes.now) c.args.left.block c.args.left.offset c.requires.left) q.2 in
    record { target = subst (TargetIsHeld v) (sym c.left_target.ensures) c.requires.left; held = worked_held v w t has.still q.2.held; ending = worked_ends v w t has.still q.2.ending }

pub returns-clause-made : goal.returns-clause-made
returns-clause-made g c p r set =
    let v = g.N.Nodes.shown c.args.nodes.now in
    let s = g.met.N.Nodes.lawful c.args.nodes.now in
    let w = c.args.scratch.now in
    let t = c.copy_ends.new.scratch in
    let l = number_of v c.args.left.block c.args.left.offset in
    let hl = held_below v s c.args.left.block c.args.left.offset c.requires.left in
    let has = c.in_ok-draft.ensures.copied l p r hl set in
    let d = c.in_ok-draft.draft in
    let ks = stack_of v w.order in
    let root = subst (λ x. IsEndRef v t x c.end_ref-root.result) (worked_end v w t has.still _) (subst (λ x. IsEndRef v t (end_value v t (value_at v x)) c.end_ref-root.result) c.left_target.ensures c.end_ref-root.ensures.same) in
    made v s w t l p r hl set d.block d.nodes d.arcs ks has (behind_once v w ks set.ordered.behind) set.ordered.ends set.ordered.all c.end_ref-root.result root
