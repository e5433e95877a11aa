use Rattle.std.proofs.Common.{◌∷◌, ◌++◌, [], length, subst, rules}
use Rattle.patr_reply.proofs.Names.{AllByRecursion, IsHeld, all_left, all_right, if_ok_is, look_by, rules_of, string_bytes, tree, tree_text}
use lib.Utf8.{encode}
use Rattle.patr_reply.proofs.TreeText.{tree_closed}
use Rattle.patr_reply.proofs.tree.write_tree.Goals as goal

pub write_step-requires-clause-step : goal.write_step-requires-clause-step
write_step-requires-clause-step c =
    let P = IsHeld (length c.args.chart.now.edges) in
    (all_right P c.pop.new.self.items (c.in-Some.step ∷ []) (subst (AllByRecursion P) c.in-Some.ensures.items c.loop-step.invariant.1)).0

pub write_step-requires-clause-held : goal.write_step-requires-clause-held
write_step-requires-clause-held c =
    let P = IsHeld (length c.args.chart.now.edges) in
    all_left P c.pop.new.self.items (c.in-Some.step ∷ []) (subst (AllByRecursion P) c.in-Some.ensures.items c.loop-step.invariant.1)

pub returns : goal.returns
unfolding encode
returns c = λ names agrees.
    let l = look_by names in
    let g = rules_of c.args.library.now in
    let es = c.args.chart.now.edges in
    let old = string_bytes c.args.out.now in
    let out = string_bytes c.loop-step.out in
    if_ok_is c.push-2.result (string_bytes c.push-2.new.self) (out ++ 41 ∷ []) out (old ++ tree_text l g (tree es c.args.number)) c.push-2.ensures.bytes
    (tree_closed l g es c.args.number c.loop-step.left.items old out (search rules) (c.loop-step.invariant.0 names agrees))
