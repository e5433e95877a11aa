use Rattle.std.proofs.Common.{◌≡◌, ◌∙◌, [], ◌∷◌, Some, None, ap, subst}
use Rattle.patr_model.specs.Structure.{Node, at}
use Rattle.patr_arena.specs.declared.value.Addr.{Addr}
use Rattle.patr_arena.specs.Paths.{found_of}
use Rattle.patr_arena.specs.Shown.{number_of}
use Rattle.patr_unify.specs.Reading.{value_at}
use Rattle.patr_unify.proofs.Keys.{own_found, target_value}
use Rattle.patr_unify.proofs.lists.find_own.Goals as goal

pub returns-in-Some-clause-same : goal.returns-in-Some-clause-same
returns-in-Some-clause-same g c =
    let v = g.N.Nodes.shown c.args.nodes.now in
    let p = c.args.place in
    let found : found_of v (Some c.in-Some.value) ≡ at v.structure (Node (number_of v p.block p.offset)) (c.args.attribute ∷ []) =
    subst (λ (a : Addr). found_of v (Some c.in-Some.value) ≡ at v.structure (Node (number_of v a.block a.offset)) (c.args.attribute ∷ [])) c.address.ensures c.in-Some.ensures.same in
    ap Some (ap (value_at v) c.target_on.ensures ∙ target_value v p.side c.in-Some.value)
    ∙ own_found v (g.met.N.Nodes.lawful c.args.nodes.now) p (Some c.in-Some.value) c.args.attribute c.requires found

pub returns-in-None-clause-same : goal.returns-in-None-clause-same
returns-in-None-clause-same g c =
    let v = g.N.Nodes.shown c.args.nodes.now in
    let p = c.args.place in
    let found : None ≡ at v.structure (Node (number_of v p.block p.offset)) (c.args.attribute ∷ []) =
    subst (λ (a : Addr). None ≡ at v.structure (Node (number_of v a.block a.offset)) (c.args.attribute ∷ [])) c.address.ensures c.in-None.ensures.same in
    own_found v (g.met.N.Nodes.lawful c.args.nodes.now) p None c.args.attribute c.requires found
