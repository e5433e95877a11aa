use Rattle.std.proofs.Common.{◌∙◌, Some, map, sym, ap, subst}
use Rattle.std.specs.List.Sorted.{IsStrictlyIncreasing}
use Rattle.patr_model.specs.Structure.{Arc, along, arc}
use Rattle.patr_arena.specs.declared.value.Value.{Value}
use Rattle.patr_arena.specs.Shown.{number_of, value_of}
use Rattle.patr_arena.proofs.Arcs.{along_features, attributes_from, feature_held, led_to}
use Rattle.patr_arena.proofs.path.follow.Goals as goal

pub find_arc-requires : goal.find_arc-requires
find_arc-requires g c =
    let v = g.N.Nodes.shown c.args.nodes.now in
    let at = c.in-Node.at in
    subst IsStrictlyIncreasing (ap (map (λ (e : Arc). e.attribute)) (sym c.arcs.ensures.same) ∙ attributes_from v at.block c.arcs.result.now) ((g.met.N.Nodes.lawful c.args.nodes.now).rising (number_of v at.block at.offset))

pub resolve-requires : goal.resolve-requires
resolve-requires g c =
    feature_held (g.N.Nodes.shown c.args.nodes.now) c.in-Node.at.block c.arcs.result.now c.args.attribute.0 c.in-Some.to c.arcs.ensures.held (sym c.in-Some.ensures)

pub returns-in-Some-clause-same : goal.returns-in-Some-clause-same
returns-in-Some-clause-same g c =
    let v = g.N.Nodes.shown c.args.nodes.now in
    let at = c.in-Node.at in
    ap Some c.resolve.ensures.same
    ∙ (ap (led_to v at.block) c.in-Some.ensures
    ∙ (sym (along_features v at.block c.arcs.result.now c.args.attribute.0)
    ∙ (ap (λ es. along es c.args.attribute.0) c.arcs.ensures.same
    ∙ ap (λ (x : Value). arc v.structure (value_of v x) c.args.attribute.0) (sym c.in-Node.is))))

pub returns-in-None-clause-same : goal.returns-in-None-clause-same
returns-in-None-clause-same g c =
    let v = g.N.Nodes.shown c.args.nodes.now in
    let at = c.in-Node.at in
    ap (led_to v at.block) c.in-None.ensures
    ∙ (sym (along_features v at.block c.arcs.result.now c.args.attribute.0)
    ∙ (ap (λ es. along es c.args.attribute.0) c.arcs.ensures.same
    ∙ ap (λ (x : Value). arc v.structure (value_of v x) c.args.attribute.0) (sym c.in-Node.is)))
