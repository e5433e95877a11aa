use Rattle.std.proofs.Common.{Some, sym, ap, ◌∙◌, subst}
use Rattle.patr_parse.proofs.Names.{sentence_of, rules_of, next_of}
use Rattle.patr_chart.specs.Charted.{tree}
use Rattle.patr_parse.proofs.NextCategories.{HasFound, passive_none, found_category}
use Rattle.patr_parse.proofs.prediction.next_category.Goals as goal

pub returns-then-is_passive : goal.returns-then-is_passive
returns-then-is_passive c =
    passive_none c.args.library.now (sentence_of c.args.arena.now) c.requires.ready.0 c.args.chart.now.words c.args.chart.now.edges c.edge-edge.ensures.edges c.requires.ready.1 c.args.k c.edge-edge.result.now c.edge-edge.ensures.there
    (sym c.is_passive.ensures ∙ c.if-is_passive.true)

pub resolve_path-requires : goal.resolve_path-requires
resolve_path-requires c = (c.requires.ready.1.sound c.args.k c.edge-edge.result.now c.edge-edge.ensures.there).held

pub unreachable-requires : goal.unreachable-requires
unreachable-requires c =
    let v = sentence_of c.args.arena.now in
    subst (λ o. HasFound o (next_of (rules_of c.args.library.now) (tree c.args.chart.now.edges c.args.k))) (c.in_default.is)
    (found_category c.args.library.now v c.requires.ready.0 c.args.chart.now.words c.args.chart.now.edges c.edge-edge.ensures.edges c.requires.ready.1 c.args.k c.edge-edge.result.now c.edge-edge.ensures.there
    (sym c.is_passive.ensures ∙ c.if-is_passive.false) c.with_daughter.result c.with_daughter.ensures c.last_slot-slot.result.0 c.last_slot-slot.ensures c.resolve_path.result c.resolve_path.ensures.same)

pub unreachable-requires-in_default-found : goal.unreachable-requires-in_default-found
unreachable-requires-in_default-found c =
    let v = sentence_of c.args.arena.now in
    subst (λ o. HasFound o (next_of (rules_of c.args.library.now) (tree c.args.chart.now.edges c.args.k))) (c.in-Some.is ∙ ap (λ x. Some x) c.in_default-found.is)
    (found_category c.args.library.now v c.requires.ready.0 c.args.chart.now.words c.args.chart.now.edges c.edge-edge.ensures.edges c.requires.ready.1 c.args.k c.edge-edge.result.now c.edge-edge.ensures.there
    (sym c.is_passive.ensures ∙ c.if-is_passive.false) c.with_daughter.result c.with_daughter.ensures c.last_slot-slot.result.0 c.last_slot-slot.ensures c.resolve_path.result c.resolve_path.ensures.same)

pub returns : goal.returns
returns c =
    let v = sentence_of c.args.arena.now in
    subst (λ o. HasFound o (next_of (rules_of c.args.library.now) (tree c.args.chart.now.edges c.args.k))) (c.in-Some.is ∙ ap (λ x. Some x) c.in-Atom.is)
    (found_category c.args.library.now v c.requires.ready.0 c.args.chart.now.words c.args.chart.now.edges c.edge-edge.ensures.edges c.requires.ready.1 c.args.k c.edge-edge.result.now c.edge-edge.ensures.there
    (sym c.is_passive.ensures ∙ c.if-is_passive.false) c.with_daughter.result c.with_daughter.ensures c.last_slot-slot.result.0 c.last_slot-slot.ensures c.resolve_path.result c.resolve_path.ensures.same)
