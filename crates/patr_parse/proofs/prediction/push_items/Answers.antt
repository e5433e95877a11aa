use Rattle.std.proofs.Common.{◌≡◌, ◌<◌, ◌+◌, true, false, length, map, refl, ◌∙◌, subst, arith, rules}
use Rattle.patr_parse.proofs.Names.{sentence_of, rules_of}
use Rattle.patr_parse.specs.Begun.{derivation_of}
use Rattle.patr_parse.proofs.Pushed.{all_pushed, behind_none, behind_next, no_next, after_alone, named_below}
use Rattle.patr_parse.proofs.prediction.push_items.Goals as goal

pub loop-number-init : goal.loop-number-init
loop-number-init c = record { pushed = behind_none (rules_of c.args.library.now) c.args.library.now (sentence_of c.args.arena.now) c.args.chart.now.edges; few = c.requires.few; words = refl }

pub item_edge-requires-clause-number : goal.item_edge-requires-clause-number
item_edge-requires-clause-number c =
    named_below c.args.kind c.args.library.now c.args.name.0 c.items_named-number-items.result.now c.items_named-number-items.ensures c.loop-number.number-index (omega arith)

pub push_within-requires : goal.push_within-requires
push_within-requires c =
    let p = c.item_edge.ensures.place in
    after_alone (rules_of c.args.library.now) c.args.library.now (sentence_of c.args.arena.now) _ c.item_edge.result c.loop-number.chart.words c.loop-number.chart.edges c.item_edge.ensures.edge
    (omega (arith, p.0, p.1)) (omega (arith, p.1, c.requires.at, c.loop-number.invariant.words))

pub returns-then-not-branch-clause-pushed : goal.returns-then-not-branch-clause-pushed
returns-then-not-branch-clause-pushed c =
    let s = c.args.library.now in
    let no' : c.in_ok-push_within.field-0 ≡ false = search rules in
    subst (λ l. c.args.limit < length c.args.chart.now.edges + length (map (derivation_of c.args.kind s c.args.at) l)) c.items_named-number-items.ensures
    (no_next (rules_of s) s (sentence_of c.args.arena.now) (derivation_of c.args.kind s c.args.at) c.items_named-number-items.result.now c.loop-number.number-index (omega arith) c.args.limit c.args.chart.now.edges c.loop-number.chart.edges c.loop-number.invariant.pushed (c.in_ok-push_within.ensures.full no'))

pub loop-number-preserved : goal.loop-number-preserved
loop-number-preserved c =
    let s = c.args.library.now in
    let r = rules_of s in
    let v = sentence_of c.args.arena.now in
    let ns = c.items_named-number-items.result.now in
    let done : c.in_ok-push_within.field-0 ≡ true = search rules in
    let pushed = c.in_ok-push_within.ensures.pushed done in
    record {
      pushed = behind_next r s v (derivation_of c.args.kind s c.args.at) ns c.loop-number.number-index (omega arith) c.args.chart.now.edges c.loop-number.chart.edges c.push_within.new.chart.edges c.item_edge.result c.loop-number.invariant.pushed pushed.0 c.item_edge.ensures.edge;
      few = pushed.1;
      words = c.in_ok-push_within.ensures.words ∙ c.loop-number.invariant.words;
    }

pub returns-clause-pushed : goal.returns-clause-pushed
returns-clause-pushed c =
    let s = c.args.library.now in
    all_pushed (rules_of s) s (sentence_of c.args.arena.now) (derivation_of c.args.kind s c.args.at) c.items_named-number-items.result.now _ c.items_named-number-items.ensures c.loop-number.number-index (omega arith)
    c.args.limit c.args.chart.now.edges c.loop-number.chart.edges c.loop-number.invariant.pushed c.loop-number.invariant.few
