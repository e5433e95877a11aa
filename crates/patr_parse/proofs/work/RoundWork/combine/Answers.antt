use Rattle.std.proofs.Common.{rules, arith, ◌≡◌, ◌≢◌, None, false, true, [], ◌∷◌, refl, sym, ap, subst}
use Rattle.patr_parse.proofs.Names.{Structure, Value, IsUnifier, ValueIsHeld, number_of, value_of, Counts, rules_of, daughters}
use Rattle.patr_model.specs.Structure.{at}
use Rattle.patr_model.specs.Subsumption.{TakesBoth}
use Rattle.patr_parse.proofs.Joins.{facts, partners_near}
use Rattle.patr_parse.proofs.work.RoundWork.combine.Goals as goal

pub with_daughter-kind-requires : goal.with_daughter-kind-requires
with_daughter-kind-requires g c = (partners_near c.args.self.now.chart.now.edges c.args.pair.0 c.args.pair.1 c.edge.result.now c.edge-2.result.now c.requires.partners c.edge.ensures.there c.edge-2.ensures.there).active

pub unreachable-requires : goal.unreachable-requires
unreachable-requires g c =
    let f = facts (rules_of c.args.self.now.library.now) c.args.self.now.library.now (g.N.Nodes.shown c.args.self.now.nodes.now) c.args.self.now.limit c.args.self.now.chart.now.words c.args.self.now.chart.now.edges (g.met.N.Nodes.lawful c.args.self.now.nodes.now) c.edge.ensures.edges c.requires.ready c.args.pair.0 c.args.pair.1 c.edge.result.now c.edge-2.result.now c.edge.ensures.there c.edge-2.ensures.there (partners_near c.args.self.now.chart.now.edges c.args.pair.0 c.args.pair.1 c.edge.result.now c.edge-2.result.now c.requires.partners c.edge.ensures.there c.edge-2.ensures.there) c.with_daughter-kind.result c.with_daughter-kind.ensures (daughters c.with_daughter-kind.result) refl in
    f.node c.in_default.field-0.0 (ap (value_of (g.N.Nodes.shown c.args.self.now.nodes.now)) c.in_default.is)

pub has_unifier-requires : goal.has_unifier-requires
has_unifier-requires g c =
    let v = g.N.Nodes.shown c.args.self.now.nodes.now in
    let f = facts (rules_of c.args.self.now.library.now) c.args.self.now.library.now (g.N.Nodes.shown c.args.self.now.nodes.now) c.args.self.now.limit c.args.self.now.chart.now.words c.args.self.now.chart.now.edges (g.met.N.Nodes.lawful c.args.self.now.nodes.now) c.edge.ensures.edges c.requires.ready c.args.pair.0 c.args.pair.1 c.edge.result.now c.edge-2.result.now c.edge.ensures.there c.edge-2.ensures.there (partners_near c.args.self.now.chart.now.edges c.args.pair.0 c.args.pair.1 c.edge.result.now c.edge-2.result.now c.requires.partners c.edge.ensures.there c.edge-2.ensures.there) c.with_daughter-kind.result c.with_daughter-kind.ensures c.last_slot.result.0 c.last_slot.ensures in
    let one = c.in_ok-reach_of.ensures.0 in
    let two = c.in_ok-reach_of.ensures.1 in record {
      left = subst (ValueIsHeld v) c.in-Node.is f.left;
      right = f.right;
      slot = subst (λ r. at v.structure (value_of v r) (c.last_slot.result.0 ∷ []) ≢ None) c.in-Node.is f.there;
      within = λ n a m b x y. let h = f.within n a m b (subst (λ r. Counts v.structure (value_of v r) n a) (sym c.in-Node.is) x) y in (omega (arith, h.0, one), omega (arith, h.1, two));
    }

pub returns-then-not-branch-clause-combined : goal.returns-then-not-branch-clause-combined
returns-then-not-branch-clause-combined g c =
    let v = g.N.Nodes.shown c.args.self.now.nodes.now in
    let f = facts (rules_of c.args.self.now.library.now) c.args.self.now.library.now (g.N.Nodes.shown c.args.self.now.nodes.now) c.args.self.now.limit c.args.self.now.chart.now.words c.args.self.now.chart.now.edges (g.met.N.Nodes.lawful c.args.self.now.nodes.now) c.edge.ensures.edges c.requires.ready c.args.pair.0 c.args.pair.1 c.edge.result.now c.edge-2.result.now c.edge.ensures.there c.edge-2.ensures.there (partners_near c.args.self.now.chart.now.edges c.args.pair.0 c.args.pair.1 c.edge.result.now c.edge-2.result.now c.requires.partners c.edge.ensures.there c.edge-2.ensures.there) c.with_daughter-kind.result c.with_daughter-kind.ensures c.last_slot.result.0 c.last_slot.ensures in
    let no : c.in_ok-has_unifier.field-0 ≡ false = search rules in
    f.none (subst (λ r. (G : Structure) (h : Value) → TakesBoth v.structure (value_of v r) (c.last_slot.result.0 ∷ []) v.structure (value_of v c.edge-2.result.now.root) G h → ⊥) (sym c.in-Node.is) (c.in_ok-has_unifier.ensures.none no))

pub overflow_add-size : goal.overflow_add-size
overflow_add-size g c =
    let f = facts (rules_of c.args.self.now.library.now) c.args.self.now.library.now (g.N.Nodes.shown c.args.self.now.nodes.now) c.args.self.now.limit c.args.self.now.chart.now.words c.args.self.now.chart.now.edges (g.met.N.Nodes.lawful c.args.self.now.nodes.now) c.edge.ensures.edges c.requires.ready c.args.pair.0 c.args.pair.1 c.edge.result.now c.edge-2.result.now c.edge.ensures.there c.edge-2.ensures.there (partners_near c.args.self.now.chart.now.edges c.args.pair.0 c.args.pair.1 c.edge.result.now c.edge-2.result.now c.requires.partners c.edge.ensures.there c.edge-2.ensures.there) c.with_daughter-kind.result c.with_daughter-kind.ensures c.last_slot.result.0 c.last_slot.ensures in
    let small = f.small in
    omega (arith, small.0, small.1, c.requires.limit)

pub returns-then-size-self-clause-combined : goal.returns-then-size-self-clause-combined
returns-then-size-self-clause-combined g c =
    let v = g.N.Nodes.shown c.args.self.now.nodes.now in
    let f = facts (rules_of c.args.self.now.library.now) c.args.self.now.library.now (g.N.Nodes.shown c.args.self.now.nodes.now) c.args.self.now.limit c.args.self.now.chart.now.words c.args.self.now.chart.now.edges (g.met.N.Nodes.lawful c.args.self.now.nodes.now) c.edge.ensures.edges c.requires.ready c.args.pair.0 c.args.pair.1 c.edge.result.now c.edge-2.result.now c.edge.ensures.there c.edge-2.ensures.there (partners_near c.args.self.now.chart.now.edges c.args.pair.0 c.args.pair.1 c.edge.result.now c.edge-2.result.now c.requires.partners c.edge.ensures.there c.edge-2.ensures.there) c.with_daughter-kind.result c.with_daughter-kind.ensures c.last_slot.result.0 c.last_slot.ensures in
    let so : c.in_ok-has_unifier.field-0 ≡ true = search rules in
    let marks = (c.in_ok-has_unifier.ensures.some so).marks in
    let sum = f.sum in (
      f.some marks.unifier marks.top (subst (λ r. IsUnifier v.structure (value_of v r) (c.last_slot.result.0 ∷ []) v.structure (value_of v c.edge-2.result.now.root) marks.unifier marks.top) (sym c.in-Node.is) marks.is_unifier),
      omega (arith, sum, c.if-size-self.true),
    )

pub copy-requires-clause-left : goal.copy-requires-clause-left
copy-requires-clause-left g c =
    let f = facts (rules_of c.args.self.now.library.now) c.args.self.now.library.now (g.N.Nodes.shown c.args.self.now.nodes.now) c.args.self.now.limit c.args.self.now.chart.now.words c.args.self.now.chart.now.edges (g.met.N.Nodes.lawful c.args.self.now.nodes.now) c.edge.ensures.edges c.requires.ready c.args.pair.0 c.args.pair.1 c.edge.result.now c.edge-2.result.now c.edge.ensures.there c.edge-2.ensures.there (partners_near c.args.self.now.chart.now.edges c.args.pair.0 c.args.pair.1 c.edge.result.now c.edge-2.result.now c.requires.partners c.edge.ensures.there c.edge-2.ensures.there) c.with_daughter-kind.result c.with_daughter-kind.ensures c.last_slot.result.0 c.last_slot.ensures in
    subst (ValueIsHeld (g.N.Nodes.shown c.args.self.now.nodes.now)) c.in-Node.is f.left

pub copy-requires-clause-settled : goal.copy-requires-clause-settled
copy-requires-clause-settled g c =
    let so : c.in_ok-has_unifier.field-0 ≡ true = search rules in
    (c.last_slot.result.0 ∷ [], value_of (g.N.Nodes.shown c.args.self.now.nodes.now) c.edge-2.result.now.root, c.in_ok-has_unifier.ensures.some so)

pub returns-clause-combined : goal.returns-clause-combined
returns-clause-combined g c =
    let v = g.N.Nodes.shown c.args.self.now.nodes.now in
    let f = facts (rules_of c.args.self.now.library.now) c.args.self.now.library.now (g.N.Nodes.shown c.args.self.now.nodes.now) c.args.self.now.limit c.args.self.now.chart.now.words c.args.self.now.chart.now.edges (g.met.N.Nodes.lawful c.args.self.now.nodes.now) c.edge.ensures.edges c.requires.ready c.args.pair.0 c.args.pair.1 c.edge.result.now c.edge-2.result.now c.edge.ensures.there c.edge-2.ensures.there (partners_near c.args.self.now.chart.now.edges c.args.pair.0 c.args.pair.1 c.edge.result.now c.edge-2.result.now c.requires.partners c.edge.ensures.there c.edge-2.ensures.there) c.with_daughter-kind.result c.with_daughter-kind.ensures c.last_slot.result.0 c.last_slot.ensures in
    let so : c.in_ok-has_unifier.field-0 ≡ true = search rules in
    let r = value_of v c.edge-2.result.now.root in
    let sum = f.sum in
    f.drafted (number_of v c.in-Node.left.block c.in-Node.left.offset) (ap (value_of v) c.in-Node.is) c.in_ok-made.made.block c.in_ok-made.made.root c.in_ok-made.made.nodes c.in_ok-made.made.arcs
    (c.in_ok-made.ensures.made (c.last_slot.result.0 ∷ []) r (c.in_ok-has_unifier.ensures.some so)) (omega (arith, sum, c.if-size-self.false))
