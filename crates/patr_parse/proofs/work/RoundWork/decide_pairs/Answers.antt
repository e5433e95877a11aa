use Rattle.std.proofs.Common.{◌≡◌, ◌+◌, [], ◌∙◌, true, false, length, take, sym, ap, subst, arith, rules}
use Rattle.std.proofs.Math.Seq.{take-length}
use Rattle.patr_parse.proofs.Names.{partners, rules_of, AreMade}
use Rattle.patr_parse.proofs.Paired.{next_partners, next_large, next_made, partners_few, task_gave}
use Rattle.patr_parse.proofs.Tasks.{made_nothing}
use Rattle.patr_parse.proofs.work.RoundWork.decide_pairs.Goals as goal

pub loop-other-init : goal.loop-other-init
loop-other-init g c = record {
  made = (let none : [] ≡ c.new-made.result.items = search rules in
      subst (AreMade (rules_of c.args.self.now.library.now) (g.N.Nodes.shown c.args.self.now.nodes.now) c.args.self.now.chart.now.words c.args.self.now.chart.now.edges c.args.self.now.limit c.is_passive-passive.result c.args.k []) none
      (made_nothing (rules_of c.args.self.now.library.now) (g.N.Nodes.shown c.args.self.now.nodes.now) c.args.self.now.chart.now.words c.args.self.now.chart.now.edges c.args.self.now.limit c.is_passive-passive.result c.args.k));
  decided = omega arith;
  steps = c.new-steps.ensures;
}

pub decide_one-requires-clause-partners : goal.decide_one-requires-clause-partners
decide_one-requires-clause-partners g c =
    next_partners (rules_of c.args.self.now.library.now) c.args.self.now.chart.now.words c.args.self.now.chart.now.edges c.edge.ensures.edges c.requires.ready.fit c.requires.ready.once c.args.k c.edge.result.now c.edge.ensures.there
    c.is_passive-passive.result (sym c.is_passive-passive.ensures) c.partners-other-items.result.now c.partners-other-items.ensures c.loop-other.other-index c.loop-other-test.true c.ordered-pair.result.0 c.ordered-pair.result.1 c.ordered-pair.ensures.active c.ordered-pair.ensures.passive

pub returns-then-not-branch-clause-none : goal.returns-then-not-branch-clause-none
returns-then-not-branch-clause-none g c =
    let large : c.in_ok-decide_one.field-0 ≡ false = search rules in
    next_large (rules_of c.args.self.now.library.now) c.args.self.now.chart.now.words c.args.self.now.chart.now.edges c.edge.ensures.edges c.requires.ready.fit c.requires.ready.once c.args.k c.edge.result.now c.edge.ensures.there
    c.is_passive-passive.result (sym c.is_passive-passive.ensures) c.partners-other-items.result.now c.partners-other-items.ensures c.loop-other.other-index c.loop-other-test.true c.ordered-pair.result.0 c.ordered-pair.result.1 c.ordered-pair.ensures.active c.ordered-pair.ensures.passive
    (g.N.Nodes.shown c.args.self.now.nodes.now) c.args.self.now.limit c.loop-other.made.items c.decide_one.new.made.items (rw large at c.in_ok-decide_one.ensures.decided)

pub loop-other-preserved : goal.loop-other-preserved
loop-other-preserved g c =
    let was = c.loop-other.invariant in
    let done : c.in_ok-decide_one.field-0 ≡ true = search rules in
    let made =
    next_made (rules_of c.args.self.now.library.now) c.args.self.now.chart.now.words c.args.self.now.chart.now.edges c.edge.ensures.edges c.requires.ready.fit c.requires.ready.once c.args.k c.edge.result.now c.edge.ensures.there
    c.is_passive-passive.result (sym c.is_passive-passive.ensures) c.partners-other-items.result.now c.partners-other-items.ensures c.loop-other.other-index c.loop-other-test.true c.ordered-pair.result.0 c.ordered-pair.result.1 c.ordered-pair.ensures.active c.ordered-pair.ensures.passive
    (g.N.Nodes.shown c.args.self.now.nodes.now) c.args.self.now.limit c.loop-other.made.items c.decide_one.new.made.items was.made (rw done at c.in_ok-decide_one.ensures.decided) in
    record {
      made = made;
      decided = (let before = was.decided in omega (arith, before));
      steps = (let before = was.steps in let one = c.in_ok-decide_one.ensures.steps in omega (arith, before, one));
    }

pub overflow_add-local : goal.overflow_add-local
overflow_add-local g c =
    let was = c.loop-other.invariant.decided in
    let few = partners_few c.args.self.now.chart.now.edges c.args.k in
    omega (arith, was, c.requires.count, c.requires.limit.0, c.requires.limit.1, c.requires.k, few, ap length c.partners-other-items.ensures, c.loop-other-test.true)

pub returns-clause-some : goal.returns-clause-some
returns-clause-some g c =
    let es = c.args.self.now.chart.now.edges in
    let r = rules_of c.args.self.now.library.now in
    let v = g.N.Nodes.shown c.args.self.now.nodes.now in
    let words = c.args.self.now.chart.now.words in
    let items = c.partners-other-items.result.now in
    let end : c.loop-other.other-index ≡ length items = omega arith in
    let all : take c.loop-other.other-index items ≡ partners es c.args.k = ap (λ n. take n items) end ∙ (take-length items ∙ c.partners-other-items.ensures) in
    let was = c.loop-other.invariant.decided in
    task_gave r words es c.edge.ensures.edges c.requires.ready.fit c.requires.ready.once c.args.k c.edge.result.now c.edge.ensures.there v c.args.self.now.limit c.is_passive-passive.result (sym c.is_passive-passive.ensures) c.loop-other.made.items
    (subst (λ l. AreMade r v words es c.args.self.now.limit c.is_passive-passive.result c.args.k l c.loop-other.made.items) all c.loop-other.invariant.made) c.args.local.now.decided c.loop-other.local.decided
    (was ∙ ap (λ n. c.args.local.now.decided + n) (end ∙ ap length c.partners-other-items.ensures))
