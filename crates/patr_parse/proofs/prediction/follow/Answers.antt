use Rattle.std.proofs.Common.{◌≡◌, Option, Some, None, ℕ, [], refl, sym, ap, ◌∙◌, subst, true, append-nil, IfOk}
use Rattle.std.specs.Option.{option_map}
use Rattle.patr_parse.proofs.Names.{Id, end, sentence_of, rules_of, ArePushed, HasMarkOf, begun_by, next_of}
use Rattle.patr_chart.specs.Charted.{tree}
use Rattle.patr_parse.proofs.prediction.follow.Goals as goal

pub returns-in_default-clause-pushed : goal.returns-in_default-clause-pushed
returns-in_default-clause-pushed c =
    let s = c.args.library.now in
    let r = rules_of s in
    let v = sentence_of c.args.arena.now in
    let es = c.args.chart.now.edges in
    let t = tree es c.args.k in
    let none : None ≡ next_of r t = sym (ap (λ o. option_map (λ (x : Id). x.0) o) c.in_default.is) ∙ c.next_category.ensures in
    subst (λ (o : Option ℕ). ArePushed r s v c.args.limit es (begun_by c.args.marks.now.keys s o (end t)) es true) none ([], sym (append-nil es), tt, c.requires.few)

pub returns-in_default-clause-marked : goal.returns-in_default-clause-marked
returns-in_default-clause-marked c =
    let t = tree c.args.chart.now.edges c.args.k in
    let none : None ≡ next_of (rules_of c.args.library.now) t = sym (ap (λ o. option_map (λ (x : Id). x.0) o) c.in_default.is) ∙ c.next_category.ensures in
    subst (λ (o : Option ℕ). HasMarkOf c.args.marks.now.keys c.args.marks.now.keys o (end t)) none refl

pub predict_category-requires-clause-at : goal.predict_category-requires-clause-at
predict_category-requires-clause-at c = (c.edge.ensures.edges c.args.k c.edge.result.now c.edge.ensures.there).within

pub returns-clause-pushed : goal.returns-clause-pushed
returns-clause-pushed c =
    let s = c.args.library.now in
    let r = rules_of s in
    let v = sentence_of c.args.arena.now in
    let es = c.args.chart.now.edges in
    let t = tree es c.args.k in
    let marks = c.args.marks.now.keys in
    let some : Some c.in-Some.category.0 ≡ next_of r t = sym (ap (λ o. option_map (λ (x : Id). x.0) o) c.in-Some.is) ∙ c.next_category.ensures in
    subst (λ (o : Option ℕ). IfOk c.predict_category.result (λ done. ArePushed r s v c.args.limit es (begun_by marks s o (end t)) c.predict_category.new.chart.edges done)) some
    (subst (λ (i : ℕ). IfOk c.predict_category.result (λ done. ArePushed r s v c.args.limit es (begun_by marks s (Some c.in-Some.category.0) i) c.predict_category.new.chart.edges done)) (sym c.edge.ensures.derived.1) c.predict_category.ensures.pushed)

pub returns-clause-marked : goal.returns-clause-marked
returns-clause-marked c =
    let r = rules_of c.args.library.now in
    let t = tree c.args.chart.now.edges c.args.k in
    let marks = c.args.marks.now.keys in
    let some : Some c.in-Some.category.0 ≡ next_of r t = sym (ap (λ o. option_map (λ (x : Id). x.0) o) c.in-Some.is) ∙ c.next_category.ensures in
    subst (λ (o : Option ℕ). IfOk c.predict_category.result (λ _. HasMarkOf marks c.predict_category.new.marks.keys o (end t))) some
    (subst (λ (i : ℕ). IfOk c.predict_category.result (λ _. HasMarkOf marks c.predict_category.new.marks.keys (Some c.in-Some.category.0) i)) (sym c.edge.ensures.derived.1) c.predict_category.ensures.marked)
