use Rattle.std.proofs.Common.{◌∙◌, List, [], map, true, cond, nat_eq, ◌&&◌, refl, ap, subst}
use Rattle.patr_parse.proofs.Names.{Id, sentence_of, rules_of, Mark, leaves_from, begun_at, HasMark, ArePushed}
use Rattle.patr_parse.specs.Begun.{is_marked}
use Rattle.patr_parse.proofs.Begins.{words_passed, start_passed, initialized}
use Rattle.patr_parse.proofs.prediction.initialize.Goals as goal

pub returns-then-not-branch-clause-more : goal.returns-then-not-branch-clause-more
returns-then-not-branch-clause-more c =
    let s = c.args.library.now in
    let ws = map (λ (w : Id). w.0) c.args.words.now in
    let v = sentence_of c.args.arena.now in
    words_passed s c.requires.base.1 ws v c.args.limit c.args.chart.now.edges c.push_words.new.chart.edges c.requires.empty
    (subst (λ b. ArePushed (rules_of s) s v c.args.limit c.args.chart.now.edges (leaves_from s 0 ws) c.push_words.new.chart.edges b) c.if-not-branch.true c.in_ok-push_words.ensures.pushed)

pub returns-then-not-branch-2-clause-more : goal.returns-then-not-branch-2-clause-more
returns-then-not-branch-2-clause-more c =
    let s = c.args.library.now in
    let ws = map (λ (w : Id). w.0) c.args.words.now in
    let v = sentence_of c.args.arena.now in
    let mid = c.push_words.new.chart.edges in
    let start = c.grammar.result.now.start.0 in
    start_passed s c.requires.base.1 ws v c.args.limit c.args.chart.now.edges mid c.requires.empty
    (subst (λ b. ArePushed (rules_of s) s v c.args.limit c.args.chart.now.edges (leaves_from s 0 ws) mid b) c.if-not-branch.false c.in_ok-push_words.ensures.pushed)
    start (ap (λ g. g.start.0) c.grammar.ensures) c.push_items.new.chart.edges
    (subst (λ b. ArePushed (rules_of s) s v c.args.limit mid (begun_at s start 0) c.push_items.new.chart.edges b) c.if-not-branch-2.true c.in_ok-push_items.ensures.pushed)

pub returns-clause-initialized : goal.returns-clause-initialized
returns-clause-initialized c =
    let s = c.args.library.now in
    let ws = map (λ (w : Id). w.0) c.args.words.now in
    let v = sentence_of c.args.arena.now in
    let mid = c.push_words.new.chart.edges in
    let start = c.grammar.result.now.start.0 in
    let is = ap (λ g. g.start.0) c.grammar.ensures in
    let marked : HasMark [] c.insert.new.self.keys (rules_of s).start 0 = λ d j. c.in_ok-insert.ensures.updates.0 (record { category = d; at = j })
    ∙ (ap (λ (l : List Mark). cond (nat_eq start d && nat_eq 0 j) true (is_marked l d j)) c.new-marks.ensures.empty ∙ ap (λ x. cond (nat_eq x d && nat_eq 0 j) true (is_marked [] d j)) is) in
    let rules : ArePushed (rules_of s) s v c.args.limit mid (begun_at s start 0) c.push_items.new.chart.edges true =
    subst (λ b. ArePushed (rules_of s) s v c.args.limit mid (begun_at s start 0) c.push_items.new.chart.edges b) c.if-not-branch-2.false c.in_ok-push_items.ensures.pushed in
    initialized s c.requires.base.1 ws v c.args.limit c.args.chart.now.edges mid c.requires.empty
    (subst (λ b. ArePushed (rules_of s) s v c.args.limit c.args.chart.now.edges (leaves_from s 0 ws) mid b) c.if-not-branch.false c.in_ok-push_words.ensures.pushed)
    start is c.push_items.new.chart.edges rules rules.3 _ refl marked
