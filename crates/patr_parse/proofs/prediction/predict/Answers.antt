use Rattle.std.proofs.Common.{◌≡◌, ◌∙◌, [], length, map, refl, sym, append-nil, subst, arith}
use Rattle.patr_parse.proofs.Names.{Id, end, sentence_of, rules_of, begun_by, next_of, ArePushed, ArePredicted, IsMarked}
use Rattle.patr_chart.specs.Charted.{tree}
use Rattle.patr_parse.proofs.Predicting.{predicted_all}
use Rattle.patr_parse.proofs.Ready.{further, not_further}
use Rattle.patr_parse.proofs.prediction.predict.Goals as goal

pub loop-prediction-init : goal.loop-prediction-init
loop-prediction-init c = record {
  predicted = record { stands = λ k s. s; ready = c.requires.ready; predicted = c.requires.predicted; grown = ([], sym (append-nil c.args.chart.now.edges)); kept = λ worked h. refl; few = c.requires.few };
  words = refl;
}

pub returns-then-not-branch-clause-more : goal.returns-then-not-branch-clause-more
returns-then-not-branch-clause-more c = λ u.
    let s = c.args.library.now in
    let es = c.loop-prediction.chart.edges in
    let p = c.loop-prediction.prediction in
    let t = tree es p.seen in
    not_further s c.requires.base.1 (map (λ (w : Id). w.0) c.args.words.now) (sentence_of c.args.arena.now) c.args.limit c.args.chart.now.edges es c.requires.stands.0 c.requires.stands.1 p c.loop-prediction.invariant.predicted
    (omega (arith, c.loop-prediction-test.true, c.len.ensures)) c.follow.new.chart.edges
    (subst (λ b. ArePushed (rules_of s) s (sentence_of c.args.arena.now) c.args.limit es (begun_by p.marks.keys s (next_of (rules_of s) t) (end t)) c.follow.new.chart.edges b) c.if-not-branch.true c.in_ok-follow.ensures.pushed)

pub loop-prediction-preserved : goal.loop-prediction-preserved
loop-prediction-preserved c =
    let s = c.args.library.now in
    let es = c.loop-prediction.chart.edges in
    let p = c.loop-prediction.prediction in
    let t = tree es p.seen in
    record {
      predicted = further s c.requires.base.1 (map (λ (w : Id). w.0) c.args.words.now) (sentence_of c.args.arena.now) c.args.limit c.args.chart.now.edges es c.requires.stands.0 c.requires.stands.1 p c.loop-prediction.invariant.predicted
          (omega (arith, c.loop-prediction-test.true, c.len.ensures)) c.follow.new.chart.edges
          (subst (λ b. ArePushed (rules_of s) s (sentence_of c.args.arena.now) c.args.limit es (begun_by p.marks.keys s (next_of (rules_of s) t) (end t)) c.follow.new.chart.edges b) c.if-not-branch.false c.in_ok-follow.ensures.pushed)
          _ c.in_ok-follow.ensures.marked refl;
      words = c.in_ok-follow.ensures.words ∙ c.loop-prediction.invariant.words;
    }

pub returns-clause-complete : goal.returns-clause-complete
returns-clause-complete c = λ u.
    let s = c.args.library.now in
    let es = c.loop-prediction.chart.edges in
    let p = c.loop-prediction.prediction in
    let i = c.loop-prediction.invariant.predicted in
    let within = i.predicted.within in
    let ws = map (λ (w : Id). w.0) c.args.words.now in
    predicted_all s c.requires.base.1 ws (sentence_of c.args.arena.now) es i.ready.sound (IsMarked p.marks.keys)
    (subst (λ n. ArePredicted s ws (IsMarked p.marks.keys) n es) (let all : p.seen ≡ length es = omega (arith, within, c.loop-prediction-test.false, c.len.ensures) in all) i.predicted)
