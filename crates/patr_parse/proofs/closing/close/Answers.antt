use Rattle.std.proofs.Common.{◌≡◌, [], true, false, length, map, take, sym, ap, subst, ◌∙◌, ◌++◌, arith, rules}
use Rattle.std.proofs.lemmas.List.{length-map, take-append-le}
use Rattle.std.proofs.Math.Seq.{take-length}
use Rattle.patr_parse.proofs.Names.{extends_on, Id, HasPairs, sentence_of, derivations, rules_of, judge, made_by, Stands}
use Rattle.patr_parse.proofs.Tasks.{trees_length}
use Rattle.patr_parse.proofs.Standing.{is_closed, not_more}
use Rattle.patr_parse.proofs.Ready.{small_first, ready, items_there, predictions_stay}
use Rattle.patr_parse.proofs.closing.close.Goals as goal

pub loop-prediction-init : goal.loop-prediction-init
loop-prediction-init g c =
    let s = c.args.library.now in
    let ws = map (λ (w : Id). w.0) c.args.words.now in
    let v = sentence_of c.args.closing.now.arena in
    let es = c.initialize.new.chart.edges in
    let first = rw c.in-Some.is at c.in_ok-prediction.ensures.initialized in
    record {
      stands = first.stands;
      predicted = first.predicted;
      ready = ready (judge s) (rules_of s) s v ws c.args.limit es 0 first.stands first.sound (items_there s c.requires.base.1 v c.requires.base.0.longer) (small_first (judge s) (rules_of s) ws c.args.limit es first.stands first.few);
      base = c.requires.base.0;
      few = first.few;
      words = c.in_ok-prediction.ensures.words ∙ c.requires.fresh.1;
      pairs = ([], record { once = tt; pairs = λ t h. absurd h; every = λ a p h k n. absurd h }, sym c.requires.fresh.2);
      count = (let none = c.requires.fresh.2 in omega (arith, none));
    }

pub predict-requires-clause-stands : goal.predict-requires-clause-stands
predict-requires-clause-stands g c = (c.loop-prediction.worked, c.loop-prediction.invariant.stands)

pub returns-then-worked-end-clause-closed : goal.returns-then-worked-end-clause-closed
returns-then-worked-end-clause-closed g c = λ u.
    let s = c.args.library.now in
    let r = rules_of s in
    let ws = map (λ (w : Id). w.0) c.args.words.now in
    let es = c.predict.new.chart.edges in
    let k = c.loop-prediction.worked in
    let i = c.loop-prediction.invariant in
    let done : c.in_ok-predict.field-0 ≡ true = search rules in
    let more = c.in_ok-predict.ensures.predicted done in
    let few = more.few in
    let stands = more.stands k i.stands in
    let end : k ≡ length es = omega (arith, c.if-worked-end.true, c.len-end.ensures) in
    let chart = is_closed (judge s) r ws es (subst (λ n. Stands (judge s) r ws es n []) end stands) (c.in_ok-predict.ensures.complete done) in
    let all : take k (derivations c.loop-prediction.closing.chart.edges) ≡ derivations es =
    sym (more.kept k i.stands.within) ∙ (ap (λ n. take n (derivations es)) (end ∙ sym (trees_length es)) ∙ take-length (derivations es)) in
    record {
      longer = i.base.longer;
      words = c.in_ok-predict.ensures.words ∙ (i.words ∙ sym (length-map c.args.words.now (λ (w : Id). w.0)));
      chart = chart;
      few = not_more (judge s) r ws es c.args.limit chart few more.ready.small;
      edges = more.ready.sound;
      pairs = subst (λ l. HasPairs r l c.loop-prediction.closing.local.decided) all i.pairs;
    }

pub complete-requires-clause-ready : goal.complete-requires-clause-ready
complete-requires-clause-ready g c = let done : c.in_ok-predict.field-0 ≡ true = search rules in (c.in_ok-predict.ensures.predicted done).ready

pub complete-requires-clause-limit : goal.complete-requires-clause-limit
complete-requires-clause-limit g c = let done : c.in_ok-predict.field-0 ≡ true = search rules in (c.requires.limit, (c.in_ok-predict.ensures.predicted done).few)

pub complete-requires-clause-within : goal.complete-requires-clause-within
complete-requires-clause-within g c =
    let done : c.in_ok-predict.field-0 ≡ true = search rules in
    ((c.in_ok-predict.ensures.predicted done).stands c.loop-prediction.worked c.loop-prediction.invariant.stands).within

pub returns-then-not-branch-2-clause-more : goal.returns-then-not-branch-2-clause-more
returns-then-not-branch-2-clause-more g c = λ u.
    let done : c.in_ok-predict.field-0 ≡ true = search rules in
    let passed : c.in_ok-complete.field-0 ≡ false = search rules in
    c.in_ok-complete.ensures.more (map (λ (w : Id). w.0) c.args.words.now) ((c.in_ok-predict.ensures.predicted done).stands c.loop-prediction.worked c.loop-prediction.invariant.stands) passed

pub loop-prediction-smaller : goal.loop-prediction-smaller
loop-prediction-smaller g c =
    let done : c.in_ok-predict.field-0 ≡ true = search rules in
    let more = c.in_ok-predict.ensures.predicted done in
    let few = more.few in
    let within = (more.stands c.loop-prediction.worked c.loop-prediction.invariant.stands).within in
    omega (arith, within, few, c.if-worked-end.false, c.len-end.ensures)

pub loop-prediction-preserved : goal.loop-prediction-preserved
loop-prediction-preserved g c =
    let s = c.args.library.now in
    let r = rules_of s in
    let ws = map (λ (w : Id). w.0) c.args.words.now in
    let es = c.predict.new.chart.edges in
    let new = c.complete.new.closing.chart.edges in
    let v = sentence_of c.loop-prediction.closing.arena in
    let w = sentence_of c.complete.new.closing.arena in
    let k = c.loop-prediction.worked in
    let i = c.loop-prediction.invariant in
    let done : c.in_ok-predict.field-0 ≡ true = search rules in
    let worked : c.in_ok-complete.field-0 ≡ true = search rules in
    let more = c.in_ok-predict.ensures.predicted done in
    let round = c.in_ok-complete.ensures.completed worked in
    let grown = round.round.grown in
    let end : length es ≡ c.len-end.result = sym c.len-end.ensures in
    let after = subst (λ n. Stands (judge s) r ws new n []) end (round.stands ws (more.stands k i.stands)) in
    let base = extends_on s.shown v w i.base.longer round.longer in
    let all : take c.len-end.result (derivations new) ≡ derivations es =
    ap (λ l. take c.len-end.result l) grown.2 ∙ (ap (λ n. take n (derivations es ++ made_by es grown.0)) (c.len-end.ensures ∙ sym (trees_length es)) ∙ take-append-le (length (derivations es)) (derivations es) (made_by es grown.0) (omega arith) ∙ take-length (derivations es)) in
    record {
      stands = after;
      predicted = predictions_stay s ws c.predict.new.prediction es new grown more.predicted;
      ready = ready (judge s) r s w ws c.args.limit new c.len-end.result after round.sound (items_there s c.requires.base.1 w base) round.round.small;
      base = record { longer = base; shown = i.base.shown };
      few = round.round.few;
      words = round.words ∙ (c.in_ok-predict.ensures.words ∙ i.words);
      pairs = subst (λ l. HasPairs r l c.complete.new.closing.local.decided) (sym all) (round.pairs (subst (λ l. HasPairs r l c.loop-prediction.closing.local.decided) (sym (more.kept k i.stands.within)) i.pairs));
      count = (let count = round.count in omega (arith, count, end));
    }
