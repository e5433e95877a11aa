use Rattle.std.proofs.Common.{◌≡◌, length, take, refl, ap, ◌∙◌, subst, arith}
use Rattle.std.proofs.Math.Seq.{take-length}
use Rattle.patr_parse.proofs.Names.{sentence_of, rules_of, leaves_from}
use Rattle.patr_parse.proofs.Pushed.{numbers_of, Behind, behind_none, word_full, word_more}
use Rattle.patr_parse.proofs.prediction.push_words.Goals as goal

pub loop-at-init : goal.loop-at-init
loop-at-init c = record { pushed = behind_none (rules_of c.args.library.now) c.args.library.now (sentence_of c.args.arena.now) c.args.chart.now.edges; few = c.requires.few; words = refl }

pub returns-then-not-branch-clause-pushed : goal.returns-then-not-branch-clause-pushed
returns-then-not-branch-clause-pushed c =
    word_full c.args.library.now (sentence_of c.args.arena.now) c.args.words.now c.loop-at.at (record { 0 = 0 }) (omega arith) c.args.limit c.args.chart.now.edges c.loop-at.chart.edges c.push_items.new.chart.edges c.loop-at.invariant.pushed
    (rw c.if-not-branch.true at c.in_ok-push_items.ensures.pushed)

pub loop-at-preserved : goal.loop-at-preserved
loop-at-preserved c =
    let pushed = rw c.if-not-branch.false at c.in_ok-push_items.ensures.pushed in
    record {
      pushed = word_more c.args.library.now (sentence_of c.args.arena.now) c.args.words.now c.loop-at.at (record { 0 = 0 }) (omega arith) c.args.limit c.args.chart.now.edges c.loop-at.chart.edges c.push_items.new.chart.edges c.loop-at.invariant.pushed pushed;
      few = pushed.3;
      words = c.in_ok-push_items.ensures.words ∙ c.loop-at.invariant.words;
    }

pub returns-clause-pushed : goal.returns-clause-pushed
returns-clause-pushed c =
    let s = c.args.library.now in
    let r = rules_of s in
    let v = sentence_of c.args.arena.now in
    let ws = c.args.words.now in
    let all : take c.loop-at.at ws ≡ ws = ap (λ n. take n ws) (let h : c.loop-at.at ≡ length ws = omega arith in h) ∙ take-length ws in
    let b : Behind r s v c.args.chart.now.edges (leaves_from s 0 (numbers_of ws)) c.loop-at.chart.edges =
    subst (λ l. Behind r s v c.args.chart.now.edges (leaves_from s 0 (numbers_of l)) c.loop-at.chart.edges) all c.loop-at.invariant.pushed in
    (b.0, b.1, b.2, c.loop-at.invariant.few)
