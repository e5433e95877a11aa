use Rattle.std.proofs.Common.{◌≡◌, true, false, rules, length, refl, sym, ap, ◌∙◌, subst, arith}
use Rattle.patr_parse.proofs.Names.{extends_same, Extends, ids, sentence_of, IsShown, rules_of, keys, HasMoreThan, AreAll, AreSound, judge}
use Rattle.patr_parse.specs.Closing.{IsClosed}
use Rattle.patr_parse.proofs.Sound.{numbers_short}
use Rattle.patr_parse.proofs.parse.parse_words.Goals as goal

pub close-closed-requires-clause-base : goal.close-closed-requires-clause-base
close-closed-requires-clause-base g c =
    let s = c.args.library.now in
    let is : sentence_of c.over.result ≡ s.shown = c.over.ensures ∙ c.arena.ensures in
    (record { longer = subst (λ v. Extends s.shown v) (sym is) (extends_same s.shown); shown = subst IsShown c.arena.ensures c.arena.result.now.lawful }, c.rules-rules.ensures.stored)

pub close-closed-requires-clause-words : goal.close-closed-requires-clause-words
close-closed-requires-clause-words g c =
    let known = c.in-Ok.ensures.numbers in omega (arith, numbers_short _ _ c.in-Ok.numbers.items known.short known.are, ap length c.deref.ensures.value)

pub overflow_cast-len : goal.overflow_cast-len
overflow_cast-len g c =
    let known = c.in-Ok.ensures.numbers in omega (arith, numbers_short _ _ c.in-Ok.numbers.items known.short known.are, c.len.ensures)

pub returns-then-not-branch-clause-refused : goal.returns-then-not-branch-clause-refused
returns-then-not-branch-clause-refused g c =
    let s = c.args.library.now in
    let known = c.in-Ok.ensures.numbers in
    let passed : c.in_ok-closed.field-0 ≡ false = search rules in
    (refl, known.short, known.known, ids c.in-Ok.numbers.items, known.are, subst (λ l. HasMoreThan (judge s) (rules_of s) (ids l) c.args.limit) c.deref.ensures.value (c.in_ok-closed.ensures.more passed))

pub returns-clause-parsed : goal.returns-clause-parsed
returns-clause-parsed g c =
    let s = c.args.library.now in
    let known = c.in-Ok.ensures.numbers in
    let items = c.in-Ok.numbers.items in
    let new = c.close-closed.new.closing in
    let done : c.in_ok-closed.field-0 ≡ true = search rules in
    let closed = subst (λ l. IsClosed s (ids l) c.args.limit (sentence_of new.arena) new.chart new.local.decided) c.deref.ensures.value (c.in_ok-closed.ensures.closed done) in
    let all = subst (λ l. AreAll (rules_of s) keys.cat (ids l) new.chart.edges c.in_ok-analyses.analyses.items) c.deref-2.ensures.value c.in_ok-analyses.ensures in
    record {
      short = known.short;
      known = known.known;
      numbers = ids items;
      are = known.are;
      sound = record { words = closed.words; chart = closed.chart; few = closed.few; edges = closed.edges; decided = closed.pairs; within = all.within; rises = all.rises; each = all.each; every = all.every };
    }

pub analyses_of-requires-clause-short : goal.analyses_of-requires-clause-short
analyses_of-requires-clause-short g c =
    let known = c.in-Ok.ensures.numbers in omega (arith, numbers_short _ _ c.in-Ok.numbers.items known.short known.are, ap length c.deref-2.ensures.value)

pub analyses_of-requires-clause-edges : goal.analyses_of-requires-clause-edges
analyses_of-requires-clause-edges g c =
    let s = c.args.library.now in
    let done : c.in_ok-closed.field-0 ≡ true = search rules in
    subst (λ v. AreSound (rules_of s) s v c.close-closed.new.closing.chart.edges) (sym c.of-view.ensures) (c.in_ok-closed.ensures.closed done).edges

pub returns-in-Err-clause-refused : goal.returns-in-Err-clause-refused
returns-in-Err-clause-refused g c = c.in-Err.ensures.refused c.args.limit

pub returns-clause-base : goal.returns-clause-base
returns-clause-base g c =
    let done : c.in_ok-closed.field-0 ≡ true = search rules in
    (c.in_ok-closed.ensures.closed done).longer
