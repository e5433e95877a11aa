use Rattle.std.proofs.Common.{◌-◌, List, sym, ap, ◌∙◌, arith, rules, tests}
use Rattle.patr_grammar.proofs.Names.{Lexeme, PathTooLong, Stops, Word, attributes, begins, by_id, is_kind, word_list}
use Rattle.patr_grammar.proofs.Cells.{first, others, cell, shorter_others}
use Rattle.patr_grammar.specs.Views.{onto}
use Rattle.patr_grammar.proofs.Forms.{word_goes_on, word_too_many, words_stop}
use Rattle.patr_grammar.proofs.reader.Reader.attributes.Goals as goal
use Rattle.patr_grammar.proofs.reader.Reader.attributes.Goals.{in_default-via-then-self-lt1, in_default-via-in-len1-up+else-is_kind}

pub returns-in_default-clause-gives : goal.returns-in_default-clause-gives
returns-in_default-clause-gives c =
    let i = c.words.invariant.read in
    let ts = c.words.self.rest.now in
    words_stop c.words.found.items c.words.left i.0 ts (attributes by_id c.args.room c.args.self.now.rest.now)
    (elim c.in_default.branch [
      | in_default-via-then-self-lt1 w ↦ search (rules, tests)
      | in_default-via-in-len1-up+else-is_kind w ↦ ap (begins (is_kind by_id Word)) (cell ts w.in-len1-up.len_at_least) ∙ sym w.if-is_kind.ensures
    ])
    i.2

pub returns-then-left-eq0-clause-gives : goal.returns-then-left-eq0-clause-gives
returns-then-left-eq0-clause-gives c =
    let i = c.words.invariant.read in
    let ts = c.words.self.rest.now in
    let e = cell ts c.in-len1-up.len_at_least in
    word_too_many c.words.found.items c.words.left i.0 (first ts) (others ts) (attributes by_id c.args.room c.args.self.now.rest.now) (sym c.if-is_kind.ensures) c.if-left-eq0.true (omega (arith, c.in-len1-up.len_at_least, i.1))
    (ap (λ (u : List Lexeme). onto c.words.found.items (word_list by_id c.words.left i.0 u)) (sym e) ∙ i.2)
    ∙ ap (λ (u : List Lexeme). Stops PathTooLong u) (sym e)

pub words-preserved : goal.words-preserved
words-preserved c =
    let i = c.words.invariant.read in
    let ts = c.words.self.rest.now in
    let e = cell ts c.in-len1-up.len_at_least in
    record {
      read = (
        i.0 - 1,
        omega (arith, shorter_others ts c.in-len1-up.len_at_least, i.1),
        rw c.in_ok-push-in-len1-up.ensures.items (word_goes_on c.words.found.items c.words.left i.0 (first ts) (others ts) (attributes by_id c.args.room c.args.self.now.rest.now) (sym c.if-is_kind.ensures) c.if-left-eq0.false (omega (arith, c.in-len1-up.len_at_least, i.1))
            (ap (λ (u : List Lexeme). onto c.words.found.items (word_list by_id c.words.left i.0 u)) (sym e) ∙ i.2)),
      );
      shorter = omega (arith, shorter_others ts c.in-len1-up.len_at_least, c.words.invariant.shorter);
    }
