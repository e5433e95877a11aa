use Rattle.std.proofs.Common.{length, sym, ap, ◌∙◌, eqb-true, eq-eqb}
use Rattle.std.proofs.lemmas.Bool.{false≢true}
use Rattle.patr_lexicon.proofs.Names.{plus, words_seen}
use Rattle.patr_lexicon.proofs.Records.{no_word, some_word}
use Rattle.patr_lexicon.proofs.words.Words.and_piece.Goals as goal

pub returns-then-is_empty : goal.returns-then-is_empty
returns-then-is_empty c = no_word (words_seen c.args.self) c.args.piece.now (eqb-true (length c.args.piece.now) 0 (sym c.is_empty.ensures ∙ c.if-is_empty.true))

pub returns : goal.returns
returns c =
    c.and.ensures
    ∙ ap (plus (words_seen c.args.self)) (some_word c.args.piece.now (λ none. absurd (false≢true (sym c.if-is_empty.false ∙ c.is_empty.ensures ∙ eq-eqb (length c.args.piece.now) 0 none))))
