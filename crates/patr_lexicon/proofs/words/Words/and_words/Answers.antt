use Rattle.std.proofs.Common.{◌∷◌, sym, ap, ◌∙◌, rules}
use Rattle.patr_lexicon.proofs.Names.{is_blank, rest_pieces, words_seen}
use Rattle.patr_lexicon.proofs.Records.{plus_none, words_step}
use Rattle.patr_lexicon.proofs.words.Words.and_words.Goals as goal

pub words-preserved : goal.words-preserved
words-preserved c =
    let piece = c.cut_word.result.0.now in
    let cut = c.cut_word.ensures.pieces ∙ ap (λ b. piece ∷ rest_pieces is_blank b) c.in-Some.is in
    record {
      words = sym (words_step (words_seen c.words.words) (words_seen c.and_piece-words.result) c.words.rest.now piece _ cut c.and_piece-words.ensures) ∙ c.words.invariant.words;
      utf8 = search rules;
    }

pub returns-in_default : goal.returns-in_default
returns-in_default c =
    let piece = c.cut_word.result.0.now in
    let cut = c.cut_word.ensures.pieces ∙ ap (λ b. piece ∷ rest_pieces is_blank b) c.in_default.is in
    let words = words_seen c.and_piece-words.result in
    sym (plus_none words) ∙ sym (words_step (words_seen c.words.words) words c.words.rest.now piece _ cut c.and_piece-words.ensures) ∙ c.words.invariant.words
