use Rattle.std.proofs.Common.{◌≡◌, ◌∷◌, ◌+◌, ◌-◌, take, drop, not, sym, ap, ◌∙◌, arith}
use Rattle.patr_lexicon.proofs.Names.{is_blank, pieces, prefix_len}
use Rattle.patr_lexicon.proofs.Lines.{pieces_behind, pieces_whole}
use Rattle.patr_lexicon.proofs.Trims.{word_is_boundary}
use Rattle.patr_lexicon.proofs.line.cut_word.Goals as goal

pub returns-then-len-text-clause-pieces : goal.returns-then-len-text-clause-pieces
returns-then-len-text-clause-pieces c =
    pieces_whole is_blank c.args.text.now c.word_len-len.result (c.word_len-len.ensures.len ∙ ap (prefix_len (λ b. not (is_blank b))) c.as_bytes.ensures.value) c.if-len-text.true

pub range-requires-clause-end_boundary : goal.range-requires-clause-end_boundary
range-requires-clause-end_boundary c =
    let is = c.word_len-len.ensures.len ∙ ap (prefix_len (λ b. not (is_blank b))) c.as_bytes.ensures.value in
    (word_is_boundary c.args.text.now c.word_len-len.result c.utf8.text is c.if-len-text.false).0

pub range_from-requires : goal.range_from-requires
range_from-requires c = λ _.
    let is = c.word_len-len.ensures.len ∙ ap (prefix_len (λ b. not (is_blank b))) c.as_bytes.ensures.value in
    (word_is_boundary c.args.text.now c.word_len-len.result c.utf8.text is c.if-len-text.false).1

pub returns-clause-pieces : goal.returns-clause-pieces
returns-clause-pieces c =
    let text = c.args.text.now in
    let n = c.word_len-len.result in
    let is = c.word_len-len.ensures.len ∙ ap (prefix_len (λ b. not (is_blank b))) c.as_bytes.ensures.value in
    let first : n - 0 ≡ n = omega arith in
    pieces_behind is_blank text n is c.if-len-text.false
    ∙ ap (λ p. p ∷ pieces is_blank (drop (n + 1) text)) (sym (c.range.ensures.value ∙ ap (λ k. take k text) first))
    ∙ ap (λ bs. c.range.result.now ∷ pieces is_blank bs) (sym c.range_from.ensures.value)
