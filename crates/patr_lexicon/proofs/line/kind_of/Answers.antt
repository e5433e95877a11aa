use Rattle.std.proofs.Common.{ℕ, List, drop, sym, ap, ◌∙◌}
use Rattle.patr_lexicon.proofs.Names.{take_rest, marker_len, begins_with}
use Rattle.patr_lexicon.proofs.Trims.{marker_is_boundary, begins_some}
use Rattle.patr_lexicon.proofs.line.kind_of.Goals as goal

pub returns-clause-cut : goal.returns-clause-cut
returns-clause-cut c =
    let same = c.as_bytes-text.ensures.value in
    marker_is_boundary c.args.line.now c.marker_len-len.result
    (c.marker_len-len.ensures.len ∙ ap marker_len (take_rest c.as_bytes-text.result.now 1) ∙ ap (λ (l : List ℕ). marker_len (drop 1 l)) same)
    (begins_some 92 c.args.line.now (ap (begins_with 92) (sym same) ∙ sym c.begins_with.ensures ∙ c.if-not-begins_with.false))
