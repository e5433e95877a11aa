use Rattle.std.proofs.Common.{◌++◌, codes, decimal, ap, ◌∙◌, subst}
use Rattle.patr_reply.proofs.Names.{IfOk-weaker, IsFirstCause, line, string_bytes}
use Rattle.patr_parse.specs.declared.parse.ParseCause.TheVariants.{UnknownWord, TooManyEdges}
use Rattle.patr_reply.proofs.KnownWords.{of_unknown, of_many}
use Rattle.patr_reply.proofs.Words.{texts}
use Rattle.patr_reply.proofs.refused.refusal.Goals as goal

pub returns-in-UnknownWord : goal.returns-in-UnknownWord
returns-in-UnknownWord c = λ s table limit names features count first_cause first held agrees.
    let words = texts c.args.words.now in
    let position = c.in-UnknownWord.position in
    let h : IsFirstCause s table words limit (UnknownWord position) = subst (IsFirstCause s table words limit) c.in-UnknownWord.is first_cause in
    IfOk-weaker c.unknown_line.result _ _
    (λ text is. of_unknown s table names agrees held words position limit features count h.1 (string_bytes text) h.0
    (is ∙ ap (λ w. line (codes "error: unknown word at " ++ decimal position ++ codes ": " ++ w)) (c.word_at.ensures h.1.place h.1.word h.1.position_is h.1.here)))
    c.unknown_line.ensures

pub returns-in-TooManyEdges : goal.returns-in-TooManyEdges
returns-in-TooManyEdges c = λ s table limit names features count first_cause first held agrees.
    let words = texts c.args.words.now in
    let most = c.in-TooManyEdges.limit in
    let h : IsFirstCause s table words limit (TooManyEdges most) = subst (IsFirstCause s table words limit) c.in-TooManyEdges.is first_cause in
    IfOk-weaker c.many_line.result _ _
    (λ text is. of_many s table names agrees held first words limit features count (string_bytes text) h.3 h.1 h.2 h.4 h.5 (is ∙ ap (λ n. line (codes "error: more than " ++ decimal n ++ codes " edges")) h.0))
    c.many_line.ensures
