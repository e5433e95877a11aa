use Rattle.std.proofs.Common.{ℕ, List, length, sym, ap, ◌∙◌, subst}
use Rattle.patr_grammar.proofs.Names.{Extends, IsText, extends_with, text_still}
use Rattle.patr_grammar.proofs.Texts.{has_no_index}
use Rattle.patr_grammar.proofs.numbering.numbers.Goals as goal

pub returns-then-name-text-clause-category : goal.returns-then-name-text-clause-category
returns-then-name-text-clause-category c =
    let whole = has_no_index c.args.text.now (ap length (sym c.without_index-name.ensures) ∙ c.if-name-text.true) in
    subst (λ (t : List ℕ). IsText c.intern.new.self c.in_ok-word.word t) (sym whole) c.in_ok-word.ensures.number

pub returns-clause-word : goal.returns-clause-word
returns-clause-word c =
    let new = c.intern-2.new.self in
    let grows : Extends c.intern.new.self new = rw c.in_ok-category.ensures.texts (extends_with c.intern.new.self c.without_index-name.result.now) in
    text_still c.intern.new.self new grows c.in_ok-word.word.0 c.args.text.now c.in_ok-word.ensures.number
