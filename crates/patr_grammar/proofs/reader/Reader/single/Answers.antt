use Rattle.std.proofs.Common.{◌≡◌, ◌∙◌, ap, sym, subst}
use Rattle.std.proofs.lemmas.Result.{err_from_is_err_and}
use Rattle.patr_model.specs.declared.notation.What.TheVariants as what
use Rattle.patr_grammar.proofs.Names.{Fails, Gives, Got, Single, as_item, by_id, equation, equation_seen, head_seen, seen_by, single_by, ◌>>=◌}
use Rattle.patr_grammar.specs.declared.head.Head.{Head}
use Rattle.patr_grammar.specs.declared.head.Head.TheVariants.{AmongSymbols}
use Rattle.patr_grammar.specs.declared.grammar.Element.TheVariants.{Equation}
use Rattle.patr_grammar.proofs.Heads.{rule_equation_is}
use Rattle.patr_grammar.proofs.Levels.{equation_level}
use Rattle.patr_grammar.proofs.Loops.{fails_at_first}
use Rattle.patr_grammar.proofs.reader.Reader.single.Goals as goal

pub returns-in_err-equation-in-AmongSymbols-clause-gives : goal.returns-in_err-equation-in-AmongSymbols-clause-gives
returns-in_err-equation-in-AmongSymbols-clause-gives c =
    let f = c.in_err-equation-in-AmongSymbols.field-0.0 in
    let rest = c.equation.new.self.rest.now in
    let ts = c.args.self.now.rest.now in
    let symbols = c.in-AmongSymbols.field-0 in
    let among : Head = AmongSymbols symbols in
    let p = err_from_is_err_and c.from_residual.result c.from_residual.ensures.1 in
    let failed = subst (λ (h : Head). Fails f rest (equation by_id (head_seen h) what.Equation ts)) c.in-AmongSymbols.is c.in_err-equation-in-AmongSymbols.ensures.gives in
    rw (p.1, p.2) (subst (λ (h : Head). Fails f rest (as_item (single_by h) ts)) (sym c.in-AmongSymbols.is)
    (fails_at_first f rest (single_by among ts) (λ x ts. Got (Single x) ts) (subst (Fails f rest) (sym (rule_equation_is (head_seen among) ts)) failed)))

pub returns-in_ok-equation-in-AmongSymbols-clause-gives : goal.returns-in_ok-equation-in-AmongSymbols-clause-gives
returns-in_ok-equation-in-AmongSymbols-clause-gives c =
    let e = c.in_ok-equation-in-AmongSymbols.equation in
    let rest = c.equation.new.self.rest.now in
    let ts = c.args.self.now.rest.now in
    let among : Head = AmongSymbols c.in-AmongSymbols.field-0 in
    let read = subst (λ (h : Head). equation by_id (head_seen h) what.Equation ts ≡ Got (equation_seen e) rest) c.in-AmongSymbols.is c.in_ok-equation-in-AmongSymbols.ensures.gives in
    subst (λ (h : Head). as_item (single_by h) ts ≡ Got (seen_by h (Equation e)) rest) (sym c.in-AmongSymbols.is)
    (ap (λ p. p >>= λ x ts. Got (Single x) ts) (rule_equation_is (head_seen among) ts ∙ read) ∙ ap (λ i. Got i rest) (sym (equation_level e)))

pub returns-in-AnyAttribute-clause-gives : goal.returns-in-AnyAttribute-clause-gives
returns-in-AnyAttribute-clause-gives c =
    subst (λ (h : Head). Gives (seen_by h) c.feature.result c.feature.new.self.rest.now (as_item (single_by h) c.args.self.now.rest.now)) (sym c.in-AnyAttribute.is) c.feature.ensures.gives
