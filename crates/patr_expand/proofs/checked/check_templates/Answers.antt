use Rattle.std.proofs.Common.{◌≡◌, ◌∙◌, ◌<◌, ap, get_or, length, rules, subst, sym, take, List}
use Rattle.patr_model.specs.Build.{unknown_name}
use Rattle.patr_model.specs.Productions.{things}
use Rattle.patr_grammar.specs.declared.grammar.Element.{Element}
use Rattle.patr_grammar.specs.declared.grammar.Template.{Template}
use Rattle.patr_grammar.specs.Levels.{features_seen}
use Rattle.patr_expand.specs.Seen.{cause_seen, meant, same}
use Rattle.patr_expand.proofs.Behind.{found_in, still_none}
use Rattle.patr_expand.proofs.checked.check_templates.Goals as goal

pub returns-in-Some : goal.returns-in-Some
returns-in-Some c =
    let x = c.template-item.result in
    let ts = c.args.grammar.now.templates.items in
    let i = c.loop-number.number in
    let is : get_or ts i x ≡ x = search rules in
    let lt = subst (λ l. i < length l) c.deref-template-items.ensures.value c.loop-number-test.true in
    let ms = meant (take i ts) in
    let body = ap (λ (es : List Element). unknown_name same ms (things (features_seen es))) c.deref-in-loop-number.ensures.value in
    let before = ap (λ (us : List Template). meant (take i us)) (sym c.deref.ensures.value) in
    found_in ts i x (cause_seen c.in-Some.cause) lt is c.loop-number.invariant (sym (c.in-Some.ensures ms before ∙ body))

pub loop-number-preserved : goal.loop-number-preserved
loop-number-preserved c =
    let x = c.template-item.result in
    let ts = c.args.grammar.now.templates.items in
    let i = c.loop-number.number in
    let is : get_or ts i x ≡ x = search rules in
    let lt = subst (λ l. i < length l) c.deref-template-items.ensures.value c.loop-number-test.true in
    let ms = meant (take i ts) in
    let body = ap (λ (es : List Element). unknown_name same ms (things (features_seen es))) c.deref-in-loop-number.ensures.value in
    let before = ap (λ (us : List Template). meant (take i us)) (sym c.deref.ensures.value) in
    still_none ts i x lt is c.loop-number.invariant (sym (c.in_default.ensures ms before ∙ body))
