use Rattle.std.proofs.Common.{◌≡◌, ◌∙◌, ◌<◌, ap, get_or, length, rules, subst, sym, take}
use Rattle.std.proofs.lemmas.Result.{err_from_is_err_and}
use Rattle.patr_expand.specs.Seen.{meant}
use Rattle.patr_expand.specs.Written.{IsMeasured}
use Rattle.patr_expand.proofs.Behind.{meant_more, refused_in, still_none}
use Rattle.patr_expand.proofs.templates.Templates.new.Goals as goal

pub loop-template-preserved : goal.loop-template-preserved
loop-template-preserved c =
    let x = c.template-item.result in
    let ts = c.args.grammar.now.templates.items in
    let i = c.loop-template.template-index in
    let is : get_or ts i x ≡ x = search rules in
    let lt = subst (λ l. i < length l) c.deref-template-items.ensures.value c.loop-template-test.true in
    let added = c.in_ok-add.ensures (meant (take i ts)) c.loop-template.invariant.measured in
    record {
      measured = subst (λ ms. IsMeasured ms c.add.new.self) (sym (meant_more ts i x lt is)) added.1;
      none = still_none ts i x lt is c.loop-template.invariant.none added.0;
    }

pub returns-in_err-add-clause-refused : goal.returns-in_err-add-clause-refused
returns-in_err-add-clause-refused c =
    let x = c.template-item.result in
    let ts = c.args.grammar.now.templates.items in
    let i = c.loop-template.template-index in
    let is : get_or ts i x ≡ x = search rules in
    let lt = subst (λ l. i < length l) c.deref-template-items.ensures.value c.loop-template-test.true in
    let p = err_from_is_err_and c.from_residual-in_err-add.result c.from_residual-in_err-add.ensures.1 in
    rw (p.1, p.2) (refused_in ts i x c.in_err-add.field-0.0 lt is c.loop-template.invariant.none (c.in_err-add.ensures (meant (take i ts)) c.loop-template.invariant.measured))
