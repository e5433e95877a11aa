use Rattle.std.proofs.Common.{◌≡◌, ◌<◌, ◌≤◌, ◌*◌, ◌∙◌, ap, arith, length, sym, subst, refl, [], List}
use Rattle.patr_model.specs.Build.{longest}
use Rattle.patr_model.specs.Grammar.{single, variants}
use Rattle.patr_grammar.specs.declared.grammar.Item.{Item}
use Rattle.patr_grammar.specs.declared.grammar.Element.{Element}
use Rattle.patr_grammar.specs.Reading.{equations_seen, right_seen}
use Rattle.patr_expand.specs.Sizes.{IsRowSize, capped}
use Rattle.patr_expand.specs.Written.{written}
use Rattle.patr_expand.proofs.Rules.{all_begun, begun_more, placed, rule_size}
use Rattle.patr_expand.proofs.Variants.{small}
use Rattle.patr_expand.proofs.rule.expand.Goals as goal

pub returns-in-Some-clause-refused : goal.returns-in-Some-clause-refused
returns-in-Some-clause-refused c =
    let r = c.args.rule.now in
    let rights = c.right_count-rights.ensures ∙ ap (λ (l : List Item). capped (length (variants single (right_seen l)))) c.deref.ensures.value in
    let equations = subst (λ (l : List Element). IsRowSize (written [] l) c.size-written.result) c.deref-2.ensures.value (c.size-written.ensures [] c.in_ok-new.ensures) in
    let size = rule_size r c.right_count-rights.result c.size-written.result (record { variants = c.product.result; equations = c.size-written.result.equations }) rights equations c.product.ensures refl in
    sym (c.in-Some.ensures _ _ size)

pub overflow_cast-variant-end : goal.overflow_cast-variant-end
overflow_cast-variant-end c =
    let r = c.args.rule.now in
    let rights = c.right_count-rights.ensures ∙ ap (λ (l : List Item). capped (length (variants single (right_seen l)))) c.deref.ensures.value in
    let equations = subst (λ (l : List Element). IsRowSize (written [] l) c.size-written.result) c.deref-2.ensures.value (c.size-written.ensures [] c.in_ok-new.ensures) in
    let size = rule_size r c.right_count-rights.result c.size-written.result (record { variants = c.product.result; equations = c.size-written.result.equations }) rights equations c.product.ensures refl in
    let few : length (variants single (right_seen r.right.items)) * length (variants single (equations_seen r.equations.items)) ≤ 256 = small r.line _ (longest (λ e. 1) (equations_seen r.equations.items)) (sym (c.in_default.ensures _ _ size)) in
    omega (arith, size.variants, few)

pub rule_variant-requires : goal.rule_variant-requires
rule_variant-requires c =
    let r = c.args.rule.now in
    let rights = c.right_count-rights.ensures ∙ ap (λ (l : List Item). capped (length (variants single (right_seen l)))) c.deref.ensures.value in
    let equations = subst (λ (l : List Element). IsRowSize (written [] l) c.size-written.result) c.deref-2.ensures.value (c.size-written.ensures [] c.in_ok-new.ensures) in
    let size = rule_size r c.right_count-rights.result c.size-written.result (record { variants = c.product.result; equations = c.size-written.result.equations }) rights equations c.product.ensures refl in
    let few : length (variants single (right_seen r.right.items)) * length (variants single (equations_seen r.equations.items)) ≤ 256 = small r.line _ (longest (λ e. 1) (equations_seen r.equations.items)) (sym (c.in_default.ensures _ _ size)) in
    let lt : c.loop-variant.variant < length (variants single (right_seen r.right.items)) * length (variants single (equations_seen r.equations.items)) = omega (arith, c.loop-variant-test.true, size.variants, few) in
    placed r (record { rights = c.right_count-rights.result; equations = c.size-written.result.variants }) c.size-written.result c.size-written.result c.loop-variant.variant rights equations refl few lt

pub loop-variant-preserved : goal.loop-variant-preserved
loop-variant-preserved c =
    let r = c.args.rule.now in
    let rights = c.right_count-rights.ensures ∙ ap (λ (l : List Item). capped (length (variants single (right_seen l)))) c.deref.ensures.value in
    let equations = subst (λ (l : List Element). IsRowSize (written [] l) c.size-written.result) c.deref-2.ensures.value (c.size-written.ensures [] c.in_ok-new.ensures) in
    let size = rule_size r c.right_count-rights.result c.size-written.result (record { variants = c.product.result; equations = c.size-written.result.equations }) rights equations c.product.ensures refl in
    let few : length (variants single (right_seen r.right.items)) * length (variants single (equations_seen r.equations.items)) ≤ 256 = small r.line _ (longest (λ e. 1) (equations_seen r.equations.items)) (sym (c.in_default.ensures _ _ size)) in
    let lt : c.loop-variant.variant < length (variants single (right_seen r.right.items)) * length (variants single (equations_seen r.equations.items)) = omega (arith, c.loop-variant-test.true, size.variants, few) in
    begun_more c.args.number r c.loop-variant.variant c.loop-variant.variants.items c.push.new.self.items c.in_ok-made.made c.loop-variant.invariant c.in_ok-made.ensures lt c.in_ok-push.ensures.items

pub returns-clause-expanded : goal.returns-clause-expanded
returns-clause-expanded c =
    let r = c.args.rule.now in
    let rights = c.right_count-rights.ensures ∙ ap (λ (l : List Item). capped (length (variants single (right_seen l)))) c.deref.ensures.value in
    let equations = subst (λ (l : List Element). IsRowSize (written [] l) c.size-written.result) c.deref-2.ensures.value (c.size-written.ensures [] c.in_ok-new.ensures) in
    let size = rule_size r c.right_count-rights.result c.size-written.result (record { variants = c.product.result; equations = c.size-written.result.equations }) rights equations c.product.ensures refl in
    let few : length (variants single (right_seen r.right.items)) * length (variants single (equations_seen r.equations.items)) ≤ 256 = small r.line _ (longest (λ e. 1) (equations_seen r.equations.items)) (sym (c.in_default.ensures _ _ size)) in
    all_begun c.args.number r c.loop-variant.variant c.loop-variant.variants.items c.loop-variant.invariant (omega (arith, c.loop-variant-test.false, size.variants, few)) (sym (c.in_default.ensures _ _ size))
