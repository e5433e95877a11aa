use Rattle.std.proofs.Common.{rules, arith, ◌≡◌, ◌≤◌, ◌∙◌, ap, sym, subst, List, Vec, Global, Some, None, length, take, get_or, map}
use Rattle.patr_model.specs.Build.{unknown_name}
use Rattle.patr_model.specs.Productions.{things}
use Rattle.patr_grammar.specs.declared.grammar.Element.{Element}
use Rattle.patr_grammar.specs.Levels.{features_seen}
use Rattle.patr_expand.specs.Seen.{cause_seen, same}
use Rattle.patr_expand.specs.Written.{choice_unknown, item_unknown}
use Rattle.patr_expand.proofs.Depths.{at_most, deepest, depth, depth_is, most}
use Rattle.patr_expand.proofs.Unknown.{first_of, found_at, in_choice, none_more, of_choice, of_row}
use Rattle.std.proofs.lemmas.List.{take_all}
use Rattle.patr_expand.proofs.names.Known.+unknown.Goals as goal

pub unknown-unknown_in_element-requires : goal.unknown-unknown_in_element-requires
unknown-unknown_in_element-requires t c =
    let x = c.element-item.result in
    let es = c.args.elements.now in
    let i = c.loop-element.element-index in
    let is : get_or es i x ≡ x = search rules in
    (omega (arith, c.decreases, at_most depth es i x c.loop-element-test.true is), tt)

pub unknown-returns-in-Some : goal.unknown-returns-in-Some
unknown-returns-in-Some t c = λ ms h.
    let x = c.element-item.result in
    let es = c.args.elements.now in
    let i = c.loop-element.element-index in
    let is : get_or es i x ≡ x = search rules in
    sym (of_row ms es ∙ found_at (item_unknown ms) es i x (cause_seen c.in-Some.cause) c.loop-element-test.true is (c.loop-element.invariant ms h) (sym (c.in-Some.ensures ms h)))

pub unknown-loop-element-preserved : goal.unknown-loop-element-preserved
unknown-loop-element-preserved t c = λ ms h.
    let x = c.element-item.result in
    let es = c.args.elements.now in
    let i = c.loop-element.element-index in
    let is : get_or es i x ≡ x = search rules in
    none_more (item_unknown ms) es i x c.loop-element-test.true is (c.loop-element.invariant ms h) (sym (c.in_default.ensures ms h))

pub unknown-returns : goal.unknown-returns
unknown-returns t c = λ ms h.
    let es = c.args.elements.now in
    let i = c.loop-element.element-index in
    let all : take i es ≡ es = take_all i es (omega (arith, c.loop-element-test.false)) in
    sym (of_row ms es ∙ subst (λ l. first_of (item_unknown ms) l ≡ None) all (c.loop-element.invariant ms h))

pub unknown_in_choice-unknown-requires : goal.unknown_in_choice-unknown-requires
unknown_in_choice-unknown-requires t c =
    let x = c.alternative-item.result in
    let vs = c.args.alternatives.now in
    let i = c.loop-alternative.alternative-index in
    let is : get_or vs i x ≡ x = search rules in
    let whole : Vec Element Global → _ = λ v. most (map depth v.items) in
    (omega (arith, c.decreases, at_most whole vs i x c.loop-alternative-test.true is, ap (λ (l : List Element). most (map depth l)) c.deref.ensures.value), tt)

pub unknown_in_choice-returns-in-Some : goal.unknown_in_choice-returns-in-Some
unknown_in_choice-returns-in-Some t c = λ ms h.
    let x = c.alternative-item.result in
    let vs = c.args.alternatives.now in
    let i = c.loop-alternative.alternative-index in
    let is : get_or vs i x ≡ x = search rules in
    let here = λ (v : Vec Element Global). unknown_name same ms (things (features_seen v.items)) in
    let found = c.in-Some.ensures ms h ∙ ap (λ l. unknown_name same ms (things (features_seen l))) c.deref.ensures.value in
    sym (of_choice ms vs ∙ found_at here vs i x (cause_seen c.in-Some.cause) c.loop-alternative-test.true is (c.loop-alternative.invariant ms h) (sym found))

pub unknown_in_choice-loop-alternative-preserved : goal.unknown_in_choice-loop-alternative-preserved
unknown_in_choice-loop-alternative-preserved t c = λ ms h.
    let x = c.alternative-item.result in
    let vs = c.args.alternatives.now in
    let i = c.loop-alternative.alternative-index in
    let is : get_or vs i x ≡ x = search rules in
    let here = λ (v : Vec Element Global). unknown_name same ms (things (features_seen v.items)) in
    let none = c.in_default.ensures ms h ∙ ap (λ l. unknown_name same ms (things (features_seen l))) c.deref.ensures.value in
    none_more here vs i x c.loop-alternative-test.true is (c.loop-alternative.invariant ms h) (sym none)

pub unknown_in_choice-returns : goal.unknown_in_choice-returns
unknown_in_choice-returns t c = λ ms h.
    let vs = c.args.alternatives.now in
    let i = c.loop-alternative.alternative-index in
    let all : take i vs ≡ vs = take_all i vs (omega (arith, c.loop-alternative-test.false)) in
    sym (of_choice ms vs ∙ subst (λ l. first_of (λ (v : Vec Element Global). unknown_name same ms (things (features_seen v.items))) l ≡ None) all (c.loop-alternative.invariant ms h))

pub unknown_in_element-unknown_in_choice-requires : goal.unknown_in_element-unknown_in_choice-requires
unknown_in_element-unknown_in_choice-requires t c =
    (omega (arith, c.decreases, ap depth c.in-OneOf.is, depth_is c.in-OneOf.alternatives, ap (deepest depth) c.deref.ensures.value), tt)

pub unknown_in_element-returns-in-OneOf : goal.unknown_in_element-returns-in-OneOf
unknown_in_element-returns-in-OneOf t c = λ ms h.
    let vs = c.in-OneOf.alternatives in
    c.unknown_in_choice.ensures ms h ∙ ap (choice_unknown ms) c.deref.ensures.value ∙ sym (in_choice ms vs) ∙ ap (item_unknown ms) (sym c.in-OneOf.is)
