use Rattle.std.proofs.Common.{rules, arith, ◌≤◌, ◌<◌, ◌≡◌, ◌∙◌, ap, sym, subst, List, Vec, Global, length, get_or, map, take, ◌++◌, ◌∷◌, []}
use Rattle.patr_model.specs.Productions.{row, rows}
use Rattle.patr_grammar.specs.declared.grammar.Element.{Element}
use Rattle.patr_expand.specs.Sizes.{IsItemSize, IsRowSize, AreSizeOf}
use Rattle.patr_expand.specs.Written.{choice_written, element_written, written}
use Rattle.patr_expand.proofs.Depths.{at_most, deepest, depth, depth_is, most}
use Rattle.patr_expand.proofs.Written.{choice_is, map_more, row_sized, rows_sized}
use Rattle.patr_expand.proofs.measured.Measured.+sizes.Goals as goal

pub size-size_of_element-requires : goal.size-size_of_element-requires
size-size_of_element-requires t c =
    let x = c.element-item.result in
    let es = c.args.elements.now in
    let i = c.loop-element.element-index in
    let is : get_or es i x ≡ x = search rules in
    (omega (arith, c.decreases, at_most depth es i x c.loop-element-test.true is), tt)

pub size-loop-element-preserved : goal.size-loop-element-preserved
size-loop-element-preserved t c = λ ms h.
    let x = c.element-item.result in
    let es = c.args.elements.now in
    let i = c.loop-element.element-index in
    let is : get_or es i x ≡ x = search rules in
    let f = element_written ms in
    subst (λ xs. IsRowSize (row xs) c.then-size.result) (sym (map_more f es i x c.loop-element-test.true is))
    (row_sized (map f (take i es)) (f x) c.then-size.result (c.then-size.ensures _ _ _ _ (c.loop-element.invariant ms h) (c.size_of_element.ensures ms h)))

pub size_of_choice-size-requires : goal.size_of_choice-size-requires
size_of_choice-size-requires t c =
    let x = c.alternative-item.result in
    let vs = c.args.alternatives.now in
    let i = c.loop-alternative.alternative-index in
    let is : get_or vs i x ≡ x = search rules in
    let whole : Vec Element Global → _ = λ v. most (map depth v.items) in
    (omega (arith, c.decreases, at_most whole vs i x c.loop-alternative-test.true is, ap (λ (l : List Element). most (map depth l)) c.deref.ensures.value), tt)

pub size_of_choice-loop-alternative-preserved : goal.size_of_choice-loop-alternative-preserved
size_of_choice-loop-alternative-preserved t c = λ ms h.
    let x = c.alternative-item.result in
    let vs = c.args.alternatives.now in
    let i = c.loop-alternative.alternative-index in
    let is : get_or vs i x ≡ x = search rules in
    let f : Vec Element Global → _ = λ v. written ms v.items in
    let size = subst (λ l. IsRowSize (written ms l) c.size.result) c.deref.ensures.value (c.size.ensures ms h) in
    subst (λ rs. AreSizeOf (rows rs) c.or-size.result) (sym (map_more f vs i x c.loop-alternative-test.true is))
    (rows_sized (map f (take i vs)) (f x) c.or-size.result (c.or-size.ensures _ _ _ _ (c.loop-alternative.invariant ms h) size))

pub size_of_element-size_of_choice-requires : goal.size_of_element-size_of_choice-requires
size_of_element-size_of_choice-requires t c =
    (omega (arith, c.decreases, ap depth c.in-OneOf.is, depth_is c.in-OneOf.alternatives, ap (deepest depth) c.deref.ensures.value), tt)

pub size_of_element-returns-in-OneOf : goal.size_of_element-returns-in-OneOf
size_of_element-returns-in-OneOf t c = λ ms h.
    let vs = c.in-OneOf.alternatives in
    let r = c.size_of_choice.result in
    subst (λ e. IsItemSize (element_written ms e) r) (sym c.in-OneOf.is) (subst (λ x. IsItemSize x r) (sym (choice_is ms vs)) (subst (λ l. AreSizeOf (choice_written ms l) r) c.deref.ensures.value (c.size_of_choice.ensures ms h)))
