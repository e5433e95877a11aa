use Rattle.std.proofs.Common.{rules, arith, ◌≤◌, ◌<◌, ◌≡◌, ◌∙◌, ap, sym, List, Vec, Global, length, get_or, map, take, [], ◌∷◌}
use Rattle.patr_model.specs.Grammar.{single, variants, variants_of}
use Rattle.patr_grammar.specs.declared.grammar.Item.{Item}
use Rattle.patr_grammar.specs.Levels.{item_seen, right_seen}
use Rattle.patr_expand.specs.Seen.{rights_seen}
use Rattle.patr_expand.specs.Sizes.{capped, item_variants}
use Rattle.std.proofs.lemmas.List.{length-append}
use Rattle.patr_expand.proofs.Counted.{choice_variants, optional_variants, right_more, rights_more}
use Rattle.patr_expand.proofs.Depths.{at_most, choice_depth, deepest, item_depth, most, optional_depth}
use Rattle.patr_expand.proofs.right.+count.Goals as goal

pub right_count-count_of_item-requires : goal.right_count-count_of_item-requires
right_count-count_of_item-requires t c =
    let x = c.item-item.result in
    let xs = c.args.items.now in
    let i = c.loop-item.item-index in
    let is : get_or xs i x ≡ x = search rules in
    (omega (arith, c.decreases, at_most item_depth xs i x c.loop-item-test.true is), tt)

pub right_count-loop-item-preserved : goal.right_count-loop-item-preserved
right_count-loop-item-preserved t c =
    let x = c.item-item.result in
    let xs = c.args.items.now in
    let i = c.loop-item.item-index in
    let is : get_or xs i x ≡ x = search rules in
    right_more xs i x c.loop-item.count c.count_of_item.result c.product-count.result c.loop-item-test.true is c.loop-item.invariant c.count_of_item.ensures c.product-count.ensures

pub count_of_choice-right_count-requires : goal.count_of_choice-right_count-requires
count_of_choice-right_count-requires t c =
    let x = c.alternative-item.result in
    let vs = c.args.alternatives.now in
    let i = c.loop-alternative.alternative-index in
    let is : get_or vs i x ≡ x = search rules in
    let whole : Vec Item Global → _ = λ v. most (map item_depth v.items) in
    (omega (arith, c.decreases, at_most whole vs i x c.loop-alternative-test.true is, ap (λ (l : List Item). most (map item_depth l)) c.deref.ensures.value), tt)

pub count_of_choice-loop-alternative-preserved : goal.count_of_choice-loop-alternative-preserved
count_of_choice-loop-alternative-preserved t c =
    let x = c.alternative-item.result in
    let vs = c.args.alternatives.now in
    let i = c.loop-alternative.alternative-index in
    let is : get_or vs i x ≡ x = search rules in
    let here = c.right_count.ensures ∙ ap (λ l. capped (length (variants single (right_seen l)))) c.deref.ensures.value in
    rights_more vs i x c.loop-alternative.count c.right_count.result c.sum-count.result c.loop-alternative-test.true is c.loop-alternative.invariant here c.sum-count.ensures

pub count_of_item-count_of_choice-requires : goal.count_of_item-count_of_choice-requires
count_of_item-count_of_choice-requires t c =
    (omega (arith, c.decreases, ap item_depth c.in-Optional.is, optional_depth c.in-Optional.alternatives, ap (deepest item_depth) c.deref.ensures.value), tt)

pub count_of_item-count_of_choice-requires-in-OneOf : goal.count_of_item-count_of_choice-requires-in-OneOf
count_of_item-count_of_choice-requires-in-OneOf t c =
    (omega (arith, c.decreases, ap item_depth c.in-OneOf.is, choice_depth c.in-OneOf.alternatives, ap (deepest item_depth) c.deref-in-OneOf.ensures.value), tt)

pub count_of_item-returns-in-Optional : goal.count_of_item-returns-in-Optional
count_of_item-returns-in-Optional t c =
    let vs = variants_of single (rights_seen c.in-Optional.alternatives.items) in
    let all = ap (λ i. length (item_variants (item_seen i))) c.in-Optional.is ∙ ap length (optional_variants c.in-Optional.alternatives) in
    let here = c.count_of_choice.ensures ∙ ap (λ l. capped (length (variants_of single (rights_seen l)))) c.deref.ensures.value in
    omega (arith, all, here, c.sum.ensures, length-append vs ([] ∷ []))

pub count_of_item-returns-in-OneOf : goal.count_of_item-returns-in-OneOf
count_of_item-returns-in-OneOf t c =
    let all = ap (λ i. length (item_variants (item_seen i))) c.in-OneOf.is ∙ ap length (choice_variants c.in-OneOf.alternatives) in
    c.count_of_choice-in-OneOf.ensures ∙ ap (λ l. capped (length (variants_of single (rights_seen l)))) c.deref-in-OneOf.ensures.value ∙ ap capped (sym all)
