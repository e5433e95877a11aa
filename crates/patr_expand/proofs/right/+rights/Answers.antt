use Rattle.std.proofs.Common.{rules, arith, append-nil, ◌+◌, ◌≤◌, ◌<◌, ◌≡◌, ◌/◌, ◌++◌, ◌∷◌, [], ◌∙◌, ap, sym, subst, List, Vec, Global, length, get_or, map, take, drop, refl}
use Rattle.std.proofs.lemmas.List.{length-append, map_push}
use Rattle.std.proofs.Math.ListN.{drop_of_length-le}
use Rattle.std.proofs.lemmas.Result.{IfOk-weaker}
use Rattle.patr_model.specs.Grammar.{single, variants, variants_of}
use Rattle.patr_grammar.specs.declared.grammar.Item.{Item}
use Rattle.patr_grammar.specs.Levels.{item_seen, right_seen, symbol_seen}
use Rattle.patr_expand.specs.Seen.{rights_seen, symbols_seen}
use Rattle.patr_expand.specs.Sizes.{capped, item_variants}
use Rattle.patr_expand.specs.Frames.{IsPlace, variant_at}
use Rattle.patr_expand.proofs.Counted.{choice_variants, drop_here, optional_variants, only_first, symbol_variants, tail_more, tail_parts, with_none}
use Rattle.patr_expand.proofs.Depths.{at_most, choice_depth, deepest, item_depth, most, optional_depth}
use Rattle.patr_expand.proofs.Rests.{IsRest, none_left, taken}
use Rattle.patr_expand.proofs.right.+rights.Goals as goal

pub push_choice-push_right-requires : goal.push_choice-push_right-requires
push_choice-push_right-requires t c =
    let x = c.alternative-item.result in
    let vs = c.args.alternatives.now in
    let i = c.loop-alternative.alternative-index in
    let is : get_or vs i x ≡ x = search rules in
    let n = c.args.number in
    let m = c.loop-alternative.number in
    let rest = subst (λ l. IsRest (rights_seen vs) n (rights_seen l) m) (drop_here vs i x c.loop-alternative-test.true is) c.loop-alternative.invariant.rest in
    let count = c.right_count-count.ensures ∙ ap (λ l. capped (length (variants single (right_seen l)))) c.deref.ensures.value in
    let it = taken (rights_seen vs) n (right_seen x.items) (rights_seen (drop (i + 1) vs)) m c.right_count-count.result rest count c.if-number-count.true in
    let whole : Vec Item Global → _ = λ v. most (map item_depth v.items) in (
      omega (arith, c.decreases, at_most whole vs i x c.loop-alternative-test.true is, ap (λ (l : List Item). most (map item_depth l)) c.deref-then-number-count.ensures.value),
      subst (λ l. IsPlace (right_seen l) c.right_count-count.result m) (sym c.deref-then-number-count.ensures.value) it.place,
    )

pub push_choice-returns-then-number-count : goal.push_choice-returns-then-number-count
push_choice-returns-then-number-count t c =
    let x = c.alternative-item.result in
    let vs = c.args.alternatives.now in
    let i = c.loop-alternative.alternative-index in
    let is : get_or vs i x ≡ x = search rules in
    let n = c.args.number in
    let m = c.loop-alternative.number in
    let rest = subst (λ l. IsRest (rights_seen vs) n (rights_seen l) m) (drop_here vs i x c.loop-alternative-test.true is) c.loop-alternative.invariant.rest in
    let count = c.right_count-count.ensures ∙ ap (λ l. capped (length (variants single (right_seen l)))) c.deref.ensures.value in
    let it = taken (rights_seen vs) n (right_seen x.items) (rights_seen (drop (i + 1) vs)) m c.right_count-count.result rest count c.if-number-count.true in
    let at = ap (λ l. variant_at (right_seen l) m) c.deref-then-number-count.ensures.value ∙ it.same in
    let old = ap symbols_seen c.loop-alternative.invariant.found in
    IfOk-weaker c.push_right.result _ _ (λ u h. h ∙ (λ j. old j ++ at j)) c.push_right.ensures

pub push_choice-returns : goal.push_choice-returns
push_choice-returns t c =
    let vs = c.args.alternatives.now in
    let i = c.loop-alternative.alternative-index in
    let none : drop i vs ≡ [] = drop_of_length-le vs (omega (arith, c.loop-alternative-test.false)) in
    let rest = subst (λ l. IsRest (rights_seen vs) c.args.number (rights_seen l) c.loop-alternative.number) none c.loop-alternative.invariant.rest in
    let old = ap symbols_seen c.loop-alternative.invariant.found in
    old ∙ sym (append-nil (symbols_seen c.args.found.now.items)) ∙ ap (λ l. symbols_seen c.args.found.now.items ++ l) (none_left (rights_seen vs) c.args.number c.loop-alternative.number rest)

pub push_item-push_choice-requires : goal.push_item-push_choice-requires
push_item-push_choice-requires t c =
    let all = ap (λ i. length (item_variants (item_seen i))) c.in-Optional.is ∙ ap length (optional_variants c.in-Optional.alternatives) in
    let same = ap (λ l. length (variants_of single (rights_seen l))) c.deref.ensures.value in (
      omega (arith, c.decreases, ap item_depth c.in-Optional.is, optional_depth c.in-Optional.alternatives, ap (deepest item_depth) c.deref.ensures.value),
      omega (arith, c.requires.few, all, same, length-append (variants_of single (rights_seen c.in-Optional.alternatives.items)) ([] ∷ [])),
    )

pub push_item-push_choice-requires-in-OneOf : goal.push_item-push_choice-requires-in-OneOf
push_item-push_choice-requires-in-OneOf t c =
    let all = ap (λ i. length (item_variants (item_seen i))) c.in-OneOf.is ∙ ap length (choice_variants c.in-OneOf.alternatives) in
    let same = ap (λ l. length (variants_of single (rights_seen l))) c.deref-in-OneOf.ensures.value in
    (omega (arith, c.decreases, ap item_depth c.in-OneOf.is, choice_depth c.in-OneOf.alternatives, ap (deepest item_depth) c.deref-in-OneOf.ensures.value), omega (arith, c.requires.few, all, same))

pub push_item-returns-in_ok-push-in-Symbol : goal.push_item-returns-in_ok-push-in-Symbol
push_item-returns-in_ok-push-in-Symbol t c =
    let s = c.in-Symbol.symbol in
    let all = ap (λ i. item_variants (item_seen i)) c.in-Symbol.is ∙ symbol_variants s in
    let one : c.args.number < 1 = subst (λ vs. c.args.number < length vs) all c.requires.below in
    ap symbols_seen c.in_ok-push-in-Symbol.ensures.items ∙ map_push symbol_seen c.args.found.now.items s
    ∙ ap (λ l. symbols_seen c.args.found.now.items ++ l) (sym (ap (λ vs. get_or vs c.args.number []) all ∙ only_first (symbol_seen s ∷ []) c.args.number one))

pub push_item-returns-in-Optional : goal.push_item-returns-in-Optional
push_item-returns-in-Optional t c =
    let all = ap (λ i. get_or (item_variants (item_seen i)) c.args.number []) c.in-Optional.is ∙ ap (λ vs. get_or vs c.args.number []) (optional_variants c.in-Optional.alternatives) ∙ with_none (variants_of single (rights_seen c.in-Optional.alternatives.items)) c.args.number in
    let same = ap (λ l. get_or (variants_of single (rights_seen l)) c.args.number []) c.deref.ensures.value in
    IfOk-weaker c.push_choice.result _ _ (λ u h. h ∙ ap (λ l. symbols_seen c.args.found.now.items ++ l) (same ∙ sym all)) c.push_choice.ensures

pub push_item-returns-in-OneOf : goal.push_item-returns-in-OneOf
push_item-returns-in-OneOf t c =
    let all = ap (λ i. get_or (item_variants (item_seen i)) c.args.number []) c.in-OneOf.is ∙ ap (λ vs. get_or vs c.args.number []) (choice_variants c.in-OneOf.alternatives) in
    let same = ap (λ l. get_or (variants_of single (rights_seen l)) c.args.number []) c.deref-in-OneOf.ensures.value in
    IfOk-weaker c.push_choice-in-OneOf.result _ _ (λ u h. h ∙ ap (λ l. symbols_seen c.args.found.now.items ++ l) (same ∙ sym all)) c.push_choice-in-OneOf.ensures

pub push_right-nonzero_div-number : goal.push_right-nonzero_div-number
push_right-nonzero_div-number t c =
    let x = c.item-item.result in
    let xs = c.args.items.now in
    let i = c.loop-item.item-index in
    let is : get_or xs i x ≡ x = search rules in
    let l = c.loop-item in
    (tail_parts xs c.args.found.now.items l.found.items c.args.number l.count l.number i x c.loop-item-test.true is l.invariant c.count_of_item-count.result c.count_of_item-count.ensures).behind_some

pub push_right-push_item-requires : goal.push_right-push_item-requires
push_right-push_item-requires t c =
    let x = c.item-item.result in
    let xs = c.args.items.now in
    let i = c.loop-item.item-index in
    let is : get_or xs i x ≡ x = search rules in
    let l = c.loop-item in
    let p = tail_parts xs c.args.found.now.items l.found.items c.args.number l.count l.number i x c.loop-item-test.true is l.invariant c.count_of_item-count.result c.count_of_item-count.ensures in
    (omega (arith, c.decreases, at_most item_depth xs i x c.loop-item-test.true is), (p.few, p.below))

pub push_right-nonzero_rem-number : goal.push_right-nonzero_rem-number
push_right-nonzero_rem-number t c =
    let x = c.item-item.result in
    let xs = c.args.items.now in
    let i = c.loop-item.item-index in
    let is : get_or xs i x ≡ x = search rules in
    let l = c.loop-item in
    (tail_parts xs c.args.found.now.items l.found.items c.args.number l.count l.number i x c.loop-item-test.true is l.invariant c.count_of_item-count.result c.count_of_item-count.ensures).behind_some

pub push_right-loop-item-preserved : goal.push_right-loop-item-preserved
push_right-loop-item-preserved t c =
    let x = c.item-item.result in
    let xs = c.args.items.now in
    let i = c.loop-item.item-index in
    let is : get_or xs i x ≡ x = search rules in
    let l = c.loop-item in
    tail_more xs c.args.found.now.items l.found.items c.args.number l.count l.number i x c.loop-item-test.true is l.invariant c.count_of_item-count.result c.push_item.new.found.items c.count_of_item-count.ensures c.in_ok-push_item.ensures
