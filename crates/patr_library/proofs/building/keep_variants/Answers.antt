use Rattle.std.proofs.Common.{◌≡◌, ◌∙◌, ◌+◌, ◌++◌, ◌∷◌, [], sym, ap, subst, arith, take}
use Rattle.patr_library.proofs.Names.{all_get, take_all, shown_of, variant_at, AreRulesDealt, HasNoRule, HasRuleItem, StaysWithin, numbered}
use Rattle.patr_library.proofs.Keeping.{none_dealt, one_dealt, rule_still, numbered_more}
use Rattle.patr_library.proofs.building.keep_variants.Goals as goal

pub loop-variant-init : goal.loop-variant-init
loop-variant-init c = none_dealt HasRuleItem HasNoRule (shown_of c.args.arena.now) c.args.items.now.items

pub keep_rule-requires : goal.keep_rule-requires
keep_rule-requires c =
    subst StaysWithin (sym c.variant-item.is) (all_get StaysWithin c.args.variants.now c.loop-variant.variant-index c.variant-item.result c.requires c.loop-variant-test.true)

pub loop-variant-preserved : goal.loop-variant-preserved
loop-variant-preserved c =
    let xs = c.args.variants.now in
    let i = c.loop-variant.variant-index in
    let x = c.variant-item.result in
    let v = shown_of c.args.arena.now in
    let u = shown_of c.keep_rule.new.arena in
    let is : numbered (take (i + 1) xs) ≡ numbered (take i xs) ++ (x.rule, x.variant, variant_at x) ∷ [] =
    numbered_more xs i x c.loop-variant-test.true ∙ ap (λ y. numbered (take i xs) ++ (y.rule, y.variant, variant_at y) ∷ []) (sym c.variant-item.is) in
    subst (λ ds. AreRulesDealt v u ds c.args.items.now.items c.keep_rule.new.items.items) (sym is)
    (one_dealt HasRuleItem HasNoRule rule_still v (shown_of c.loop-variant.arena) u (numbered (take i xs)) (x.rule, x.variant, variant_at x) c.args.items.now.items c.loop-variant.items.items c.keep_rule.new.items.items c.loop-variant.invariant c.in_ok-keep_rule.ensures)

pub returns : goal.returns
returns c =
    let xs = c.args.variants.now in
    let l = c.loop-variant in
    let all : take l.variant-index xs ≡ xs = take_all l.variant-index xs (omega (arith, c.loop-variant-test.false, l.auto.variant-index-end)) in
    subst (λ ys. AreRulesDealt (shown_of c.args.arena.now) (shown_of l.arena) (numbered ys) c.args.items.now.items l.items.items) all l.invariant
