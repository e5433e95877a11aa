use Rattle.std.proofs.Common.{◌≡◌, ◌∙◌, List, Some, slice_get, ap, sym, subst, rules}
use Rattle.patr_library.proofs.Names.{all_at, IsHeld, Shown, RuleItem, IsRuleItem, rules_of}
use Rattle.patr_library.proofs.tests.first_rule_is.Goals as goal

pub is_same-requires-clause-held : goal.is_same-requires-clause-held
is_same-requires-clause-held c =
    let s = c.args.library.now in
    let i = c.in-Some.item.now in
    let first : slice_get c.rules.result.now 0 ≡ Some i = search rules in
    subst (λ (v : Shown). IsHeld v i.root.block i.root.offset) (sym c.arena.ensures) (all_at (IsRuleItem (rules_of s) s.shown) s.rules c.rules.ensures.stored.rule_items 0 i (ap (λ (xs : List RuleItem). slice_get xs 0) (sym c.rules.ensures.same) ∙ first)).held
