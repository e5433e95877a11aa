-- The mother of a rule's variant, by the library's item.
use Rattle.std.proofs.Common.{◌≡◌, ℕ, ◌<◌, Some, slice_get, sym, ap, ◌∙◌, subst}
use Rattle.patr_reply.proofs.Names.{IsRuleItem, IsRuleOf, IsStored, RuleVariant, Stored, all_at, get_or_from_slice_get, mother_category, rule_variant, rules_of, some_inj}
use Rattle.patr_library.specs.declared.item.RuleItem.{RuleItem}

pub mother_of : (n : ℕ) (s : Stored) → IsStored s → (rule variant place : ℕ) → (of : IsRuleOf n s rule variant place) (x : RuleItem) → slice_get s.rules place ≡ Some x
    → (mother_category (rule_variant (rules_of s) rule variant) ≡ x.mother.0) × (x.mother.0 < n)
mother_of n s stored rule variant place of x at =
    let g = rules_of s in
    let item = all_at (IsRuleItem g s.shown) s.rules stored.rule_items place x at in
    let same : of.item_is ≡ x = some_inj of.item_is x (sym of.there ∙ at) in
    let rule_is : x.rule ≡ rule = ap (λ (y : RuleItem). y.rule) (sym same) ∙ of.same_rule in
    let variant_is : x.variant ≡ variant = ap (λ (y : RuleItem). y.variant) (sym same) ∙ of.same_variant in
    let is : rule_variant g x.rule x.variant ≡ Some of.variant_is = rw (rule_is, variant_is) of.is in
    let first : slice_get of.variant_is.categories 0 ≡ Some x.mother.0 = subst (λ (w : RuleVariant). slice_get w.categories 0 ≡ Some x.mother.0) (some_inj item.variant of.variant_is (sym item.is ∙ is)) item.mother in
    (ap mother_category of.is ∙ get_or_from_slice_get of.variant_is.categories 0 x.mother.0 0 first, all_at (λ c. c < n) of.variant_is.categories of.categories 0 x.mother.0 first)
