use Rattle.std.proofs.Common.{◌≡◌, ◌∙◌, ap, subst, rules}
use Rattle.patr_library.proofs.Names.{AllByRecursion, get_there, shown_of, AreRulesDealt, StaysWithin, numbered, numbered_from}
use Rattle.patr_library.proofs.Keeping.{numbered_is, variants_within}
use Rattle.patr_library.proofs.building.keep_one.Goals as goal

pub keep_variants-requires : goal.keep_variants-requires
keep_variants-requires c =
    let r = get_there c.args.grammar.now.rules.items c.args.rule c.requires in
    let same : c.in_ok-variants.variants.items ≡ c.deref.result.now = search rules in
    subst (AllByRecursion StaysWithin) same (variants_within r.0 c.in_ok-variants.variants.items (c.in_ok-variants.ensures.expanded r.0 r.1).variants)

pub returns-clause-dealt : goal.returns-clause-dealt
returns-clause-dealt c =
    λ r h.
    let e = c.in_ok-variants.ensures.expanded r h in
    let same : c.deref.result.now ≡ c.in_ok-variants.variants.items = search rules in
    let is = ap numbered same ∙ (numbered_is c.args.rule 0 c.in_ok-variants.variants.items e.numbered ∙ ap (numbered_from c.args.rule 0) e.variants) in
    subst (λ ds. AreRulesDealt (shown_of c.args.arena.now) (shown_of c.keep_variants.new.arena) ds c.args.items.now.items c.keep_variants.new.items.items) is c.in_ok-keep_variants.ensures
