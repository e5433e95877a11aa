use Rattle.std.proofs.Common.{◌≡◌, ◌≤◌, ◌∙◌, length, ap, subst, rules}
use Rattle.patr_library.proofs.Names.{AllByRecursion, shown_of, numbered_from, AreEntriesDealt, StaysAlone, all_variants_of, meant_by}
use Rattle.patr_library.proofs.Keeping.{all_alone, variants_are}
use Rattle.patr_library.proofs.entries.keep_one.Goals as goal

pub keep_variants-requires : goal.keep_variants-requires
keep_variants-requires c =
    let e = c.args.entry.now in
    let vs = c.in_ok-variants.variants.items in
    let body : c.deref.result.now ≡ e.features.items = search rules in
    let same : vs ≡ c.deref-2.result.now = search rules in
    record {
      few = subst (λ l. length l ≤ 256) same c.in_ok-variants.ensures.few;
      alone = subst (AllByRecursion (StaysAlone e)) same (all_alone (meant_by c.args.templates.now) e vs (variants_are (meant_by c.args.templates.now) e c.deref.result.now vs body c.in_ok-variants.ensures.variants));
    }

pub returns-clause-dealt : goal.returns-clause-dealt
returns-clause-dealt c =
    let e = c.args.entry.now in
    let vs = c.in_ok-variants.variants.items in
    let body : c.deref.result.now ≡ e.features.items = search rules in
    let same : c.deref-2.result.now ≡ vs = search rules in
    subst (λ ds. AreEntriesDealt (shown_of c.args.arena.now) (shown_of c.keep_variants.new.arena) ds c.args.items.now.items c.keep_variants.new.items.items)
    (ap (numbered_from c.args.number 0) (ap (all_variants_of e) same ∙ variants_are (meant_by c.args.templates.now) e c.deref.result.now vs body c.in_ok-variants.ensures.variants)) c.in_ok-keep_variants.ensures
