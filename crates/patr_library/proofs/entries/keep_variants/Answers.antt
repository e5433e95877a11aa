use Rattle.std.proofs.Common.{◌≡◌, ◌∙◌, ◌++◌, ◌∷◌, [], get_or, take, sym, ap, subst, rules, arith, Vec, Global}
use Rattle.patr_library.proofs.Names.{all_get, take_all, shown_of, numbered_from, AreEntriesDealt, IsEntryDealt, HasEntryItem, HasNoEntry, AreWithin, EntryVariant, StaysAlone, all_variants_of, variant_of}
use Rattle.patr_expand.specs.declared.equation.Equation.{Equation}
use Rattle.patr_library.proofs.Keeping.{none_dealt, one_dealt, entry_still, variant_more}
use Rattle.patr_library.proofs.entries.keep_variants.Goals as goal

pub loop-variant-init : goal.loop-variant-init
loop-variant-init c = none_dealt HasEntryItem HasNoEntry (shown_of c.args.arena.now) c.args.items.now.items

pub keep_variant-requires : goal.keep_variant-requires
keep_variant-requires c =
    let x = c.index-variants-variant.result in
    let xs = c.args.variants.now in
    let i = c.loop-variant.variant in
    let is : get_or xs i x ≡ x = search rules in
    let body : x.items ≡ c.deref.result.now = search rules in
    subst (λ es. AreWithin 1 (variant_of c.args.entry.now es).equations) body (subst (StaysAlone c.args.entry.now) is (all_get (StaysAlone c.args.entry.now) xs i x c.requires.alone c.loop-variant-test.true))

pub loop-variant-preserved : goal.loop-variant-preserved
loop-variant-preserved c =
    let x = c.index-variants-variant.result in
    let xs = c.args.variants.now in
    let i = c.loop-variant.variant in
    let n = c.args.number in
    let f : Vec Equation Global → EntryVariant = λ es. variant_of c.args.entry.now es.items in
    let v = shown_of c.args.arena.now in
    let w = shown_of c.loop-variant.arena in
    let u = shown_of c.keep_variant.new.arena in
    let ds = numbered_from n 0 (all_variants_of c.args.entry.now (take i xs)) in
    let is : get_or xs i x ≡ x = search rules in
    let body : c.deref.result.now ≡ x.items = search rules in
    let dealt : IsEntryDealt w u n i (f x) c.loop-variant.items.items c.keep_variant.new.items.items =
    subst (λ es. IsEntryDealt w u n i (variant_of c.args.entry.now es) c.loop-variant.items.items c.keep_variant.new.items.items) body c.in_ok-keep_variant.ensures in
    subst (λ l. AreEntriesDealt v u l c.args.items.now.items c.keep_variant.new.items.items) (sym (variant_more f n xs i x c.loop-variant-test.true ∙ ap (λ y. ds ++ (n, i, f y) ∷ []) is))
    (one_dealt HasEntryItem HasNoEntry entry_still v w u ds (n, i, f x) c.args.items.now.items c.loop-variant.items.items c.keep_variant.new.items.items c.loop-variant.invariant dealt)

pub returns : goal.returns
returns c =
    let xs = c.args.variants.now in
    let l = c.loop-variant in
    let all : take l.variant xs ≡ xs = take_all l.variant xs (omega (arith, c.loop-variant-test.false)) in
    subst (λ ys. AreEntriesDealt (shown_of c.args.arena.now) (shown_of l.arena) (numbered_from c.args.number 0 (all_variants_of c.args.entry.now ys)) c.args.items.now.items l.items.items) all l.invariant
