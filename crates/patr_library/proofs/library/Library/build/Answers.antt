use Rattle.std.proofs.Common.{◌≡◌, ◌∙◌, None, Some, ap, arith, length, map, refl, sym, subst, rules}
use Rattle.patr_library.proofs.Names.{length-map, build_fault, same, Id, shown_of, EntryItem, RuleItem, AreOfEntries, HasItems, built_rules, entries_of, grammar_of, word_at}
use Rattle.patr_library.proofs.Merged.{entries_there, mothers_found, words_found}
use Rattle.patr_library.proofs.library.Library.build.Goals as goal

pub invariant_of-result : goal.invariant_of-result
invariant_of-result c =
    let grammar = c.args.grammar in
    let l = c.args.lexicon in
    let made = c.in_ok-items.items in
    let ms = c.deref-2.result.now in
    let ws = c.deref-4.result.now in
    let mothers_are : ms ≡ c.in_ok-mothers.field-0.items = search rules in
    let of_rules : c.deref.result.now ≡ made.rules.items = search rules in
    let words_are : ws ≡ c.in_ok-words.field-0.items = search rules in
    let of_entries : c.deref-3.result.now ≡ made.entries.items = search rules in
    record {
      items = subst (λ es. HasItems (built_rules grammar es) (shown_of made.arena) made.rules.items made.entries.items) c.entries.ensures.entries c.in_ok-items.ensures.items;
      found = record {
        by_mother = λ m. c.in_ok-by_mother.ensures m ∙ mothers_found m ms made.rules.items (mothers_are ∙ (c.in_ok-mothers.ensures ∙ ap (map (λ (i : RuleItem). i.mother)) of_rules));
        by_word = λ w.
            c.in_ok-by_word.ensures w
            ∙ words_found l w ws made.entries.items
            (ap (map (λ (key : Id). Some key.0)) words_are
            ∙ (c.in_ok-words.ensures
            ∙ (ap (λ es. map (λ (i : EntryItem). word_at es i.entry) c.deref-3.result.now) c.entries-2.ensures.entries ∙ ap (map (λ (i : EntryItem). word_at l i.entry)) of_entries)));
      };
    }

pub words-requires : goal.words-requires
words-requires c =
    let grammar = c.args.grammar in
    let l = c.args.lexicon in
    let made = c.in_ok-items.items in
    let of_entries : c.deref-3.result.now ≡ made.entries.items = search rules in
    let items = subst (λ es. HasItems (built_rules grammar es) (shown_of made.arena) made.rules.items made.entries.items) c.entries.ensures.entries c.in_ok-items.ensures.items in
    subst (λ es. AreOfEntries (length es) c.deref-3.result.now) (sym c.entries-2.ensures.entries) (subst (AreOfEntries (length l)) (sym of_entries) (entries_there grammar l (shown_of made.arena) made.entries.items items.entry_items))

pub index_of-requires : goal.index_of-requires
index_of-requires c =
    let made = c.in_ok-items.items in
    let mothers_are : c.deref-2.result.now ≡ c.in_ok-mothers.field-0.items = search rules in
    let of_rules : c.deref.result.now ≡ made.rules.items = search rules in
    omega (arith, ap length mothers_are, ap length c.in_ok-mothers.ensures, length-map c.deref.result.now (λ (i : RuleItem). i.mother), ap length of_rules, c.in_ok-items.ensures.few.0)

pub index_of-requires-2 : goal.index_of-requires-2
index_of-requires-2 c =
    let made = c.in_ok-items.items in
    let l = c.entries-2.result.now in
    let words_are : c.deref-4.result.now ≡ c.in_ok-words.field-0.items = search rules in
    let of_entries : c.deref-3.result.now ≡ made.entries.items = search rules in
    omega (
      arith,
      ap length words_are,
      ap length c.in_ok-words.ensures,
      length-map c.in_ok-words.field-0.items (λ (key : Id). Some key.0),
      length-map c.deref-3.result.now (λ (i : EntryItem). word_at l i.entry),
      ap length of_entries,
      c.in_ok-items.ensures.few.1,
    )

pub returns-clause-built : goal.returns-clause-built
returns-clause-built c = record {
  grammar = refl;
  lexicon = refl;
  faultless = subst (λ es. build_fault same (grammar_of c.args.grammar) (entries_of es) ≡ None) c.entries.ensures.entries c.in_ok-items.ensures.faultless;
}
