use Rattle.std.proofs.Common.{◌≡◌, ◌∙◌, ap, sym, arith, length, map, subst, None}
use Rattle.patr_library.proofs.Names.{shown_of, AreRulesDealt, all_numbered, variants_of, AreEntriesDealt, entry_variants_of, IsRefusedBy, entries_fault, entries_of, grammar_fault, grammar_first, grammar_of, meant, same}
use Rattle.patr_library.proofs.Merged.{has_items, no_template, template_refused}
use Rattle.patr_library.proofs.making.all_items.Goals as goal

pub returns-in-Err-clause-refused : goal.returns-in-Err-clause-refused
returns-in-Err-clause-refused c = c.in_grammar.ensures c.args.grammar.now c.args.lexicon.now (template_refused c.args.grammar.now c.in-Err.fault c.in-Err.ensures.refused)

pub returns-in-Err-keep_rules-clause-refused : goal.returns-in-Err-keep_rules-clause-refused
returns-in-Err-keep_rules-clause-refused c =
    let g = c.args.grammar.now in
    c.in_grammar-in-Err-keep_rules.ensures g c.args.lexicon.now (subst (λ f. IsRefusedBy f c.in-Err-keep_rules.fault) (sym (no_template g c.in-Ok.ensures.faultless)) c.in-Err-keep_rules.ensures.refused)

pub returns-in-Err-keep_entries-clause-refused : goal.returns-in-Err-keep_entries-clause-refused
returns-in-Err-keep_entries-clause-refused c =
    let g = c.args.grammar.now in
    let l = c.args.lexicon.now in
    c.in_lexicon.ensures g l (no_template g c.in-Ok.ensures.faultless ∙ c.in_default.ensures.faultless)
    (subst (λ ms. IsRefusedBy (entries_fault same ms (entries_of l)) c.in-Err-keep_entries.fault) c.in-Ok.ensures.meant c.in-Err-keep_entries.ensures.refused)

pub returns-clause-items : goal.returns-clause-items
returns-clause-items c =
    let grammar = c.args.grammar.now in
    let l = c.args.lexicon.now in
    let u = shown_of c.new-arena.result in
    let v = shown_of c.keep_rules.new.arena in
    let w = shown_of c.keep_entries.new.arena in
    let rules = c.keep_rules.new.items.items in
    let entries = c.keep_entries.new.items.items in
    has_items grammar l u v w rules entries c.keep_entries.new.arena.lawful
    (subst (λ xs. AreRulesDealt u v (all_numbered 0 (map variants_of grammar.rules.items)) xs rules) c.new-rules.ensures.items c.in_default.ensures.dealt)
    (subst (λ xs. AreEntriesDealt v w (all_numbered 0 (map (entry_variants_of (meant grammar.templates.items)) l)) xs entries) c.new-entries.ensures.items
    (subst (λ ms. AreEntriesDealt v w (all_numbered 0 (map (entry_variants_of ms) l)) c.new-entries.result.items entries) c.in-Ok.ensures.meant c.in_default-keep_entries.ensures.dealt))

pub returns-clause-few : goal.returns-clause-few
returns-clause-few c =
    let r = c.in_default.ensures.dealt.blocks in
    let e = c.in_default-keep_entries.ensures.dealt.blocks in
    let rules = ap length c.new-rules.ensures.items in
    let entries = ap length c.new-entries.ensures.items in
    (omega (arith, r, e, rules, entries, c.blocks-2.ensures), omega (arith, r, e, rules, entries, c.blocks-2.ensures))

pub returns-clause-faultless : goal.returns-clause-faultless
returns-clause-faultless c =
    let g = c.args.grammar.now in
    let l = c.args.lexicon.now in
    let grammar : grammar_fault same (grammar_of g) ≡ None = no_template g c.in-Ok.ensures.faultless ∙ c.in_default.ensures.faultless in
    let lexicon : entries_fault same (meant g.templates.items) (entries_of l) ≡ None = subst (λ ms. entries_fault same ms (entries_of l) ≡ None) c.in-Ok.ensures.meant c.in_default-keep_entries.ensures.faultless in
    λ i. grammar_first (grammar i) (lexicon i)
