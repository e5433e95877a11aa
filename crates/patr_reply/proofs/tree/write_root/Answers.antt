use Rattle.std.proofs.Common.{◌≡◌, length, sym, ap, ◌∙◌, subst}
use Rattle.patr_reply.proofs.Names.{IfOk-weaker, IsEntryOf, IsOfLibrary, look_by, rules_of, some_inj, string_bytes}
use lib.Utf8.{encode}
use Rattle.patr_lexicon.specs.declared.lexicon.Entry.{Entry}
use Rattle.patr_reply.proofs.TreeText.{entry_written, rule_written}
use Rattle.patr_reply.proofs.tree.write_root.Goals as goal

pub returns-in_ok-push-in-Entry : goal.returns-in_ok-push-in-Entry
unfolding encode
returns-in_ok-push-in-Entry c =
    let of : IsEntryOf (length c.args.symbols.now) c.args.library.now c.in-Entry.entry c.in-Entry.variant = subst (IsOfLibrary (length c.args.symbols.now) c.args.library.now) c.in-Entry.is c.requires in
    let x = c.entry_at-entry.result.now in
    let same : of.entry_is ≡ x = some_inj of.entry_is x (sym of.there ∙ c.entry_at-entry.ensures) in
    IfOk-weaker c.write_symbol-in-Entry.result _ _
    (λ _ h names agrees. rw c.in-Entry.is (entry_written (look_by names) (rules_of c.args.library.now) c.in-Entry.entry c.in-Entry.variant x.category.0 x.word.0
    (of.same_category ∙ ap (λ (y : Entry). y.category.0) same) (of.same_word ∙ ap (λ (y : Entry). y.word.0) same)
    (string_bytes c.args.out.now) (string_bytes c.push.new.self) (string_bytes c.write_symbol.new.out) (string_bytes c.push-in-Entry.new.self) (string_bytes c.write_symbol-in-Entry.new.out)
    c.in_ok-push.ensures.bytes (c.in_ok-write_symbol-in-Entry.ensures names agrees) c.in_ok-push-in-Entry.ensures.bytes (h names agrees))) c.write_symbol-in-Entry.ensures

pub write_symbol-requires-in-Rule : goal.write_symbol-requires-in-Rule
write_symbol-requires-in-Rule c = (c.rule_item-item.ensures (length c.args.symbols.now) c.in-Rule.rule c.in-Rule.variant (subst (IsOfLibrary (length c.args.symbols.now) c.args.library.now) c.in-Rule.is c.requires)).1

pub returns-in-Rule : goal.returns-in-Rule
unfolding encode
returns-in-Rule c =
    let mother = c.rule_item-item.ensures (length c.args.symbols.now) c.in-Rule.rule c.in-Rule.variant (subst (IsOfLibrary (length c.args.symbols.now) c.args.library.now) c.in-Rule.is c.requires) in
    IfOk-weaker c.write_symbol-in-Rule.result _ _
    (λ _ h names agrees. rw c.in-Rule.is (rule_written (look_by names) (rules_of c.args.library.now) c.in-Rule.rule c.in-Rule.variant c.in-Rule.item c.in-Rule.seen c.in-Rule.slots c.rule_item-item.result.now.mother.0
    mother.0 (string_bytes c.args.out.now) (string_bytes c.push.new.self) (string_bytes c.write_symbol-in-Rule.new.out) c.in_ok-push.ensures.bytes (h names agrees))) c.write_symbol-in-Rule.ensures
