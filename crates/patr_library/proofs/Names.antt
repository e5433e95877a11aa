-- What many proofs here name of the crates below, and of the specifications of this one.
pub use Rattle.patr_arena.proofs.Addresses.{value_below}
pub use Rattle.patr_arena.proofs.Rises.{rising_distinct, rising_tail}
pub use Rattle.patr_arena.proofs.Showing.{block_extends, extends_on, held_below, new_node, new_number, same_number, same_number_held, still_held}
pub use Rattle.patr_arena.specs.Arenas.{shown_of}
pub use Rattle.patr_arena.specs.Blocks.{AllBelow, AllOldHeld, Extends, IsBlock, LeadsBelow, OldIsHeld, OldRefIsHeld, attributes, with_block}
pub use Rattle.patr_arena.specs.Paths.{ids}
pub use Rattle.patr_arena.specs.Shown.{AllHeld, IsHeld, IsShown, RefIsHeld, Shown, ValueIsHeld, arc_from, arcs_from, number_of, ref_of, value_of}
pub use Rattle.patr_arena.specs.declared.value.Addr.{Addr}
pub use Rattle.patr_arena.specs.declared.value.Feature.{Feature}
pub use Rattle.patr_arena.specs.declared.value.Ref.{Ref}
pub use Rattle.patr_expand.specs.Meant.{meant_by}
pub use Rattle.patr_expand.specs.Seen.{AreNumbered, IsRefusedBy, cause_seen, equation_at, equations_at, fault_of_features, feature_variants, lists_at, meant, number, same, path_at, term_at, variant_at, variants_at}
pub use Rattle.patr_expand.specs.declared.cause.ExpandCause.{ExpandCause}
pub use Rattle.patr_grammar.specs.Reading.{features_seen, rule_seen, template_seen}
pub use Rattle.patr_lexicon.specs.Seen.{entry_seen}
pub use Rattle.patr_lexicon.specs.declared.lexicon.Entry.{Entry}
pub use Rattle.patr_library.specs.Built.{AreDealt, AreKept, AreRulesDealt, HasBlock, HasNoRule, HasRuleItem, IsDealt, IsRuleDealt, Numbered, StaysWithin, all_numbered, numbered, numbered_from, variants_of}
pub use Rattle.patr_library.specs.Copies.{AreCopies, AreImages, AreReached, Corresponds, HasCopy, HaveCopies, IsImage, IsNextImage, image_at, with_mark, with_marks}
pub use Rattle.patr_library.specs.Entries.{AreEntriesDealt, HasEntryItem, HasNoEntry, IsEntryDealt, NumberedEntry, StaysAlone, all_variants_of, entry_variants_of, variant_of}
pub use Rattle.patr_library.specs.Lists.{has_key}
pub use Rattle.patr_library.specs.Own.{AllOwn, ArePartedAt, ArePlaces, ArePlacesUpTo, IsLedTo, IsOwn, IsOwnBlock, IsPlaceOf, IsPlacedAt, IsRooted, IsStatement, led_all, offsets_of, own_arcs, own_nodes, own_value, pointed, shift, shifted}
pub use Rattle.patr_library.specs.Solved.{AreUnified, HasNone, HasSlot, IsLeastAt, IsLeastIn, IsNew, IsSlots, IsUnified, slot_features}
pub use Rattle.patr_library.specs.Starts.{IsSolved, IsSolvedIn, fact_features, facts_at, slots_of, stated_of}
pub use Rattle.patr_library.specs.Stored.{AreOfEntries, Bounds, HasItems, IsEntryItem, IsRuleItem, Rises, built_rules, entries_of, grammar_of, is_number, is_of_mother, is_of_word, keys, rules_of, word_at}
pub use Rattle.patr_library.specs.declared.item.EntryItem.{EntryItem}
pub use Rattle.patr_library.specs.declared.item.RuleItem.{RuleItem}
pub use Rattle.patr_lists.proofs.Alls.{all_append, all_at, all_get, all_left, all_right, all_weaker}
pub use Rattle.patr_lists.proofs.Places.{get_cases, get_last, get_left, get_parts, get_there}
pub use Rattle.patr_lists.specs.Numbers.{places, total}
pub use Rattle.patr_marks.specs.Machine.{Has, own}
pub use Rattle.patr_model.proofs.Maps.{and_then_some, below_more_places, carries_arc, maps_reflexive, maps_transitive, some_inj}
pub use Rattle.patr_model.proofs.StatedCategories.{EntryIsBuilt, are_built, entry_is_built, within_append}
pub use Rattle.patr_model.proofs.Variants.{rule_carried, variant_steps}
pub use Rattle.patr_model.specs.Build.{ExpandFault, Meaning, build_fault, entries_fault, entry_variant_of, entry_variants, first_fault, grammar_fault, grammar_first, meanings, rule_fault, rule_variants, rules_fault, templates_fault}
pub use Rattle.patr_model.specs.Derivation.{Begin, EntryVariant, Leaf, RuleVariant, Rules, entry_variant, rule_variant}
pub use Rattle.patr_model.specs.Equation.{AtomOf, Equation, Holds, PathOf}
pub use Rattle.patr_model.specs.EquationStructures.{Pointed, atom_at_path, below_arc, forked, led, one_place, to_value, topped}
pub use Rattle.patr_model.specs.Grammar.{variants}
pub use Rattle.patr_model.specs.Solution.{IsLeastValue, IsSolvable, slots_from}
pub use Rattle.patr_model.specs.Structure.{Arc, Arcs, Atom, IsBelow, IsReached, IsStructure, IsValue, Node, Structure, Value, along, arc, arcs_of, at}
pub use Rattle.patr_model.specs.Subsumption.{IsMap, IsUnifier, MapsInto, Same, TakesBoth, image}
pub use Rattle.patr_model.specs.Variants.{AreWithin, IsLeastOf, IsWithin, RuleAt, blank_slots, from_root, nodes_from, variant}
pub use Rattle.patr_text.specs.declared.fault.Fault.{Fault}
pub use Rattle.patr_text.specs.declared.symbols.Id.{Id}
pub use Rattle.patr_unify.specs.Copying.{Fits, IsMade, made_of}
pub use Rattle.patr_unify.specs.Deciding.{Counts}
pub use Rattle.std.proofs.Math.Nat.{eq-or-lt_of_le}
pub use Rattle.std.proofs.lemmas.List.{append-nil, append_assoc, drop_all, drop_more, get_or-append-add, get_or_append_left, get_or_past, get_or-set_other, get_or-set_same, get_or_push, get_or_read, length-map, length-replicate, length-set, length-take-le, map-append, nil_from_length, take-append-drop, take_all, take_more}
pub use Rattle.std.proofs.lemmas.Option.{cond_some, get_or_from_slice_get, slice_get-get_or, slice_get-map, slice_get_within}
pub use Rattle.std.proofs.lemmas.Result.{err_from_is_err_and}
pub use Rattle.std.specs.List.{AllByRecursion, sum_by}
pub use Rattle.std.specs.List.Sorted.{IsStrictlyIncreasing}
pub use Rattle.std.specs.Vec.Iter.{into_iter_items, into_iter_len}
