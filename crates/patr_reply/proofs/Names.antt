-- What many proofs here name of the definitions and of the crates below.
pub use Rattle.patr_arena.specs.Shown.{Shown, value_of}
pub use Rattle.patr_chart.proofs.Trees.{from_length, tree_alone, tree_longer}
pub use Rattle.patr_chart.specs.Charted.{AreEdges, alone, derivations, tree}
pub use Rattle.patr_chart.specs.declared.edge.Edge.{Edge}
pub use Rattle.patr_chart.specs.declared.edge.EdgeKind.{EdgeKind}
pub use Rattle.patr_chart.specs.declared.edge.EdgeKind.TheVariants.{Rule}
pub use Rattle.patr_grammar.specs.Reading.{IsText, equation_seen, features_seen}
pub use Rattle.patr_lexicon.specs.Seen.{entry_seen}
pub use Rattle.patr_library.specs.Stored.{IsEntryItem, IsRuleItem, IsStored, is_of_word, word_at, Stored, entries_of, grammar_of, keys, meant, number, rules_of, same}
pub use Rattle.patr_lists.proofs.Alls.{all_append, all_at, all_flat, all_get, all_left, all_map, all_right}
pub use Rattle.patr_lists.proofs.Places.{get_there}
pub use Rattle.patr_lists.proofs.Results.{if_ok_is}
pub use Rattle.patr_model.proofs.Maps.{and_then_some, carries, carries_arc, some_inj}
pub use Rattle.patr_model.specs.Build.{category_equations, Meaning, all_written_out, chosen, entry_variant_of, entry_variants, equation_variants, facts_of, feature_equation, gloss_fact, head_slot, meaning_of, meanings, meanings_from, placed_equation, placed_term, rule_variant_of, rule_variants, with_template, written_out}
pub use Rattle.patr_model.specs.Chart.{HasMoreThan, IsAnalysis, IsChart}
pub use Rattle.patr_model.specs.Derivation.{Begin, Derivation, EntryVariant, Extend, IsComplete, Leaf, RuleVariant, Rules, entry_variant, rule_variant, seen}
pub use Rattle.patr_model.specs.Equation.{AtomOf, Equation, Holds, PathOf, SlotPath, Term, reached, side}
pub use Rattle.patr_model.specs.Grammar.{Done, None', One, OneOf, Optional, Or, Row, Rows, products, single, variants, variants_of}
pub use Rattle.patr_model.specs.LexiconText.{EntryOf}
pub use Rattle.patr_model.specs.Productions.{AtomText, Equates, EquationText, FeatureText, Names, OfPath, PathText, RuleText, SymbolText, Template, TermText}
pub use Rattle.patr_model.specs.Session.{AgreesWith, CountsEdges, Grounds, IsLeastText, IsSentenceReply, ListsAll, ListsAnalyses, Numbering, analyses, cat_of, line, too_many, unknown}
pub use Rattle.patr_model.specs.Solution.{Chain, IsLeastValue, Solution, Solves}
pub use Rattle.patr_model.specs.Solved.{solved}
pub use Rattle.patr_model.specs.Structure.{Arc, Arcs, Atom, HasDistinct, IsStructure, IsValue, Node, Structure, Value, along, arc, arcs_of, at}
pub use Rattle.patr_model.specs.Table.{table_look, table_text, text_or, total, zeros}
pub use Rattle.patr_model.specs.Text.{Look, canonical, entry_category, entry_word, mother_category, open_tree, printed, tree_text}
pub use Rattle.patr_parse.specs.Found.{AreSound, Found, IsOfItem, IsSound}
pub use Rattle.patr_parse.specs.Sentences.{AreNumbers, IsFirstCause, IsFirstUnknown, IsKnown, IsParsed}
pub use Rattle.patr_reply.specs.Held.{AllIn, AllInRows, AreHeldBy, EntryIsHeld, EquationIsHeld, FeatureIsHeld, LibrariesAreHeld, MayBeBelow, PathIsHeld, RuleIsHeld, SymbolIsHeld, TemplateIsHeld, TermIsHeld}
pub use Rattle.patr_reply.specs.Lines.{analysis_lines, analysis_text, count_line, grounds, item_line, item_value, items_text, listing, look_by, numbered, state_of, tree_line, value_line}
pub use Rattle.patr_reply.specs.Naming.{AllPass, AreNamed, HasNamed, LeastValuesNameSymbols, Passes, TermPasses}
pub use Rattle.patr_reply.specs.Sources.{AreOfLibrary, IsEntryOf, IsItemReady, IsOfLibrary, IsReady, IsRuleOf, edge_value, value_at}
pub use Rattle.patr_reply.specs.Writing.{IsHeld, IsStep, root_text, step_text, step_weight, steps_text, steps_weight}
pub use Rattle.patr_reply.specs.declared.tree.Step.TheVariants.{Mark, Tree}
pub use Rattle.patr_text.specs.Texts.{Extends}
pub use Rattle.patr_text.specs.declared.symbols.Id.{Id}
pub use Rattle.std.proofs.lemmas.List.{length-append, length-map, length-take-le, take_all, take_more}
pub use Rattle.std.proofs.lemmas.Option.{get_or_from_slice_get, slice_get-get_or, slice_get-map, slice_get_within}
pub use Rattle.std.proofs.lemmas.Result.{IfOk-weaker}
pub use Rattle.std.specs.List.{AllByRecursion, cons_option}
pub use Rattle.std.specs.Option.{option_map}
pub use Rattle.std.specs.String.{string_bytes}
