-- What many proofs here name of the definitions and of the crates below.
pub use Rattle.patr_grammar.specs.Reading.{IsGrammar, IsRefusedFor, IsText, StandsFor, element_seen, equation_seen, feature_seen, features_seen, equations_seen, grammar_seen, item_seen, right_seen, lexical_rule_seen, rule_seen, template_seen}
pub use Rattle.patr_grammar.specs.Views.{Answers, AnswersFeatures, Fails, Gives, GivesAt, AnswersClauses, AreNames, AreRead, Gathers, IsLexeme, IsRefusedAt, IsSpelled, StopsAt, by_id, bytes_of, cause_at, first_place, head_seen, place_seen, refusal_seen, begins_right, rights_seen, right_left, symbols_in, symbols_in_all, group_right, onto, choices_seen, Written, seen_by, begins_by, single_by, as_item, element_by, names_after, of_rules, ReadsClauses}
pub use Rattle.patr_grammar.specs.declared.lexeme.Lexeme.{Lexeme}
pub use Rattle.patr_model.specs.Agreeing.{SameEquationText, SameFeatureText, SameLexicalRule, SameOutcome, SamePathText, SameRefusal, SameRuleText, SameSymbolText, SameTemplate, SameTermText, WordsAgree}
pub use Rattle.patr_model.specs.Built.{stage}
pub use Rattle.patr_model.specs.Grammar.{Done, None', One, OneOf, Optional, Or, Row, Rows}
pub use Rattle.patr_model.specs.Lexemes.{Words, after_first, all_digits, begins, by_text, is_index, is_key, is_keyword, is_kind, is_symbol, lower, without_index}
pub use Rattle.patr_model.specs.Parsing.{Expected, Got, LaterForm, Parse, PathTooLong, Reads, Refusal, Stops, TooManySymbols, one, star, ◌>>=◌}
unfoldable pub use Rattle.patr_model.specs.Parsing.{many}
pub use Rattle.patr_model.specs.Productions.{AnyAttribute, AtomText, Clause, Equates, EquationText, FeatureText, Grammar, Head, Item, Left, LexicalRule, Names, NoRules, OfPath, Outcome, PathText, RuleClause, RuleText, Settings, Single, Stands, SymbolText, Template, TermText, attributes, before, begins_feature, begins_outer, begins_ruleitem, clause, concluded, feature, grammar, opens_equations, outcome, right_side, row, rule_equation, ruleitems, settings, single_feature, star_right, symbol_item, symbol_of, with_name, with_rules}
unfoldable pub use Rattle.patr_model.specs.Productions.{braced, clauses, elements, equation, item, lexical_rule, many_right, name_tokens, parameter, path, template, term, word_list}
pub use Rattle.patr_model.specs.Renaming.{Both, Each, SameRow, SameRows'}
pub use Rattle.patr_model.specs.Tokens.{Place, Token, after, scan, start_place, tokens_of}
pub use Rattle.patr_model.specs.declared.lookahead.Kind.TheVariants.{CloseBrace, Equal, Greater, Less, OpenBrace, OpenParen, Word}
pub use Rattle.patr_text.proofs.Extending.{extends_trans, extends_with, text_still}
pub use Rattle.patr_text.specs.Texts.{Extends}
unfoldable pub use Rattle.patr_text.specs.Texts.{first_texts}
pub use Rattle.patr_text.specs.Tokens.{InOrder, IsCut, seen}
pub use Rattle.patr_text.specs.declared.fault.Fault.{Fault}
pub use Rattle.patr_text.specs.declared.fault.Fault.TheVariants.{Memory, Refused}
pub use Rattle.patr_text.specs.declared.symbols.Id.{Id}
pub use Rattle.std.proofs.lemmas.Bool.Decides.{nat_tests}
pub use Rattle.std.proofs.lemmas.List.{length-map, map_push, take_all, take_more, take_rest}
pub use Rattle.std.proofs.lemmas.Result.{IfOk-weaker, err_from_is_err_and}
pub use Rattle.std.specs.List.{All, list_all, list_any}
