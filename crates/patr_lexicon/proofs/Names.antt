-- What many proofs here name of the crates below and of the specs.
pub use Rattle.patr_grammar.proofs.Tables.{each_still}
pub use Rattle.patr_lexicon.specs.Cut.{AreCutFrom, anywhere}
pub use Rattle.patr_lexicon.specs.Entries.{is_of}
pub use Rattle.patr_lexicon.specs.Laid.{AreLaid, AreLaidBefore, EndsBy, IsLaidBefore, StandsAt, end_byte}
pub use Rattle.patr_lexicon.specs.Parts.{NoLf, piece_seen, pieces_seen, record_seen, rest_len, rest_lines, rest_pieces, rest_text, words_seen}
pub use Rattle.patr_lexicon.specs.Reading.{AreEntriesOf, IsEntryOf, place_at}
pub use Rattle.patr_lexicon.specs.Records.{bytes_in, counted, plus, text_in, with_field, with_pieces, words_in}
pub use Rattle.patr_lexicon.specs.States.{FailsFor, IsKept, ended_before, from_record, goes_on, known_records, most_texts, most_texts_of, record_of, some_text, some_words, then_more, then_rest}
pub use Rattle.patr_lexicon.specs.declared.state.State.{State}
pub use Rattle.patr_lexicon.specs.declared.state.State.TheVariants.{Skipped, Start, Within}
pub use Rattle.patr_model.specs.Agreeing.{SameEntryText, SameEquationText, SameFeatureText, SamePathText, SameRefusal, SameTermText, WordsAgree}
pub use Rattle.patr_model.specs.Built.{stage}
pub use Rattle.patr_model.specs.Grammar.{Row}
pub use Rattle.patr_model.specs.Lexemes.{by_text, key_of, without_index}
pub use Rattle.patr_model.specs.LexiconLines.{Fields, bad_token, begins_with, fields_of, is_edge, kind, line_at, line_before, lines, marker_len, numbered}
unfoldable pub use Rattle.patr_model.specs.LexiconLines.{control}
pub use Rattle.patr_model.specs.LexiconText.{BadFeatures, EntryFault, EntryOf, EntryText, NoCategory, NoWord, SeveralWords, as_features, end_of, features_of, gloss_of, piece_end, piece_tokens, read_fields, scanned_tokens, spaced, trimmed, trimmed_front}
pub use Rattle.patr_model.specs.Productions.{AtomText, Equates, EquationText, FeatureText, Item, Names, OfPath, PathText, TermText, begins_feature, elements, feature}
pub use Rattle.patr_model.specs.Renaming.{Both, Each, SameRow, SameRows'}
pub use Rattle.patr_model.specs.Session.{Cut, cut_at, is_blank, pieces, without_empty, words_of}
pub use Rattle.patr_model.specs.Tokens.{step, Place, Scanned, Token, after, front, is_control, read_front, start_place, with_token}
unfoldable pub use Rattle.patr_model.specs.Tokens.{scan}
pub use Rattle.patr_model.specs.declared.field.Marker.{Marker}
pub use Rattle.patr_text.proofs.Extending.{extends_trans, extends_with, text_still}
pub use Rattle.patr_text.specs.Texts.{Extends, with_text}
pub use Rattle.std.proofs.Math.Seq.{drop-append_seam, take-add}
pub use Rattle.std.proofs.lemmas.Bool.{cases_lt, ne_eqb}
pub use Rattle.std.proofs.lemmas.Grind.{flat_map-append}
pub use Rattle.std.proofs.lemmas.List.{drop-drop, drop-take, drop_at, get_or-drop, get_or-reverse, get_or-take, length-reverse, length-take-le, map-append, map_more, reverse-append, reverse-reverse, take-append-drop, take-append-le, take-take, take_at, take_more, take_rest}
pub use Rattle.std.proofs.lemmas.List.Elements.{All-append, All-nil, All-push, All-weaker}
pub use Rattle.std.proofs.lemmas.Result.{err_from_is_err_and}
pub use Rattle.std.proofs.lemmas.Str.{IsCharBoundary-after_ascii, IsCharBoundary-before_ascii, IsCharBoundary-end, IsCharBoundary-from_rest, IsCharBoundary-start}
pub use Rattle.std.specs.List.{All, prefix_len, suffix_len}
pub use Rattle.std.specs.Str.{IsCharBoundary, IsUtf8}
