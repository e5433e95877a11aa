-- What many proofs here name of the crates below and of the specs.
pub use Rattle.patr_expand.specs.Seen.{cause_seen}
pub use Rattle.patr_grammar.specs.Reading.{IsGrammar, IsText}
pub use Rattle.patr_io.specs.Causes.{HasCause, IsFlushed, Rose}
pub use Rattle.patr_io.specs.Files.{Files, IsAbsent}
pub use Rattle.patr_library.specs.Stored.{IsBuiltFrom, Stored, built_rules, entries_of, grammar_of, keys, number, rules_of, same}
pub use Rattle.patr_model.proofs.Canonical.{least_texts, same_is}
pub use Rattle.patr_model.proofs.Lines.{replies_begin}
pub use Rattle.patr_model.proofs.Maps.{some_inj}
pub use Rattle.patr_model.proofs.OneRun.{no_grammar_fault, no_lexicon_fault, one_grammar, one_lexicon, session_one, stage_openings}
pub use Rattle.patr_model.specs.Build.{BuildFault, InGrammar, InLexicon, build, build_fault, build_fault_line, keys_of}
pub use Rattle.patr_model.specs.Built.{built, stage}
pub use Rattle.patr_model.specs.Bytes.{same_text}
pub use Rattle.patr_model.specs.CommandLine.{named, value_or}
unfoldable pub use Rattle.patr_model.specs.CommandLine.{said}
pub use Rattle.patr_model.specs.LexiconText.{EntryText, lexicon_fault_line}
pub use Rattle.patr_model.specs.Notations.{fault_ending, lines_with_commands, built_command}
pub use Rattle.patr_model.specs.Openings.{Answered, HasOneOpening, SessionRepliesBegin, TablesAreNumbered}
pub use Rattle.patr_model.specs.Renaming.{Each, IgnoresNumbers}
pub use Rattle.patr_model.specs.Run.{Follows, IsOpening, IsOut, IsSession, Session, Setup, first_state}
pub use Rattle.patr_model.specs.Session.{AgreesWith, Cut, Grounds, IsQuit, IsSentenceReply, Numbering, Replied, cut_at, lines_by, lines_of, whole_lines_from, whole_lines_of, without_cr, without_empty, words_of}
pub use Rattle.patr_model.specs.Solved.{solved}
pub use Rattle.patr_model.specs.Table.{IsTable}
pub use Rattle.patr_shell.specs.Answering.{AreQuit, HasAnswered, HasBegun, HasBegunSession, HasEnded, HasFirstWord, HasNoFeed, HasQuit, HasReached, HasTakenQuit, HasTold, HasWrittenSession, IsAnswer, IsAnswerToCommand, IsAnswerToWords, is_write_fault, last_line, last_of, last_piece, too_long_line}
pub use Rattle.patr_shell.specs.Outcome.{Builds, CannotLoad, HasAnsweredFirst, HasAnsweredTaken, HasBadGrammar, HasBadLexicon, HasBegunRun, HasGrammar, HasRefusal, HasRun, HasRunSession, HasWritten, HaveSession, IsEndOf, IsFaultOf, IsOpened, IsSessionStatus, IsStatusOf, IsWithin, LooksAt, MayBeDone, Names, Writes, answer_status, ended_by_write, ending_of, grammar, is_definite, lexicon, status_of}
pub use Rattle.patr_shell.specs.Sent.{AppendsFront, IsSent, PassesOn}
pub use Rattle.patr_shell.specs.Spoken.{HasLimit, Spoken, command_seen, grounds, state_seen}
pub use Rattle.patr_shell.specs.Words.{flag_seen, other_kind, said_from, said_in_all, said_seen, said_then, setup_meant, setup_seen}
pub use Rattle.patr_shell.specs.declared.answer.Reply.{Reply}
pub use Rattle.patr_shell.specs.declared.refusal.Refusal.{Refusal}
pub use Rattle.patr_shell.specs.declared.session.AnswerFault.{AnswerFault}
pub use Rattle.patr_shell.specs.declared.session.Next.{Next}
pub use Rattle.patr_shell.specs.declared.status.Status.{Status}
pub use Rattle.std.proofs.KnownBytes.{Appends-kept, Appends-nil, Appends-trans, Consumes-kept, Consumes-trans, Keeps-refl, Keeps-trans}
pub use Rattle.std.proofs.lemmas.Bool.Decides.{nat_tests}
pub use Rattle.std.proofs.lemmas.List.{drop_more, get_or-map, length-map, length-take, length-take-le, nil_from_length, take-append-le, take_all, take_at}
pub use Rattle.std.proofs.lemmas.Result.{IfOk-weaker, err_from_is_err_and}
pub use Rattle.std.specs.Bool.{Decides, OnFalse, OnTrue}
pub use Rattle.std.specs.FinMap.{get}
pub use Rattle.std.specs.Io.KnownBytes.{Appends, Consumes, IsAtEnd, Keeps}
pub use Rattle.std.specs.Option.{IsSomeAnd}
pub use Rattle.std.specs.Result.{IfErr, OnErr, OnOk, is_err}
