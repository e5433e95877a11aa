-- The notations with path equations, as a run reads them, for each stage and whatever forms the lines of a session have.
--     notations s forms      what a run reads at the stage s
--     lines_with_commands    lines with sentences, and with the commands that are built
use Rattle.std.specs.Prelude.{◌≡◌, ℕ, List, Option, Some, None, option_and_then, codes}
use Rattle.patr_model.specs.Bytes.{same_text}
use Rattle.patr_model.specs.Solved.{solved}
use Rattle.patr_model.specs.Session.{LineForms, Command, Limit, Features, Count, Show, Grammar, Make, Quit, command_of, line}
use Rattle.patr_model.specs.Showing.{grammar_replies}
use Rattle.patr_model.specs.Run.{Ending, BadGrammar, BadLexicon, Notations}
use Rattle.patr_model.specs.Stages.{Stage}
use Rattle.patr_model.specs.Productions as text
use Rattle.patr_model.specs.GrammarText.{ReadsGrammar, HasGrammarFault}
use Rattle.patr_model.specs.LexiconText.{EntryText, ReadsLexicon, HasLexiconFault}
use Rattle.patr_model.specs.CommandLine.{command_words}
use Rattle.patr_model.specs.Build.{BuildFault, InGrammar, InLexicon, build_fault, build_fault_line, grounds}

-- how a run ends whose build refuses a grammar or a lexicon
abbrev pub fault_ending : {W : Type 0} → BuildFault W → Ending
fault_ending (InGrammar f) = BadGrammar
fault_ending (InLexicon f) = BadLexicon

-- the command, where it is built
abbrev pub built_command : Command → Option Command
built_command (Limit n) = Some (Limit n)
built_command (Features b) = Some (Features b)
built_command (Count b) = Some (Count b)
built_command (Show w) = Some (Show w)
built_command Grammar = None
built_command (Make n) = None
built_command Quit = Some Quit

-- Sentences, and the commands that are built: the other lines that begin with `:` are bad commands.
abbrev pub lines_with_commands : LineForms
lines_with_commands = record {
  too_long = line (codes "error: line too long");
  not_text = line (codes "error: line is not UTF-8");
  command = λ ws. option_and_then built_command (command_of ws);
  more = grammar_replies;
}

-- What a run reads at a stage: a build refuses the first unknown name, or rule or entry that is too large, and else makes the variants; edges are judged by unification.
abbrev pub notations : Stage → LineForms → Notations
notations stage forms = record {
  grammar_text = text.Grammar (List ℕ);
  lexicon_text = List EntryText;
  words = command_words;
  reads_grammar = λ N. ReadsGrammar stage;
  grammar_fault = λ N. HasGrammarFault stage;
  reads_lexicon = λ N. ReadsLexicon stage;
  lexicon_fault = λ N. HasLexiconFault stage;
  refuses = λ N g l message ending. (f : BuildFault (List ℕ)) × (build_fault same_text g l ≡ Some f) × (message ≡ build_fault_line f) × (ending ≡ fault_ending f);
  builds = λ N g l s. (build_fault same_text g l ≡ None) × (s ≡ grounds N g l);
  judge = solved;
  lines = forms;
}
