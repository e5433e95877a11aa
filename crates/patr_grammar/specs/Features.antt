-- What the tokens of features stand for, as the code has it, or why they stand for none.
use Rattle.std.specs.Prelude.{◌≡◌, ℕ, List, map, cond, Result, Ok, Err}
use Rattle.patr_model.specs.Grammar.{Row}
use Rattle.patr_model.specs.Renaming.{SameRow}
use Rattle.patr_model.specs.Tokens.{Place, Token, after, start_place}
use Rattle.patr_model.specs.Lexemes.{by_text}
use Rattle.patr_model.specs.Parsing as parsing
use Rattle.patr_model.specs.Productions.{FeatureText, elements}
use Rattle.patr_model.specs.LexiconText.{EntryFault, BadFeatures, as_features, none_yet}
use Rattle.patr_model.specs.Agreeing.{SameFeatureText}
use Rattle.patr_model.specs.Stages.{Stage}
use Rattle.patr_text.specs.declared.fault.Fault.{Fault}
use Rattle.patr_text.specs.declared.fault.Fault.TheVariants.{Memory, Refused}
use Rattle.patr_text.specs.declared.token.Token as code
use Rattle.patr_text.specs.Tokens.{seen}
use Rattle.patr_grammar.specs.declared.grammar.Element.{Element}
use Rattle.patr_grammar.specs.declared.grammar.GrammarCause.{GrammarCause}
use Rattle.patr_grammar.specs.declared.grammar.GrammarCause.TheVariants as cause
use Rattle.patr_grammar.specs.Reading.{IsText, features_seen}

-- the features that tokens stand for at a stage which end at this place, or why they stand for none
abbrev pub features_from : Stage → Place → List Token → Result (Row (FeatureText (List ℕ))) EntryFault
features_from s end ts = cond s.equations (as_features end (elements by_text s ts)) (none_yet ts)

-- the features that tokens of a text stand for at a stage which end with it
abbrev pub features_in : Stage → List ℕ → List code.Token → Result (Row (FeatureText (List ℕ))) EntryFault
features_in s text ts = features_from s (after start_place text) (map (seen text) ts)

-- the features are what the tokens of a text stand for at a stage
abbrev pub StandForFeatures : Stage → List (List ℕ) → List ℕ → List code.Token → List Element → Type 0
StandForFeatures s table text ts es = (r : Row (FeatureText (List ℕ))) × (features_in s text ts ≡ Ok r) × SameRow (SameFeatureText (IsText table)) (features_seen es) r

-- the fault of features that are refused at this place
abbrev pub refused_at : parsing.Refusal (List ℕ) → ℕ → ℕ → Result (Row (FeatureText (List ℕ))) EntryFault
refused_at r line column = Err (BadFeatures r (record { line = line; column = column }))

-- a refusal of features is due at a stage; want of memory may come at any time
abbrev pub AreRefusedFor : Stage → List ℕ → List code.Token → Fault GrammarCause → Type 0
AreRefusedFor s text ts Memory = Unit {0}
AreRefusedFor s text ts (Refused (cause.Expected line column what)) = features_in s text ts ≡ refused_at (parsing.Expected what) line column
AreRefusedFor s text ts (Refused (cause.PathTooLong line column)) = features_in s text ts ≡ refused_at parsing.PathTooLong line column
AreRefusedFor s text ts (Refused (cause.TooDeep line column)) = features_in s text ts ≡ refused_at parsing.TooDeep line column
AreRefusedFor s text ts (Refused _) = ⊥
