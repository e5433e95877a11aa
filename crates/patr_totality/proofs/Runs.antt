-- The words and the files come to an opening, and each run writes a text and ends.
use Rattle.std.proofs.Common.{◌≡◌, ℕ, zero, suc, ◌<◌, ◌≤◌, ◌⊎◌, inl, inr, Bool, true, false, List, [], length, take, Option, Some, None, refl, ap, ◌∙◌, arith, subst, IsUtf8, ◌^◌}
use Rattle.std.proofs.Math.Seq.{take-length}
use Rattle.std.proofs.lemmas.Str.{IsUtf8-nil}
use Rattle.std.proofs.lemmas.Bool.{cases_eq, cases_lt}
use Rattle.patr_model.specs.Solved.{solved}
use Rattle.patr_model.specs.Session.{Numbering, Grounds, State, cat_of, LineForms, Replied, lines_of, whole_lines_of}
use Rattle.patr_model.specs.Run.{Ending, Done, Setup, Notations, Opening, Session, Refusal, usage, first_state, BadWords, NotRead, InputTooLong, IsSession, ended, quit, too_long, AfterGrammar, absent, long, fault, refused, built, AfterWords, read, IsOpening, Follows, IsOut}
use Rattle.patr_model.specs.Stages.{Stage}
use Rattle.patr_model.specs.Productions.{Grammar}
use Rattle.patr_model.specs.Faults.{StopsUtf8, NotText, Misread}
use Rattle.patr_model.specs.GrammarText as grammar_text
use Rattle.patr_model.specs.GrammarText.{grammar_fault_line, ReadsGrammar, HasGrammarFault}
use Rattle.patr_model.specs.LexiconText as lexicon_text
use Rattle.patr_model.specs.LexiconText.{EntryText, lexicon_fault_line, ReadsLexicon, HasLexiconFault}
use Rattle.patr_model.specs.CommandLine.{command_words}
use Rattle.patr_model.specs.Bytes.{same_text}
use Rattle.patr_model.specs.Build.{BuildFault, build_fault, build, grounds, keys_of}
use Rattle.patr_model.specs.Notations as stages
use Rattle.patr_model.specs.Notations.{lines_with_commands}
use Rattle.patr_model.proofs.StatedCategories.{are_built}
use Rattle.patr_model.proofs.Numberings.{tables_are_numbered}
use Rattle.patr_model.proofs.Shown.{more_same, one_more}
use Rattle.patr_model.proofs.RenamedRuns.{stage_same}
use Rattle.patr_model.proofs.OneRun.{stage_runs}
use Rattle.patr_model.specs.Built.{stage}
use Rattle.patr_totality.specs.Laws.{AreReady, WritesOne, WhatARunWritesIsOne}
use Rattle.patr_totality.proofs.Ready.{builds_are_ready}
use Rattle.patr_totality.proofs.Sessions.{utf8_decided, session_replies}

-- ---- what bytes stand for

-- bytes that are no text stop somewhere
stops_below : (b : List ℕ) (m : ℕ) → m ≤ length b → ((k : ℕ) → m ≤ k → k ≤ length b → IsUtf8 (take k b) → ⊥) → (n : ℕ) × StopsUtf8 b n
stops_below b zero h none = absurd (none 0 (omega arith) (omega arith) IsUtf8-nil)
stops_below b (suc m) h none = elim (utf8_decided (take m b)) [
  | inl u ↦ (m, (omega (arith, h), u, λ k l le. none k (omega (arith, l)) le))
  | inr n ↦ stops_below b m (omega (arith, h)) (λ k l le u. elim (cases_eq k m) [ inl e ↦ n (subst (λ i. IsUtf8 (take i b)) e u) | inr e ↦ none k (omega (arith, l, e)) le u ])
]

stops : (b : List ℕ) → (IsUtf8 b → ⊥) → (n : ℕ) × StopsUtf8 b n
stops b none = stops_below b (length b) (omega arith) (λ k l le u.
    let e : k ≡ length b = omega (arith, l, le) in
    none (subst IsUtf8 (ap (λ i. take i b) e ∙ take-length b) u))

-- they are a grammar, or have a fault
grammar_or_fault : (s : Stage) (b : List ℕ) → ((g : Grammar (List ℕ)) × ReadsGrammar s b g) ⊎ ((text : List ℕ) × HasGrammarFault s b text)
grammar_or_fault s b = elim (utf8_decided b) [
  | inr none ↦ let n = stops b none in inr (_, (NotText n.0, n.1, refl))
  | inl u ↦ go u (grammar_text.reading s b) refl
]
  where
    go : IsUtf8 b → (r : grammar_text.Reading) → grammar_text.reading s b ≡ r → ((g : Grammar (List ℕ)) × ReadsGrammar s b g) ⊎ ((text : List ℕ) × HasGrammarFault s b text)
    go u (grammar_text.Reads g) q = inl (g, (u, q))
    go u (grammar_text.BadToken p) q = inr (_, (Misread (grammar_text.BadToken p), (u, q, λ h. h), refl))
    go u (grammar_text.Refused r p) q = inr (_, (Misread (grammar_text.Refused r p), (u, q, λ h. h), refl))
    go u grammar_text.NoRules q = inr (_, (Misread grammar_text.NoRules, (u, q, λ h. h), refl))

-- they are entries, or have a fault
lexicon_or_fault : (s : Stage) (b : List ℕ) → ((l : List EntryText) × ReadsLexicon s b l) ⊎ ((text : List ℕ) × HasLexiconFault s b text)
lexicon_or_fault s b = elim (utf8_decided b) [
  | inr none ↦ let n = stops b none in inr (_, (NotText n.0, n.1, refl))
  | inl u ↦ go u (lexicon_text.reading s b) refl
]
  where
    go : IsUtf8 b → (r : lexicon_text.Reading) → lexicon_text.reading s b ≡ r → ((l : List EntryText) × ReadsLexicon s b l) ⊎ ((text : List ℕ) × HasLexiconFault s b text)
    go u (lexicon_text.Reads l) q = inl (l, (u, q))
    go u (lexicon_text.BadToken p) q = inr (_, (Misread (lexicon_text.BadToken p), (u, q, λ h. h), refl))
    go u (lexicon_text.Fails f) q = inr (_, (Misread (lexicon_text.Fails f), (u, q, λ h. h), refl))

-- ---- openings

-- what a session stands on is what a build makes
abbrev IsMade : Opening → Type 0
IsMade (Session s st) = AreReady s.rules (cat_of s)
IsMade (Refusal text ending) = Unit {0}

module _ (stage : Stage) (forms : LineForms) (N : Numbering) where
  abbrev notation : Notations
  notation = stages.notations stage forms

  after_grammar : (setup : Setup) (g : Grammar (List ℕ)) (bytes : Option (List ℕ)) → (o : Opening) × AfterGrammar notation N setup g bytes o × IsMade o
  after_grammar setup g None = (Refusal [] NotRead, absent refl refl, tt)
  after_grammar setup g (Some b) = elim (cases_lt 16777216 (length b)) [
    | inl more ↦ (_, long b refl more refl, tt)
    | inr fits ↦ elim (lexicon_or_fault stage b) [
      | inr f ↦ (_, fault b refl fits f.0 f.1 refl, tt)
      | inl l ↦ go b fits l.0 l.1 (build_fault same_text g l.0) refl
    ]
  ]
    where
      go : (b : List ℕ) → length b ≤ 16777216 → (l : List EntryText) → ReadsLexicon stage b l → (o : Option (BuildFault (List ℕ))) → build_fault same_text g l ≡ o → (o : Opening) × AfterGrammar notation N setup g (Some b) o × IsMade o
      go b fits l r (Some f) q = (_, refused b l refl fits r _ _ (f, q, refl, refl) refl, tt)
      go b fits l r None q = (Session (grounds N g l) (first_state setup), built b l (grounds N g l) refl fits r (q, refl) refl, builds_are_ready (build N.number same_text (keys_of N) g l) (keys_of N).cat (are_built N.number same_text (keys_of N) g l))

  after_words : (setup : Setup) (files : List ℕ → Option (List ℕ)) (bytes : Option (List ℕ)) → files setup.grammar ≡ bytes → (o : Opening) × AfterWords notation N setup files o × IsMade o
  after_words setup files None q = (Refusal [] NotRead, absent q refl, tt)
  after_words setup files (Some b) q = elim (cases_lt 4194304 (length b)) [
    | inl more ↦ (_, long b q more refl, tt)
    | inr fits ↦ elim (grammar_or_fault stage b) [
      | inr f ↦ (_, fault b q fits f.0 f.1 refl, tt)
      | inl g ↦ let r = after_grammar setup g.0 (files setup.lexicon) in (r.0, read b g.0 q fits g.1 r.1, r.2)
    ]
  ]

  opening : (words : List (List ℕ)) (files : List ℕ → Option (List ℕ)) → (o : Opening) × IsOpening notation N words files o × IsMade o
  opening words files = go (command_words words) refl
    where
      go : (o : Option Setup) → command_words words ≡ o → (o : Opening) × IsOpening notation N words files o × IsMade o
      go None q = (Refusal usage BadWords, inl (q, refl), tt)
      go (Some setup) q = let r = after_words setup files (files setup.grammar) refl in (r.0, inr (setup, q, r.1), r.2)

  -- ---- the session, and the run

  module _ (replies : (s : Grounds) → AreReady s.rules (cat_of s) → (st : State) (ls : List (List ℕ)) → (text : List ℕ) × (quit : Bool) × Replied solved forms s st ls text quit) where
    session : (s : Grounds) → AreReady s.rules (cat_of s) → (st : State) (input : List ℕ) → (text : List ℕ) × (ending : Ending) × IsSession notation s st input text ending
    session s made st input = elim (cases_lt (2 ^ 24) (length input)) [
      | inr fits ↦ let r = replies s made st (lines_of input) in (r.0, Done, ended fits r.1 r.2 refl)
      | inl more ↦ go more (replies s made st (whole_lines_of (take (2 ^ 24) input)))
    ]
      where
        go : 2 ^ 24 < length input → (text : List ℕ) × (q : Bool) × Replied solved forms s st (whole_lines_of (take (2 ^ 24) input)) text q → (text : List ℕ) × (ending : Ending) × IsSession notation s st input text ending
        go more r = by_quit r.0 r.1 r.2
          where
            by_quit : (text : List ℕ) (q : Bool) → Replied solved forms s st (whole_lines_of (take (2 ^ 24) input)) text q → (text : List ℕ) × (ending : Ending) × IsSession notation s st input text ending
            by_quit text true h = (text, Done, quit more h refl)
            by_quit text false h = (_, InputTooLong, too_long more text h refl refl)

    follows : (o : Opening) → IsMade o → (input : List ℕ) → (text : List ℕ) × (ending : Ending) × Follows notation o input text ending
    follows (Session s st) made input = session s made st input
    follows (Refusal text ending) made input = (text, ending, (refl, refl))

    pub out : (words : List (List ℕ)) (files : List ℕ → Option (List ℕ)) (input : List ℕ) → (text : List ℕ) × (ending : Ending) × IsOut notation N words files input text ending
    out words files input =
        let o = opening words files in
        let f = follows o.0 o.2 input in
        (f.0, f.1, (o.0, o.1, f.2))

-- one text and one ending, under each numbering, and no others
runs_at : (s : Stage) → WritesOne (stages.notations s lines_with_commands)
runs_at s words files input =
    let N = (tables_are_numbered [] (λ i j t e f. cc)).0 in
    let r = out s lines_with_commands N session_replies words files input in
    let all = λ (X : Numbering). stage_same s lines_with_commands more_same one_more N X words files input r.0 r.1 r.2 in (
      r.0,
      r.1,
      record {
        is = all;
        only = λ X x e h. stage_runs s lines_with_commands more_same one_more X X words files input x r.0 e r.1 h (all X);
      },
    )

pub runs_write_one : WhatARunWritesIsOne
runs_write_one = record { as_built = runs_at stage; at_stages = runs_at }
