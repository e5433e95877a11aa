-- What the grammar and the entries that were read stand for, under a numbering.
use Rattle.std.proofs.Common.{◌≡◌, ℕ, List, [], ◌∷◌, map, length, codes, Option, Some, None, slice_get, Result, Ok, Err, IfOk, IfSome, Global, decimal, string_bytes, ◌++◌, refl, sym, ◌∙◌, ap, subst, inr}
use Rattle.patr_shell.proofs.Names.{Files, Numbering, AgreesWith, Setup, first_state, Each, EntryText, BuildFault, InGrammar, InLexicon, HasBadGrammar, HasBadLexicon, IsTable, build, keys_of, build_fault, IsText, IsGrammar, cause_seen, some_inj, stage, Stored, keys, number, same, same_text, grammar_of, entries_of, built_rules, rules_of, IsBuiltFrom, Spoken, grounds, state_seen, Names, Builds, IsOpened, HasGrammar, HaveSession, IsFaultOf}
use Rattle.patr_text.specs.declared.symbols.Id.{Id}
use Rattle.patr_text.specs.Texts.{first_texts, Extends}
use Rattle.patr_model.specs.Run as run
use Rattle.patr_model.specs.Productions as production
use Rattle.patr_model.specs.Build as model
use Rattle.patr_model.specs.Build.{ExpandFault, UnknownName, TooManyVariants, TooManyEquations, expand_fault_line}
use Rattle.patr_model.specs.Agreeing.{SameExpandFault, SameBuildFault}
use Rattle.patr_model.specs.Renaming.{Both}
use Rattle.patr_model.specs.GrammarText as text
use Rattle.patr_model.specs.Faults.{at_line, at_place}
use Rattle.std.specs.declared.string.String.{String}
use Rattle.std.proofs.lemmas.Result.{IfOk-weaker}
use Rattle.patr_model.specs.Lexemes.{by_text}
use Rattle.patr_model.specs.Tokens.{Place, Token, Scanned, after, start_place, tokens_of}
use Rattle.patr_model.proofs.FullRows.{GrammarIsFull, grammar_full, lexicon_full}
use Rattle.patr_model.proofs.SameBuilds.{same_build, fault_same}
use Rattle.patr_expand.specs.declared.cause.ExpandCause.{ExpandCause}
use Rattle.patr_grammar.specs.Reading.{StandsFor}
use Rattle.patr_grammar.proofs.Meanings.{same_texts}
use Rattle.patr_lexicon.specs.Reading.{StandsFor as StandForEntries}
use Rattle.patr_grammar.specs.declared.grammar.Grammar.{Grammar}
use Rattle.patr_grammar.proofs.Grown.{grammar_still}
use Rattle.patr_lexicon.specs.declared.lexicon.Entry.{Entry}
use Rattle.patr_lexicon.specs.Reading.{AreEntriesOf}
use Rattle.patr_reply.specs.Held.{AreHeldBy}
use Rattle.patr_reply.proofs.Reading.{libraries_are_held}
use Rattle.patr_shell.specs.declared.state.State.{State}
use Rattle.patr_shell.specs.declared.status.GrammarTrouble.TheVariants as grammar_trouble
use Rattle.patr_shell.specs.declared.status.LexiconTrouble.TheVariants as lexicon_trouble
use Rattle.patr_shell.specs.declared.refusal.OpeningFault.{OpeningFault}
use Rattle.patr_shell.specs.declared.refusal.OpeningFault.TheVariants.{Refused, Memory}
use Rattle.patr_shell.specs.declared.refusal.Refusal.TheVariants as refusal
use Rattle.patr_shell.specs.Loaded.{ReadsGrammar, ReadsLexicon, IsBuiltOf, IsBuildFault, IsToldOf}

-- ---- by the table and by a numbering

number_is : (N : Numbering) (table : List (List ℕ)) → AgreesWith N table → (i : Id) (t : List ℕ) → IsText table i t → number i ≡ N.number t
number_is N table agrees i t at = sym (agrees i.0 t at)

keys_are : (N : Numbering) (table : List (List ℕ)) → Extends first_texts table → AgreesWith N table → keys ≡ keys_of N
unfolding first_texts
keys_are N table longer agrees =
    let cat = agrees 33 (codes "cat") (ap (λ t. slice_get t 33) longer.1) in
    let lex = agrees 34 (codes "lex") (ap (λ t. slice_get t 34) longer.1) in
    let gloss = agrees 35 (codes "gloss") (ap (λ t. slice_get t 35) longer.1) in
    λ i. record { cat = sym cat i; lex = sym lex i; gloss = sym gloss i }

-- nothing is alike to nothing alone
none_alike : {X Y : Type 0} (R : X → Y → Type 0) (ys : List Y) → Each R [] ys → ys ≡ []
none_alike R [] h = refl
none_alike R (y ∷ ys) h = absurd h

-- ---- a grammar and entries by a table

module _ (table : List (List ℕ)) (g : Grammar) (t : production.Grammar (List ℕ)) (es : List Entry) (ts : List EntryText) (once : IsTable table) (grammar : IsGrammar table g t) (entries : AreEntriesOf table es ts) where
  alike : (i j : Id) (a b : List ℕ) → IsText table i a → IsText table j b → same i j ≡ same_text a b
  alike = same_texts table once

  fault_is : Both (SameBuildFault (IsText table)) (build_fault same (grammar_of g) (entries_of es)) (build_fault same_text t ts)
  fault_is = fault_same (IsText table) same same_text alike (grammar_of g) t (entries_of es) ts grammar entries

  rules_are : (N : Numbering) → Extends first_texts table → AgreesWith N table → built_rules g es ≡ build N.number same_text (keys_of N) t ts
  rules_are N first agrees =
      ap (λ k. build number same k (grammar_of g) (entries_of es)) (keys_are N table first agrees)
      ∙ same_build (IsText table) number N.number (number_is N table agrees) same same_text alike (keys_of N) (grammar_of g) t (entries_of es) ts grammar entries

  grounds_are : (N : Numbering) → Extends first_texts table → AgreesWith N table → (s : Spoken) → IsBuiltFrom g es s.library → grounds N s ≡ model.grounds N t ts
  grounds_are N first agrees s built =
      let rules : rules_of s.library ≡ build N.number same_text (keys_of N) t ts =
      ap (λ x. built_rules x s.library.lexicon) built.grammar ∙ ap (built_rules g) built.lexicon ∙ rules_are N first agrees in
      let order : [] ≡ map N.number t.order = ap (map N.number) (sym (none_alike (IsText table) t.order (subst (λ o. Each (IsText table) o t.order) g.no_order grammar.order))) in
      λ i. record { names = N; rules = rules i; order = order i }

-- a grammar that is read has full rows
read_full : (bytes : List ℕ) (t : production.Grammar (List ℕ)) → text.reading stage bytes ≡ text.Reads t → GrammarIsFull t
read_full bytes t e = scanned (tokens_of bytes) e
  where
    end : Place
    end = after start_place bytes

    by : (ts : List Token) (o : production.Outcome Token (List ℕ)) → production.grammar by_text stage (codes "cat") ts ≡ o → text.of_outcome end o ≡ text.Reads t → GrammarIsFull t
    by ts (production.Stands g) is h = let one : g ≡ t = cc in subst GrammarIsFull one (grammar_full by_text stage (codes "cat") ts g is)
    by ts production.NoRules is h = cc
    by ts (production.Refused r rest) is h = cc

    scanned : (s : Scanned) → text.of_scanned stage end s ≡ text.Reads t → GrammarIsFull t
    scanned (Ok ts) h = by ts (production.grammar by_text stage (codes "cat") ts) refl h
    scanned (Err p) h = cc

-- a library of what was read by a table is held by it
pub library_held : (table : List (List ℕ)) (g : Grammar) (es : List Entry) (g_bytes l_bytes : List ℕ) → StandsFor table g_bytes g → StandForEntries table l_bytes es → (s : Stored) → IsBuiltFrom g es s → AreHeldBy (length table) s
library_held table g es g_bytes l_bytes grammar entries s built =
    let t = grammar.0 in
    let ts = entries.0 in
    libraries_are_held table s t ts (subst (λ x. IsGrammar table x t) (sym built.grammar) grammar.2) (subst (λ l. AreEntriesOf table l ts) (sym built.lexicon) entries.2)
    (read_full g_bytes t grammar.1.1).templates (lexicon_full stage l_bytes ts entries.1.1)
    (subst (λ x. build_fault same (grammar_of x) (entries_of s.lexicon) ≡ None) (sym built.grammar) (subst (λ l. build_fault same (grammar_of g) (entries_of l) ≡ None) (sym built.lexicon) built.faultless))

-- ---- what the build refuses

both_none : {X Y : Type 0} (R : X → Y → Type 0) (o : Option X) (u : Option Y) → Both R o u → o ≡ None → u ≡ None
both_none R None None h e = refl
both_none R (Some x) (Some y) h e = absurd cc
both_none R _ _ h e = absurd h

both_some : {X Y : Type 0} (R : X → Y → Type 0) (o : Option X) (u : Option Y) (x : X) → Both R o u → o ≡ Some x → (y : Y) × (u ≡ Some y) × R x y
both_some R (Some z) (Some y) x h e = (y, refl, subst (λ w. R w y) (some_inj z x e) h)
both_some R None None x h e = absurd cc
both_some R _ _ x h e = absurd h

-- a fault is told in one way by a table
pub told_once : (table : List (List ℕ)) (c : ExpandFault Id) (e f : ExpandFault (List ℕ)) → SameExpandFault (IsText table) c e → SameExpandFault (IsText table) c f → e ≡ f
told_once table (UnknownName w p) (UnknownName a q) (UnknownName b r) h k =
    let text : a ≡ b = some_inj a b (sym h.0 ∙ k.0) in
    let place : q ≡ r = sym h.1 ∙ k.1 in
    λ i. UnknownName (text i) (place i)
told_once table (TooManyVariants n m) (TooManyVariants a b) (TooManyVariants c d) h k = λ i. TooManyVariants ((sym h.0 ∙ k.0) i) ((sym h.1 ∙ k.1) i)
told_once table (TooManyEquations n m) (TooManyEquations a b) (TooManyEquations c d) h k = λ i. TooManyEquations ((sym h.0 ∙ k.0) i) ((sym h.1 ∙ k.1) i)
told_once table (UnknownName w p) (UnknownName a q) (TooManyVariants b r) h k = absurd k
told_once table (UnknownName w p) (UnknownName a q) (TooManyEquations b r) h k = absurd k
told_once table (TooManyVariants n m) (TooManyVariants a b) (UnknownName c d) h k = absurd k
told_once table (TooManyVariants n m) (TooManyVariants a b) (TooManyEquations c d) h k = absurd k
told_once table (TooManyEquations n m) (TooManyEquations a b) (UnknownName c d) h k = absurd k
told_once table (TooManyEquations n m) (TooManyEquations a b) (TooManyVariants c d) h k = absurd k
told_once table c e f h k = absurd h

-- lines that tell a fault of a build
module _ (table : List (List ℕ)) (file : List ℕ) where
  pub name_told : {E : Type 0} (name : Id) (n k : ℕ) (f : ExpandFault (List ℕ)) (r : Result (String Global) E) → SameExpandFault (IsText table) (UnknownName name (record { line = n; column = k })) f
      → ((t : List ℕ) → IsText table name t → IfOk r (λ text. string_bytes text ≡ at_place file (record { line = n; column = k }) (codes "unknown name: " ++ t)))
      → IfOk r (λ text. string_bytes text ≡ expand_fault_line file f)
  name_told name n k (UnknownName t p) r h line = IfOk-weaker r _ _ (λ text e. e ∙ ap (λ (q : Place). at_place file q (codes "unknown name: " ++ t)) h.1) (line t h.0)
  name_told name n k (TooManyVariants a b) r h line = absurd h
  name_told name n k (TooManyEquations a b) r h line = absurd h

  pub variants_told : {E : Type 0} (n count : ℕ) (f : ExpandFault (List ℕ)) (r : Result (String Global) E) → SameExpandFault {W = Id} (IsText table) (TooManyVariants n count) f
      → IfOk r (λ text. string_bytes text ≡ at_line file n (codes "more than 256 variants (" ++ decimal count ++ codes ")")) → IfOk r (λ text. string_bytes text ≡ expand_fault_line file f)
  variants_told n count (TooManyVariants a b) r h line = IfOk-weaker r _ _ (λ text e. e ∙ (λ i. at_line file (h.0 i) (codes "more than 256 variants (" ++ decimal (h.1 i) ++ codes ")"))) line
  variants_told n count (UnknownName t p) r h line = absurd h
  variants_told n count (TooManyEquations a b) r h line = absurd h

  pub equations_told : {E : Type 0} (n count : ℕ) (f : ExpandFault (List ℕ)) (r : Result (String Global) E) → SameExpandFault {W = Id} (IsText table) (TooManyEquations n count) f
      → IfOk r (λ text. string_bytes text ≡ at_line file n (codes "more than 1024 equations (" ++ decimal count ++ codes ")")) → IfOk r (λ text. string_bytes text ≡ expand_fault_line file f)
  equations_told n count (TooManyEquations a b) r h line = IfOk-weaker r _ _ (λ text e. e ∙ (λ i. at_line file (h.0 i) (codes "more than 1024 equations (" ++ decimal (h.1 i) ++ codes ")"))) line
  equations_told n count (UnknownName t p) r h line = absurd h
  equations_told n count (TooManyVariants a b) r h line = absurd h

module _ (table : List (List ℕ)) (once : IsTable table) (g : Grammar) (es : List Entry) (g_bytes l_bytes : List ℕ) (grammar : StandsFor table g_bytes g) (entries : StandForEntries table l_bytes es) (cause : ExpandCause) where
  abbrev its_fault : Option (BuildFault Id)
  its_fault = build_fault same (grammar_of g) (entries_of es)

  -- the build's fault, told by the table
  pub grammar_told : its_fault ≡ Some (InGrammar (cause_seen cause)) → (f : ExpandFault (List ℕ)) × SameExpandFault (IsText table) (cause_seen cause) f
  grammar_told is = go (both_some (SameBuildFault (IsText table)) its_fault _ _ (fault_is table g grammar.0 es entries.0 once grammar.2 entries.2) is)
    where
      go : (y : BuildFault (List ℕ)) × (build_fault same_text grammar.0 entries.0 ≡ Some y) × SameBuildFault (IsText table) (InGrammar (cause_seen cause)) y → (f : ExpandFault (List ℕ)) × SameExpandFault (IsText table) (cause_seen cause) f
      go (InGrammar f, e, h) = (f, h)
      go (InLexicon f, e, h) = absurd h

  pub lexicon_told : its_fault ≡ Some (InLexicon (cause_seen cause)) → (f : ExpandFault (List ℕ)) × SameExpandFault (IsText table) (cause_seen cause) f
  lexicon_told is = go (both_some (SameBuildFault (IsText table)) its_fault _ _ (fault_is table g grammar.0 es entries.0 once grammar.2 entries.2) is)
    where
      go : (y : BuildFault (List ℕ)) × (build_fault same_text grammar.0 entries.0 ≡ Some y) × SameBuildFault (IsText table) (InLexicon (cause_seen cause)) y → (f : ExpandFault (List ℕ)) × SameExpandFault (IsText table) (cause_seen cause) f
      go (InLexicon f, e, h) = (f, h)
      go (InGrammar f, e, h) = absurd h

-- ---- the two files of a run

module _ (old table : List (List ℕ)) (longer : Extends old table) (files : Option Files) (setup : Setup) (grammar : Grammar) (entries : List Entry)
    (once : IsTable table) (g : ReadsGrammar files setup.grammar old grammar) (l : ReadsLexicon files setup.lexicon table entries) where
  pub is_read : IsGrammar table grammar g.stands.0
  is_read = grammar_still old table longer grammar g.stands.0 g.stands.2

  pub stands_still : StandsFor table g.bytes grammar
  stands_still = (g.stands.0, g.stands.1, is_read)

  builds : (fault : Option (BuildFault (List ℕ))) → build_fault same_text g.stands.0 l.stands.0 ≡ fault → Builds files setup.grammar setup.lexicon fault
  builds fault is = record {
    grammar_bytes = g.bytes;
    rules = g.stands.0;
    grammar_file = g.file;
    grammar_short = g.short;
    reads_grammar = g.stands.1;
    lexicon_bytes = l.bytes;
    entries = l.stands.0;
    lexicon_file = l.file;
    lexicon_short = l.short;
    reads_lexicon = l.stands.1;
    is = is;
  }

  is_alike : Both (SameBuildFault (IsText table)) (build_fault same (grammar_of grammar) (entries_of entries)) (build_fault same_text g.stands.0 l.stands.0)
  is_alike = fault_is table grammar g.stands.0 entries l.stands.0 once is_read l.stands.2

  -- a fault that a line tells is the build's
  bad_grammar : (cause : ExpandCause) (told : List ℕ) (f : ExpandFault (List ℕ)) → build_fault same (grammar_of grammar) (entries_of entries) ≡ Some (InGrammar (cause_seen cause)) → IsToldOf table (codes "grammar") cause f told
      → HasBadGrammar files setup (grammar_trouble.Expand cause) told
  bad_grammar cause told f is t = go (both_some (SameBuildFault (IsText table)) _ _ _ is_alike is)
    where
      go : (y : BuildFault (List ℕ)) × (build_fault same_text g.stands.0 l.stands.0 ≡ Some y) × SameBuildFault (IsText table) (InGrammar (cause_seen cause)) y → HasBadGrammar files setup (grammar_trouble.Expand cause) told
      go (InGrammar e, at, h) = (e, builds (Some (InGrammar e)) at, (table, h), t.1 ∙ ap (λ (x : ExpandFault (List ℕ)). expand_fault_line (codes "grammar") x) (told_once table (cause_seen cause) f e t.0 h))
      go (InLexicon e, at, h) = absurd h

  bad_lexicon : (cause : ExpandCause) (told : List ℕ) (f : ExpandFault (List ℕ)) → build_fault same (grammar_of grammar) (entries_of entries) ≡ Some (InLexicon (cause_seen cause)) → IsToldOf table (codes "lexicon") cause f told
      → HasBadLexicon files setup (lexicon_trouble.Expand cause) told
  bad_lexicon cause told f is t = go (both_some (SameBuildFault (IsText table)) _ _ _ is_alike is)
    where
      go : (y : BuildFault (List ℕ)) × (build_fault same_text g.stands.0 l.stands.0 ≡ Some y) × SameBuildFault (IsText table) (InLexicon (cause_seen cause)) y → HasBadLexicon files setup (lexicon_trouble.Expand cause) told
      go (InLexicon e, at, h) = (e, builds (Some (InLexicon e)) at, (table, h), t.1 ∙ ap (λ (x : ExpandFault (List ℕ)). expand_fault_line (codes "lexicon") x) (told_once table (cause_seen cause) f e t.0 h))
      go (InGrammar e, at, h) = absurd h

  no_fault : build_fault same (grammar_of grammar) (entries_of entries) ≡ None → Builds files setup.grammar setup.lexicon None
  no_fault is = builds None (both_none (SameBuildFault (IsText table)) _ _ is_alike is)

-- a file that is read as a grammar has one
pub has_grammar : (files : Option Files) (name : List ℕ) (table : List (List ℕ)) (grammar : Grammar) → ReadsGrammar files name table grammar → HasGrammar files name
has_grammar files name table grammar g = (g.bytes, g.stands.0, g.file, g.short, g.stands.1)

module _ (words : List (List ℕ)) (setup : Setup) (named : Names words setup) (old table : List (List ℕ)) (longer : Extends old table) (grammar : Grammar) (entries : List Entry) (once : IsTable table) where
  module _ (files : Option Files) (g : ReadsGrammar files setup.grammar old grammar) (l : ReadsLexicon files setup.lexicon table entries) where
    -- what was opened stands on both files
    pub have_session : (s : Spoken) → IsBuiltOf table grammar entries s → HaveSession words files
    have_session s built = (setup, named, no_fault old table longer files setup grammar entries once g l built.library.faultless)

    -- what the build refuses has its cause
    pub build_refused : (fault : OpeningFault) → IsBuildFault table grammar entries fault → IsFaultOf words files fault
    build_refused (Refused (refusal.Grammar (grammar_trouble.Expand c)) told) is = (setup, named, bad_grammar old table longer files setup grammar entries once g l c (string_bytes told) is.1 is.0 is.2)
    build_refused (Refused (refusal.Lexicon (lexicon_trouble.Expand c)) told) is =
        (setup, named, has_grammar files setup.grammar old grammar g, bad_lexicon old table longer files setup grammar entries once g l c (string_bytes told) is.1 is.0 is.2)
    build_refused Memory is = tt
    build_refused _ is = cc

  opens : (f : Files) → ReadsGrammar (Some f) setup.grammar old grammar → ReadsLexicon (Some f) setup.lexicon table entries
      → Extends first_texts table → (s : Spoken) → IsBuiltOf table grammar entries s → (st : State) → state_seen st ≡ first_state setup → IsOpened words f s st
  opens f g l first s built st is = λ N agrees.
      let here : AgreesWith N table = subst (AgreesWith N) built.texts agrees in
      let read = is_read old table longer (Some f) setup grammar entries once g l in
      let fault = both_none (SameBuildFault (IsText table)) _ _ (fault_is table grammar g.stands.0 entries l.stands.0 once read l.stands.2) built.library.faultless in
      let whole = grounds_are table grammar g.stands.0 entries l.stands.0 once read l.stands.2 N first here s built.library in
      inr (
        setup,
        named,
        run.read g.bytes g.stands.0 g.file g.short g.stands.1
            (run.built l.bytes l.stands.0 (grounds N s) l.file l.short l.stands.1 (fault, whole) (ap (λ z. run.Session (grounds N s) z) is)),
      )

  pub is_opened : (files : Option Files) → ReadsGrammar files setup.grammar old grammar → ReadsLexicon files setup.lexicon table entries
      → Extends first_texts table → (s : Spoken) → IsBuiltOf table grammar entries s → (st : State) → state_seen st ≡ first_state setup → IfSome files (λ f. IsOpened words f s st)
  is_opened None g l first s built st is = tt
  is_opened (Some f) g l first s built st is = opens f g l first s built st is

pub first_few : length first_texts ≡ 38
unfolding first_texts
first_few = refl
