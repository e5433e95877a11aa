-- The words and the files of a run come to one opening, and a run has one text and one ending.
use Rattle.std.proofs.Common.{◌≡◌, inl, inr, ℕ, Bool, List, ◌++◌, length, take, Option, Some, None, sym, ap, ◌∙◌, subst, arith, IsUtf8, true, false, true≢false, codes, ◌^◌}
use Rattle.std.proofs.Math.Seq.{take-length}
use Rattle.std.proofs.lemmas.Bool.{cases_lt}
use Rattle.patr_model.specs.Session.{Numbering, Grounds, State, Command, LineForms, Replied, line, lines_of, whole_lines_of}
use Rattle.patr_model.specs.Run.{Ending, Setup, Notations, Opening, Session, Refusal, BadGrammar, BadLexicon, first_state, IsSession, ended, quit, too_long, AfterGrammar, absent, long, fault, refused, built, AfterWords, read, IsOpening, Follows}
use Rattle.patr_model.specs.Stages.{Stage}
use Rattle.patr_model.specs.Productions.{Grammar}
use Rattle.patr_model.specs.Faults.{StopsUtf8, FileFault, NotText, Misread, RefusesBytes}
use Rattle.patr_model.specs.GrammarText as grammar_text
use Rattle.patr_model.specs.GrammarText.{ReadsGrammar, IsRead, grammar_fault_line, HasGrammarFault}
use Rattle.patr_model.specs.LexiconText as lexicon_text
use Rattle.patr_model.specs.LexiconText.{EntryText, ReadsLexicon, AreRead, lexicon_fault_line, HasLexiconFault}
use Rattle.patr_model.specs.Build.{build_fault_line}
use Rattle.patr_model.specs.Renaming.{SameGrounds, IgnoresNumbers}
use Rattle.patr_model.specs.Openings.{HasOneOpening, HasOneOut}
use Rattle.patr_model.specs.Notations as stages
use Rattle.patr_model.proofs.Maps.{some_inj}
use Rattle.patr_model.proofs.Canonical.{least_texts}
use Rattle.patr_model.proofs.RenamedRuns.{one_session, stage_same}

-- Notations that read, refuse and build one thing, and read nothing that they refuse.
module _ (notation : Notations) (N : Numbering)
    (one_grammar : (b : List ℕ) (g h : notation.grammar_text) → notation.reads_grammar N b g → notation.reads_grammar N b h → g ≡ h)
    (one_grammar_fault : (b x y : List ℕ) → notation.grammar_fault N b x → notation.grammar_fault N b y → x ≡ y)
    (no_grammar_fault : (b x : List ℕ) (g : notation.grammar_text) → notation.reads_grammar N b g → notation.grammar_fault N b x → ⊥)
    (one_lexicon : (b : List ℕ) (l k : notation.lexicon_text) → notation.reads_lexicon N b l → notation.reads_lexicon N b k → l ≡ k)
    (one_lexicon_fault : (b x y : List ℕ) → notation.lexicon_fault N b x → notation.lexicon_fault N b y → x ≡ y)
    (no_lexicon_fault : (b x : List ℕ) (l : notation.lexicon_text) → notation.reads_lexicon N b l → notation.lexicon_fault N b x → ⊥)
    (one_refusal : (g : notation.grammar_text) (l : notation.lexicon_text) (x y : List ℕ) (e f : Ending) → notation.refuses N g l x e → notation.refuses N g l y f → (x ≡ y) × (e ≡ f))
    (no_refusal : (g : notation.grammar_text) (l : notation.lexicon_text) (x : List ℕ) (e : Ending) (s : Grounds) → notation.builds N g l s → notation.refuses N g l x e → ⊥)
    (one_build : (g : notation.grammar_text) (l : notation.lexicon_text) (s s' : Grounds) → notation.builds N g l s → notation.builds N g l s' → s ≡ s') where
  bytes_one : (o : Option (List ℕ)) (b c : List ℕ) → o ≡ Some b → o ≡ Some c → b ≡ c
  bytes_one o b c p q = some_inj b c (sym p ∙ q)

  after_grammar : (setup : Setup) (g h : notation.grammar_text) → g ≡ h → (bytes : Option (List ℕ)) (o u : Opening) → AfterGrammar notation N setup g bytes o → AfterGrammar notation N setup h bytes u → o ≡ u
  after_grammar setup g h same bytes o u (absent q p) (absent q' p') = p ∙ sym p'
  after_grammar setup g h same bytes o u (absent q p) (long c q' l' p') = cc
  after_grammar setup g h same bytes o u (absent q p) (fault c q' l' y t' p') = cc
  after_grammar setup g h same bytes o u (absent q p) (refused c k q' l' r' y f t' p') = cc
  after_grammar setup g h same bytes o u (absent q p) (built c k s' q' l' r' t' p') = cc
  after_grammar setup g h same bytes o u (long b q l p) (absent q' p') = cc
  after_grammar setup g h same bytes o u (long b q l p) (long c q' l' p') = p ∙ sym p'
  after_grammar setup g h same bytes o u (long b q l p) (fault c q' l' y t' p') = let e = ap length (bytes_one bytes b c q q') in absurd (omega (arith, l, l'))
  after_grammar setup g h same bytes o u (long b q l p) (refused c k q' l' r' y f t' p') = let e = ap length (bytes_one bytes b c q q') in absurd (omega (arith, l, l'))
  after_grammar setup g h same bytes o u (long b q l p) (built c k s' q' l' r' t' p') = let e = ap length (bytes_one bytes b c q q') in absurd (omega (arith, l, l'))
  after_grammar setup g h same bytes o u (fault b q l x t p) (absent q' p') = cc
  after_grammar setup g h same bytes o u (fault b q l x t p) (long c q' l' p') = let e = ap length (bytes_one bytes b c q q') in absurd (omega (arith, l, l'))
  after_grammar setup g h same bytes o u (fault b q l x t p) (fault c q' l' y t' p') =
      p ∙ (ap (λ z. Refusal z BadLexicon) (one_lexicon_fault c x y (subst (λ z. notation.lexicon_fault N z x) (bytes_one bytes b c q q') t) t') ∙ sym p')
  after_grammar setup g h same bytes o u (fault b q l x t p) (refused c k q' l' r' y f t' p') =
      absurd (no_lexicon_fault c x k r' (subst (λ z. notation.lexicon_fault N z x) (bytes_one bytes b c q q') t))
  after_grammar setup g h same bytes o u (fault b q l x t p) (built c k s' q' l' r' t' p') =
      absurd (no_lexicon_fault c x k r' (subst (λ z. notation.lexicon_fault N z x) (bytes_one bytes b c q q') t))
  after_grammar setup g h same bytes o u (refused b m q l r x e t p) (absent q' p') = cc
  after_grammar setup g h same bytes o u (refused b m q l r x e t p) (long c q' l' p') = let e = ap length (bytes_one bytes b c q q') in absurd (omega (arith, l, l'))
  after_grammar setup g h same bytes o u (refused b m q l r x e t p) (fault c q' l' y t' p') =
      absurd (no_lexicon_fault c y m (subst (λ z. notation.reads_lexicon N z m) (bytes_one bytes b c q q') r) t')
  after_grammar setup g h same bytes o u (refused b m q l r x e t p) (refused c k q' l' r' y f t' p') =
      let lexicon = one_lexicon c m k (subst (λ z. notation.reads_lexicon N z m) (bytes_one bytes b c q q') r) r' in
      let one = one_refusal h k x y e f (subst (λ z. notation.refuses N z k x e) same (subst (λ z. notation.refuses N g z x e) lexicon t)) t' in
      p ∙ (ap (λ z. Refusal z e) one.0 ∙ (ap (λ z. Refusal y z) one.1 ∙ sym p'))
  after_grammar setup g h same bytes o u (refused b m q l r x e t p) (built c k s' q' l' r' t' p') =
      let lexicon = one_lexicon c m k (subst (λ z. notation.reads_lexicon N z m) (bytes_one bytes b c q q') r) r' in
      absurd (no_refusal h k x e s' t' (subst (λ z. notation.refuses N z k x e) same (subst (λ z. notation.refuses N g z x e) lexicon t)))
  after_grammar setup g h same bytes o u (built b m s q l r t p) (absent q' p') = cc
  after_grammar setup g h same bytes o u (built b m s q l r t p) (long c q' l' p') = let e = ap length (bytes_one bytes b c q q') in absurd (omega (arith, l, l'))
  after_grammar setup g h same bytes o u (built b m s q l r t p) (fault c q' l' y t' p') =
      absurd (no_lexicon_fault c y m (subst (λ z. notation.reads_lexicon N z m) (bytes_one bytes b c q q') r) t')
  after_grammar setup g h same bytes o u (built b m s q l r t p) (refused c k q' l' r' y f t' p') =
      let lexicon = one_lexicon c m k (subst (λ z. notation.reads_lexicon N z m) (bytes_one bytes b c q q') r) r' in
      absurd (no_refusal h k y f s (subst (λ z. notation.builds N z k s) same (subst (λ z. notation.builds N g z s) lexicon t)) t')
  after_grammar setup g h same bytes o u (built b m s q l r t p) (built c k s' q' l' r' t' p') =
      let lexicon = one_lexicon c m k (subst (λ z. notation.reads_lexicon N z m) (bytes_one bytes b c q q') r) r' in
      p ∙ (ap (λ z. Session z (first_state setup)) (one_build h k s s' (subst (λ z. notation.builds N z k s) same (subst (λ z. notation.builds N g z s) lexicon t)) t') ∙ sym p')

  after_words : (setup : Setup) (files : List ℕ → Option (List ℕ)) (o u : Opening) → AfterWords notation N setup files o → AfterWords notation N setup files u → o ≡ u
  after_words setup files o u (absent q p) (absent q' p') = p ∙ sym p'
  after_words setup files o u (absent q p) (long c q' l' p') = cc
  after_words setup files o u (absent q p) (fault c q' l' y t' p') = cc
  after_words setup files o u (absent q p) (read c h q' l' r' t') = cc
  after_words setup files o u (long b q l p) (absent q' p') = cc
  after_words setup files o u (long b q l p) (long c q' l' p') = p ∙ sym p'
  after_words setup files o u (long b q l p) (fault c q' l' y t' p') = let e = ap length (bytes_one (files setup.grammar) b c q q') in absurd (omega (arith, l, l'))
  after_words setup files o u (long b q l p) (read c h q' l' r' t') = let e = ap length (bytes_one (files setup.grammar) b c q q') in absurd (omega (arith, l, l'))
  after_words setup files o u (fault b q l x t p) (absent q' p') = cc
  after_words setup files o u (fault b q l x t p) (long c q' l' p') = let e = ap length (bytes_one (files setup.grammar) b c q q') in absurd (omega (arith, l, l'))
  after_words setup files o u (fault b q l x t p) (fault c q' l' y t' p') =
      p ∙ (ap (λ z. Refusal z BadGrammar) (one_grammar_fault c x y (subst (λ z. notation.grammar_fault N z x) (bytes_one (files setup.grammar) b c q q') t) t') ∙ sym p')
  after_words setup files o u (fault b q l x t p) (read c h q' l' r' t') =
      absurd (no_grammar_fault c x h r' (subst (λ z. notation.grammar_fault N z x) (bytes_one (files setup.grammar) b c q q') t))
  after_words setup files o u (read b g q l r t) (absent q' p') = cc
  after_words setup files o u (read b g q l r t) (long c q' l' p') = let e = ap length (bytes_one (files setup.grammar) b c q q') in absurd (omega (arith, l, l'))
  after_words setup files o u (read b g q l r t) (fault c q' l' y t' p') =
      absurd (no_grammar_fault c y g (subst (λ z. notation.reads_grammar N z g) (bytes_one (files setup.grammar) b c q q') r) t')
  after_words setup files o u (read b g q l r t) (read c h q' l' r' t') =
      let same = one_grammar c g h (subst (λ z. notation.reads_grammar N z g) (bytes_one (files setup.grammar) b c q q') r) r' in
      after_grammar setup g h same (files setup.lexicon) o u t t'

  pub one_opening : (words : List (List ℕ)) (files : List ℕ → Option (List ℕ)) (o u : Opening) → IsOpening notation N words files o → IsOpening notation N words files u → o ≡ u
  one_opening words files o u (inl h) (inl k) = h.1 ∙ sym k.1
  one_opening words files o u (inl h) (inr k) = let e = h.0 in let f = k.1 in cc
  one_opening words files o u (inr h) (inl k) = let e = h.1 in let f = k.0 in cc
  one_opening words files o u (inr h) (inr k) =
      let e = some_inj h.0 k.0 (sym h.1 ∙ k.1) in
      after_words k.0 files o u (subst (λ z. AfterWords notation N z files o) e h.2) k.2

-- ---- what bytes stand for

-- bytes that are a text stop nowhere
pub whole_text : (b : List ℕ) (n : ℕ) → IsUtf8 b → StopsUtf8 b n → ⊥
whole_text b n u s = s.2 (length b) s.0 (omega arith) (subst IsUtf8 (sym (take-length b)) u)

-- bytes that are no text stop at one place
pub one_stop : (b : List ℕ) (n m : ℕ) → StopsUtf8 b n → StopsUtf8 b m → n ≡ m
one_stop b n m s t = elim (cases_lt n m) [
  | inl l ↦ absurd (s.2 m l (omega (arith, t.0)) t.1)
  | inr ge ↦ elim (cases_lt m n) [ inl l ↦ absurd (t.2 n l (omega (arith, s.0)) s.1) | inr le ↦ omega (arith, ge, le) ]
]

module _ {R : Type 0} (reading : List ℕ → R) (stands : R → Type 0) (b : List ℕ) where
  -- bytes that stand for something have no fault
  no_fault : (r : R) → IsUtf8 b → reading b ≡ r → stands r → (t : FileFault R) → RefusesBytes reading stands b t → ⊥
  no_fault r u q s (NotText n) h = whole_text b n u h
  no_fault r u q s (Misread m) h = h.2 (subst stands (sym q ∙ h.1) s)

  -- bytes have one fault
  one_fault : (t u : FileFault R) → RefusesBytes reading stands b t → RefusesBytes reading stands b u → t ≡ u
  one_fault (NotText n) (NotText m) h k = ap (λ z. NotText z) (one_stop b n m h k)
  one_fault (NotText n) (Misread q) h k = absurd (whole_text b n k.0 h)
  one_fault (Misread p) (NotText m) h k = absurd (whole_text b m h.0 k)
  one_fault (Misread p) (Misread q) h k = ap (λ z. Misread z) (sym h.1 ∙ k.1)

-- bytes stand for one grammar, have one fault line, and not both
pub one_grammar : (s : Stage) (b : List ℕ) (g h : Grammar (List ℕ)) → ReadsGrammar s b g → ReadsGrammar s b h → g ≡ h
one_grammar s b g h r t = let e : grammar_text.Reads g ≡ grammar_text.Reads h = sym r.1 ∙ t.1 in cc

pub no_grammar_fault : (s : Stage) (b x : List ℕ) (g : Grammar (List ℕ)) → ReadsGrammar s b g → HasGrammarFault s b x → ⊥
no_grammar_fault s b x g r f = no_fault (grammar_text.reading s) IsRead b (grammar_text.Reads g) r.0 r.1 tt f.0 f.1

pub one_grammar_fault : (s : Stage) (b x y : List ℕ) → HasGrammarFault s b x → HasGrammarFault s b y → x ≡ y
one_grammar_fault s b x y f g = f.2 ∙ (ap grammar_fault_line (one_fault (grammar_text.reading s) IsRead b f.0 g.0 f.1 g.1) ∙ sym g.2)

-- bytes stand for one list of entries, have one fault line, and not both
pub one_lexicon : (s : Stage) (b : List ℕ) (l k : List EntryText) → ReadsLexicon s b l → ReadsLexicon s b k → l ≡ k
one_lexicon s b l k r t = let e : lexicon_text.Reads l ≡ lexicon_text.Reads k = sym r.1 ∙ t.1 in cc

pub no_lexicon_fault : (s : Stage) (b x : List ℕ) (l : List EntryText) → ReadsLexicon s b l → HasLexiconFault s b x → ⊥
no_lexicon_fault s b x l r f = no_fault (lexicon_text.reading s) AreRead b (lexicon_text.Reads l) r.0 r.1 tt f.0 f.1

pub one_lexicon_fault : (s : Stage) (b x y : List ℕ) → HasLexiconFault s b x → HasLexiconFault s b y → x ≡ y
one_lexicon_fault s b x y f g = f.2 ∙ (ap lexicon_fault_line (one_fault (lexicon_text.reading s) AreRead b f.0 g.0 f.1 g.1) ∙ sym g.2)

-- ---- the session

module _ (notation : Notations) (s : Grounds) (one_more : (st : State) (c : Command) (x y : List ℕ) → notation.lines.more s st c x → notation.lines.more s st c y → x ≡ y) where
  one_end : (st : State) (ls : List (List ℕ)) (x y : List ℕ) (q q' : Bool) → Replied notation.judge notation.lines s st ls x q → Replied notation.judge notation.lines s st ls y q' → (x ≡ y) × (q ≡ q')
  one_end = one_session notation.judge notation.lines s (least_texts s) one_more

  pub session_one : (st : State) (input x y : List ℕ) (e f : Ending) → IsSession notation s st input x e → IsSession notation s st input y f → (x ≡ y) × (e ≡ f)
  session_one st input x y e f (ended l q r p) (ended l' q' r' p') = ((one_end st (lines_of input) x y q q' r r').0, p ∙ sym p')
  session_one st input x y e f (ended l q r p) (quit l' r' p') = absurd (omega (arith, l, l'))
  session_one st input x y e f (ended l q r p) (too_long l' b' r' t' p') = absurd (omega (arith, l, l'))
  session_one st input x y e f (quit l r p) (ended l' q' r' p') = absurd (omega (arith, l, l'))
  session_one st input x y e f (quit l r p) (quit l' r' p') = ((one_end st (whole_lines_of (take (2 ^ 24) input)) x y true true r r').0, p ∙ sym p')
  session_one st input x y e f (quit l r p) (too_long l' b' r' t' p') = absurd (true≢false (one_end st (whole_lines_of (take (2 ^ 24) input)) x b' true false r r').1)
  session_one st input x y e f (too_long l b r t p) (ended l' q' r' p') = absurd (omega (arith, l, l'))
  session_one st input x y e f (too_long l b r t p) (quit l' r' p') = absurd (true≢false (sym (one_end st (whole_lines_of (take (2 ^ 24) input)) b y false true r r').1))
  session_one st input x y e f (too_long l b r t p) (too_long l' b' r' t' p') =
      (t ∙ (ap (λ z. z ++ line (codes "error: input longer than 16777216 bytes")) (one_end st (whole_lines_of (take (2 ^ 24) input)) b b' false false r r').0 ∙ sym t'), p ∙ sym p')

-- a run of any notations whose openings are one, and whose runs ignore numbers
module _ (notation : Notations) (one_more : (s : Grounds) (st : State) (c : Command) (x y : List ℕ) → notation.lines.more s st c x → notation.lines.more s st c y → x ≡ y) where
  follows_one : (o : Opening) (input x y : List ℕ) (e f : Ending) → Follows notation o input x e → Follows notation o input y f → (x ≡ y) × (e ≡ f)
  follows_one (Session s st) input x y e f h k = session_one notation s (one_more s) st input x y e f h k
  follows_one (Refusal before end) input x y e f h k = (h.0 ∙ sym k.0, h.1 ∙ sym k.1)

  one_out : HasOneOpening notation → IgnoresNumbers notation → HasOneOut notation
  one_out openings ignores N X words files input x y e f h k =
      let moved = ignores N X words files input x e h in
      let same = openings X words files moved.0 k.0 moved.1 k.1 in
      follows_one k.0 input x y e f (subst (λ o. Follows notation o input x e) same moved.2) k.2

-- ---- the notations of a stage

module _ (stage : Stage) (forms : LineForms) where
  pub stage_openings : HasOneOpening (stages.notations stage forms)
  stage_openings N = one_opening (stages.notations stage forms) N (one_grammar stage) (one_grammar_fault stage) (no_grammar_fault stage) (one_lexicon stage) (one_lexicon_fault stage) (no_lexicon_fault stage)
      (λ g l x y e f r t.
      let same = some_inj r.0 t.0 (sym r.1 ∙ t.1) in
      (r.2 ∙ (ap build_fault_line same ∙ sym t.2), r.3 ∙ (ap stages.fault_ending same ∙ sym t.3)))
      (λ g l x e s b r. let bad : None ≡ Some r.0 = sym b.0 ∙ r.1 in cc) (λ g l s s' b c. b.1 ∙ sym c.1)

  pub stage_runs : ((s s' : Grounds) → SameGrounds s s' → (st : State) (c : Command) (x : List ℕ) → forms.more s st c x → forms.more s' st c x)
      → ((s : Grounds) (st : State) (c : Command) (x y : List ℕ) → forms.more s st c x → forms.more s st c y → x ≡ y) → HasOneOut (stages.notations stage forms)
  stage_runs more_same one_more = one_out (stages.notations stage forms) one_more stage_openings (stage_same stage forms more_same one_more)
