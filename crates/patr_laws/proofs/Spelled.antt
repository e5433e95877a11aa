-- Paths and equations are read exactly as they are spelled.
use Rattle.std.proofs.Common.{◌≡◌, ℕ, zero, suc, ◌≤◌, Bool, true, false, cond, List, [], ◌∷◌, ◌++◌, length, map, refl, sym, ap, ◌∙◌, subst, arith, append_assoc, length-append}
use Rattle.std.specs.List.{AllByRecursion}
use Rattle.std.proofs.lemmas.Bool.Decides.{nat_tests}
use Rattle.patr_model.specs.declared.lookahead.Kind.TheVariants.{Less, Greater, Equal, Word}
use Rattle.patr_model.specs.declared.notation.What.{What}
use Rattle.patr_model.specs.declared.notation.What.TheVariants as what
use Rattle.patr_model.specs.Lexemes.{Words, by_text, is_kind, begins}
use Rattle.patr_model.specs.Parsing.{Expected, NotAConstituent, PathTooLong, Parse, Got, Stops, ◌>>=◌, Reads, one}
use Rattle.patr_model.specs.Productions.{PathText, TermText, AtomText, OfPath, EquationText, Head, first_word, fits_head, headed, room, word_list, attributes, head, path, term, equation}
use Rattle.patr_laws.specs.Spelling.{IsKind, IsPath, IsTerm, IsEquation, Takes, IsFound, IsOnly, PathsAreSpelled, EquationsAreSpelled}
use Rattle.patr_laws.proofs.Readings.{bind_got}

-- ---- one step

-- what is got is one thing, and what is left
pub got_value : {T W S X : Type 0} (x y : X) (s r : S) → ◌≡◌ {A = Parse T W S X} (Got x s) (Got y r) → x ≡ y
got_value x y s r e = cc

pub got_rest : {T W S X : Type 0} (x y : X) (s r : S) → ◌≡◌ {A = Parse T W S X} (Got x s) (Got y r) → s ≡ r
got_rest x y s r e = cc

pub one_got : {T W : Type 0} (test : T → Bool) (w : What) (ts : List T) (t : T) (rest : List T) → ◌≡◌ {A = Parse T W (List T) T} (one test w ts) (Got t rest) → (ts ≡ t ∷ rest) × (test t ≡ true)
one_got test w [] t rest e = absurd cc
one_got {T = T} {W = W} test w (u ∷ ts) t rest e = by (test u) refl e
  where
    by : (b : Bool) → test u ≡ b → ◌≡◌ {A = Parse T W (List T) T} (cond b (Got u ts) (Stops (Expected w) (u ∷ ts))) (Got t rest) → (u ∷ ts ≡ t ∷ rest) × (test t ≡ true)
    by true h e = let p : u ≡ t = cc in let q : ts ≡ rest = cc in (cc, subst (λ v. test v ≡ true) p h)
    by false h e = absurd cc

pub one_again : {T W : Type 0} (test : T → Bool) (w : What) (t : T) (rest : List T) → test t ≡ true → ◌≡◌ {A = Parse T W (List T) T} (one test w (t ∷ rest)) (Got t rest)
one_again test w t rest h = ap (λ b. cond b (Got t rest) (Stops (Expected w) (t ∷ rest))) h

module _ {T W : Type 0} (words : Words T W) where
  -- ---- the further words

  record AreWords (left : ℕ) (ts : List T) (ws : List W) (rest : List T) : Type 0 where
    front : List T
    parts : ts ≡ front ++ rest
    are : AllByRecursion (IsKind words Word) front
    few : length front ≤ left
    value : ws ≡ map words.word front

  no_words : (left : ℕ) (ts : List T) (ws : List W) (rest : List T) → ◌≡◌ {A = Parse T W (List T) (List W)} (Got [] ts) (Got ws rest) → AreWords left ts ws rest
  no_words left ts ws rest e = record { front = []; parts = got_rest [] ws ts rest e; are = tt; few = omega arith; value = sym (got_value [] ws ts rest e) }

  full_by : (b : Bool) (t : T) (ts : List T) (ws : List W) (rest : List T) → ◌≡◌ {A = Parse T W (List T) (List W)} (cond b (Stops PathTooLong (t ∷ ts)) (Got [] (t ∷ ts))) (Got ws rest) → AreWords 0 (t ∷ ts) ws rest
  full_by true t ts ws rest e = absurd cc
  full_by false t ts ws rest e = no_words 0 (t ∷ ts) ws rest e

  more_by : (b : Bool) (left : ℕ) (t : T) (ts : List T) (p : Parse T W (List T) (List W)) → ((vs : List W) (r : List T) → p ≡ Got vs r → AreWords left ts vs r) → (ws : List W) (rest : List T) → is_kind words Word t ≡ b
      → cond b (p >>= λ vs r. Got (words.word t ∷ vs) r) (Got [] (t ∷ ts)) ≡ Got ws rest → AreWords (suc left) (t ∷ ts) ws rest
  more_by true left t ts p found ws rest h e =
      let b = bind_got p (λ vs r. Got (words.word t ∷ vs) r) ws rest e in
      let a = found b.0 b.1 b.2 in
      let same : words.word t ∷ b.0 ≡ ws = got_value (words.word t ∷ b.0) ws b.1 rest b.3 in
      let end : b.1 ≡ rest = got_rest (words.word t ∷ b.0) ws b.1 rest b.3 in
      record { front = t ∷ a.front; parts = ap (λ u. t ∷ u) (a.parts ∙ ap (λ u. a.front ++ u) end); are = (h, a.are); few = omega (arith, a.few); value = sym same ∙ ap (λ u. words.word t ∷ u) a.value }
  more_by false left t ts p found ws rest h e = no_words (suc left) (t ∷ ts) ws rest e

  words_found : (left n : ℕ) (ts : List T) (ws : List W) (rest : List T) → word_list words left n ts ≡ Got ws rest → AreWords left ts ws rest
  unfolding word_list
  words_found left zero ts ws rest e = no_words left ts ws rest e
  words_found left (suc n) [] ws rest e = no_words left [] ws rest e
  words_found zero (suc n) (t ∷ ts) ws rest e = full_by (is_kind words Word t) t ts ws rest e
  words_found (suc left) (suc n) (t ∷ ts) ws rest e = more_by (is_kind words Word t) left t ts (word_list words left n ts) (λ vs r d. words_found left n ts vs r d) ws rest refl e

  words_end : (left n : ℕ) (rest : List T) → begins (is_kind words Word) rest ≡ false → word_list words left n rest ≡ Got [] rest
  unfolding word_list
  words_end left zero rest h = refl
  words_end left (suc n) [] h = refl
  words_end zero (suc n) (t ∷ ts) h = ap (λ b. cond b (Stops PathTooLong (t ∷ ts)) (Got [] (t ∷ ts))) h
  words_end (suc left) (suc n) (t ∷ ts) h = ap (λ b. cond b (word_list words left n ts >>= λ vs r. Got (words.word t ∷ vs) r) (Got [] (t ∷ ts))) h

  words_again : (ws : List T) (left n : ℕ) (rest : List T) → AllByRecursion (IsKind words Word) ws → length ws ≤ left → length ws ≤ n → begins (is_kind words Word) rest ≡ false
      → word_list words left n (ws ++ rest) ≡ Got (map words.word ws) rest
  unfolding word_list
  words_again [] left n rest a few enough stops = words_end left n rest stops
  words_again (w ∷ ws) zero n rest a few enough stops = absurd (omega (arith, few))
  words_again (w ∷ ws) (suc left) zero rest a few enough stops = absurd (omega (arith, enough))
  words_again (w ∷ ws) (suc left) (suc n) rest a few enough stops =
      ap (λ b. cond b (word_list words left n (ws ++ rest) >>= λ vs r. Got (words.word w ∷ vs) r) (Got [] (w ∷ ws ++ rest))) a.0
      ∙ ap (λ (p : Parse T W (List T) (List W)). p >>= λ vs r. Got (words.word w ∷ vs) r) (words_again ws left n rest a.1 (omega (arith, few)) (omega (arith, enough)) stops)

  -- ---- the first word

  fits_by : (b : Bool) (h : Head W) (ts : List T) (v : T) (r : List T) (w : T) (rest : List T) → fits_head words h v ≡ b → ◌≡◌ {A = Parse T W (List T) T} (cond b (Got v r) (Stops NotAConstituent ts)) (Got w rest)
      → (v ≡ w) × (r ≡ rest) × (fits_head words h v ≡ true)
  fits_by true h ts v r w rest f e = (got_value v w r rest e, got_rest v w r rest e, f)
  fits_by false h ts v r w rest f e = absurd cc

  head_got : (h : Head W) (ts : List T) (w : T) (rest : List T) → head words h ts ≡ Got w rest → (ts ≡ w ∷ rest) × IsKind words Word w × (fits_head words h w ≡ true)
  head_got h ts w rest e =
      let b = bind_got (one (is_kind words Word) (first_word h) ts) (λ w rest. cond (fits_head words h w) (Got w rest) (Stops NotAConstituent ts)) w rest e in
      let o = one_got {W = W} (is_kind words Word) (first_word h) ts b.0 b.1 b.2 in
      let f = fits_by (fits_head words h b.0) h ts b.0 b.1 w rest refl b.3 in
      (o.0 ∙ (ap (λ v. v ∷ b.1) f.0 ∙ ap (λ r. w ∷ r) f.1), subst (λ v. IsKind words Word v) f.0 o.1, subst (λ v. fits_head words h v ≡ true) f.0 f.2)

  head_again : (h : Head W) (w : T) (rest : List T) → IsKind words Word w → fits_head words h w ≡ true → head words h (w ∷ rest) ≡ Got w rest
  head_again h w rest a f =
      ap (λ (p : Parse T W (List T) T). p >>= λ v r. cond (fits_head words h v) (Got v r) (Stops NotAConstituent (w ∷ rest))) (one_again (is_kind words Word) (first_word h) w rest a)
      ∙ ap (λ b. cond b (Got w rest) (Stops NotAConstituent (w ∷ rest))) f

  greater_no_word : (t : T) → IsKind words Greater t → is_kind words Word t ≡ false
  greater_no_word t h = grind (arith, nat_tests)

  -- ---- paths

  -- what is read of a path behind its further words, its first word and its `<`
  abbrev behind_others : Head W → T → List W → Reads T W (PathText W)
  behind_others h w ws ts = one (is_kind words Greater) what.Greater ts >>= λ _ ts. Got (headed h (words.word w) ws) ts

  abbrev behind_first : Head W → T → Reads T W (PathText W)
  behind_first h w ts = attributes words (room h) ts >>= λ ws ts. behind_others h w ws ts

  abbrev behind_less : Head W → Reads T W (PathText W)
  behind_less h ts = head words h ts >>= λ w ts. behind_first h w ts

  path_only : (h : Head W) (expected : What) → IsOnly (IsPath words h) (path words h expected)
  unfolding path
  path_only h expected front x rest p =
      let ts = p.others ++ p.greater ∷ rest in
      let split : front ++ rest ≡ p.less ∷ p.first ∷ ts = ap (λ u. u ++ rest) p.parts ∙ ap (λ u. p.less ∷ p.first ∷ u) (append_assoc p.others (p.greater ∷ []) rest) in
      ap (λ u. one (is_kind words Less) expected u >>= λ _ ts. behind_less h ts) split
      ∙ (ap (λ (q : Parse T W (List T) T). q >>= λ _ ts. behind_less h ts) (one_again (is_kind words Less) expected p.less (p.first ∷ ts) p.less_is)
      ∙ (ap (λ (q : Parse T W (List T) T). q >>= λ w ts. behind_first h w ts) (head_again h p.first ts p.first_is p.first_fits)
      ∙ (ap (λ (q : Parse T W (List T) (List W)). q >>= λ ws ts. behind_others h p.first ws ts)
      (words_again p.others (room h) (length ts) (p.greater ∷ rest) p.others_are p.few (omega (arith, length-append p.others (p.greater ∷ rest))) (greater_no_word p.greater p.greater_is))
      ∙ (ap (λ (q : Parse T W (List T) T). q >>= λ _ ts. Got (headed h (words.word p.first) (map words.word p.others)) ts) (one_again (is_kind words Greater) what.Greater p.greater rest p.greater_is)
      ∙ ap (λ v. Got v rest) (sym p.value)))))

  path_found : (h : Head W) (expected : What) → IsFound (IsPath words h) (path words h expected)
  unfolding path
  path_found h expected ts x rest e =
      let a = bind_got (one (is_kind words Less) expected ts) (λ _ ts. behind_less h ts) x rest e in
      let b = bind_got (head words h a.1) (λ w ts. behind_first h w ts) x rest a.3 in
      let c = bind_got (attributes words (room h) b.1) (λ ws ts. behind_others h b.0 ws ts) x rest b.3 in
      let d = bind_got (one (is_kind words Greater) what.Greater c.1) (λ _ ts. Got (headed h (words.word b.0) c.0) ts) x rest c.3 in
      let less = one_got {W = W} (is_kind words Less) expected ts a.0 a.1 a.2 in
      let first = head_got h a.1 b.0 b.1 b.2 in
      let w = words_found (room h) (length b.1) b.1 c.0 c.1 c.2 in
      let greater = one_got {W = W} (is_kind words Greater) what.Greater c.1 d.0 d.1 d.2 in
      let made = headed h (words.word b.0) c.0 in
      record {
        front = a.0 ∷ b.0 ∷ w.front ++ d.0 ∷ [];
        parts = less.0 ∙ ap (λ u. a.0 ∷ u) (first.0 ∙ ap (λ u. b.0 ∷ u) (w.parts ∙ (ap (λ u. w.front ++ u) (greater.0 ∙ ap (λ u. d.0 ∷ u) (got_rest made x d.1 rest d.3)) ∙ sym (append_assoc w.front (d.0 ∷ []) rest))));
        spelled = record {
          less = a.0;
          first = b.0;
          others = w.front;
          greater = d.0;
          parts = refl;
          less_is = less.1;
          first_is = first.1;
          first_fits = first.2;
          others_are = w.are;
          few = w.few;
          greater_is = greater.1;
          value = sym (got_value made x d.1 rest d.3) ∙ ap (headed h (words.word b.0)) w.value;
        };
      }

  -- ---- equations

  word_no_less : (t : T) → IsKind words Word t → is_kind words Less t ≡ false
  word_no_less t h = grind (arith, nat_tests)

  abbrev path_term : Head W → Reads T W (TermText W)
  path_term h ts = path words h what.PathOrAtom ts >>= λ p ts. Got (OfPath p) ts

  abbrev atom_term : Reads T W (TermText W)
  atom_term ts = one (is_kind words Word) what.PathOrAtom ts >>= λ w ts. Got (AtomText (words.word w)) ts

  term_only : (h : Head W) → IsOnly (IsTerm words h) (term words h)
  unfolding term
  term_only h front (AtomText x) rest p =
      let t = p.0 in
      ap (λ u. cond (begins (is_kind words Less) u) (path_term h u) (atom_term u)) (ap (λ u. u ++ rest) p.1)
      ∙ (ap (λ b. cond b (path_term h (t ∷ rest)) (atom_term (t ∷ rest))) (word_no_less t p.2)
      ∙ (ap (λ (q : Parse T W (List T) T). q >>= λ w ts. Got (AtomText (words.word w)) ts) (one_again (is_kind words Word) what.PathOrAtom t rest p.2)
      ∙ ap (λ y. Got (AtomText y) rest) (sym p.3)))
  term_only h front (OfPath x) rest p =
      let starts : begins (is_kind words Less) (front ++ rest) ≡ true = ap (λ u. begins (is_kind words Less) (u ++ rest)) p.parts ∙ p.less_is in
      ap (λ b. cond b (path_term h (front ++ rest)) (atom_term (front ++ rest))) starts
      ∙ ap (λ (q : Parse T W (List T) (PathText W)). q >>= λ p ts. Got (OfPath p) ts) (path_only h what.PathOrAtom front x rest p)

  term_by : (b : Bool) (h : Head W) (ts : List T) (x : TermText W) (rest : List T) → cond b (path_term h ts) (atom_term ts) ≡ Got x rest → Takes (IsTerm words h) ts x rest
  term_by true h ts x rest e =
      let b = bind_got (path words h what.PathOrAtom ts) (λ p ts. Got (OfPath p) ts) x rest e in
      let t = path_found h what.PathOrAtom ts b.0 b.1 b.2 in
      record { front = t.front; parts = t.parts ∙ ap (λ u. t.front ++ u) (got_rest (OfPath b.0) x b.1 rest b.3); spelled = subst (λ y. IsTerm words h t.front y) (got_value (OfPath b.0) x b.1 rest b.3) t.spelled }
  term_by false h ts x rest e =
      let b = bind_got (one (is_kind words Word) what.PathOrAtom ts) (λ w ts. Got (AtomText (words.word w)) ts) x rest e in
      let o = one_got {W = W} (is_kind words Word) what.PathOrAtom ts b.0 b.1 b.2 in
      let atom : TermText W = AtomText (words.word b.0) in
      record { front = b.0 ∷ []; parts = o.0 ∙ ap (λ u. b.0 ∷ u) (got_rest atom x b.1 rest b.3); spelled = subst (λ y. IsTerm words h (b.0 ∷ []) y) (got_value atom x b.1 rest b.3) (b.0, refl, o.1, refl) }

  term_found : (h : Head W) → IsFound (IsTerm words h) (term words h)
  unfolding term
  term_found h ts x rest e = term_by (begins (is_kind words Less) ts) h ts x rest e

  -- what is read of an equation behind its `=`, and behind its left path
  abbrev behind_equal : Head W → PathText W → Reads T W (EquationText W)
  behind_equal h l ts = term words h ts >>= λ r ts. Got (record { left = l; right = r }) ts

  abbrev behind_left : Head W → PathText W → Reads T W (EquationText W)
  behind_left h l ts = one (is_kind words Equal) what.Equal ts >>= λ _ ts. behind_equal h l ts

  pub equation_only : (h : Head W) (expected : What) → IsOnly (IsEquation words h) (equation words h expected)
  unfolding equation
  equation_only h expected front x rest p =
      let split : front ++ rest ≡ p.left ++ (p.equal ∷ (p.right ++ rest)) = ap (λ u. u ++ rest) p.parts ∙ append_assoc p.left (p.equal ∷ p.right) rest in
      ap (λ u. path words h expected u >>= λ l ts. behind_left h l ts) split
      ∙ (ap (λ (q : Parse T W (List T) (PathText W)). q >>= λ l ts. behind_left h l ts) (path_only h expected p.left x.left (p.equal ∷ (p.right ++ rest)) p.left_is)
      ∙ (ap (λ (q : Parse T W (List T) T). q >>= λ _ ts. behind_equal h x.left ts) (one_again (is_kind words Equal) what.Equal p.equal (p.right ++ rest) p.equal_is)
      ∙ ap (λ (q : Parse T W (List T) (TermText W)). q >>= λ r ts. Got (record { left = x.left; right = r }) ts) (term_only h p.right x.right rest p.right_is)))

  pub equation_found : (h : Head W) (expected : What) → IsFound (IsEquation words h) (equation words h expected)
  unfolding equation
  equation_found h expected ts x rest e =
      let a = bind_got (path words h expected ts) (λ l ts. behind_left h l ts) x rest e in
      let b = bind_got (one (is_kind words Equal) what.Equal a.1) (λ _ ts. behind_equal h a.0 ts) x rest a.3 in
      let c = bind_got (term words h b.1) (λ r ts. Got (record { left = a.0; right = r }) ts) x rest b.3 in
      let l = path_found h expected ts a.0 a.1 a.2 in
      let o = one_got {W = W} (is_kind words Equal) what.Equal a.1 b.0 b.1 b.2 in
      let t = term_found h b.1 c.0 c.1 c.2 in
      let made : EquationText W = record { left = a.0; right = c.0 } in
      record {
        front = l.front ++ b.0 ∷ t.front;
        parts = l.parts ∙ (ap (λ u. l.front ++ u) (o.0 ∙ ap (λ u. b.0 ∷ u) (t.parts ∙ ap (λ u. t.front ++ u) (got_rest made x c.1 rest c.3))) ∙ sym (append_assoc l.front (b.0 ∷ t.front) rest));
        spelled = subst (λ y. IsEquation words h (l.front ++ b.0 ∷ t.front) y) (got_value made x c.1 rest c.3)
            (record { left = l.front; equal = b.0; right = t.front; parts = refl; left_is = l.spelled; equal_is = o.1; right_is = t.spelled });
      }

pub paths_are_spelled : PathsAreSpelled
paths_are_spelled h expected = (path_found by_text h expected, path_only by_text h expected)

pub equations_are_spelled : EquationsAreSpelled
equations_are_spelled h expected = (equation_found by_text h expected, equation_only by_text h expected)
