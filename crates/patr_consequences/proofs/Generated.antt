-- The generated rules, and that each of their derivations that is to come has a solution.
use Rattle.std.proofs.Common.{◌≡◌, ℕ, zero, suc, ◌+◌, ◌<◌, ◌⊎◌, inl, inr, cond, nat_eq, eq-eqb, ne_eqb, Bool, true, false, List, [], ◌∷◌, ◌++◌, length, length-append, Some, None, option_and_then, slice_get, refl, sym, ap, ◌∙◌, arith, subst}
use Rattle.std.specs.List.{AllByRecursion}
use Rattle.patr_model.specs.Structure.{Value, Atom, Node, Arc, Arcs, Structure, along, HasDistinct, arc, at, IsValue, IsStructure}
use Rattle.patr_model.specs.Equation.{SlotPath, Term, AtomOf, PathOf, Equation}
use Rattle.patr_model.specs.Derivation.{Rules, RuleVariant, EntryVariant, Derivation, entry_variant, IsPartial, IsComplete}
use Rattle.patr_model.specs.Solution.{SolvesRule, Solves, IsSolvable}
use Rattle.patr_model.specs.Plain.{bare, stated}
use Rattle.patr_model.proofs.Maps.{some_inj, arc_of_longer}
use Rattle.patr_model.proofs.Steps.{solves_longer, last_arcs, value_longer}
use Rattle.patr_model.proofs.Prediction.{solvable_partial, solvable_complete}
use Rattle.patr_consequences.specs.Edges.{leaf as L, rule as B, active as A, tree as T}
use Rattle.patr_model.proofs.EquationStructures.{empty_structure, topped_structure}

-- the numbers of the symbols
pub record Symbols : Type 0 where
  pub cat : ℕ
  pub lex : ℕ
  pub agr : ℕ
  pub num : ℕ
  pub head : ℕ
  pub tail : ℕ
  pub S : ℕ
  pub W : ℕ
  pub sg : ℕ
  pub word : ℕ → ℕ

-- symbols that have to be told apart
pub record AreApart (s : Symbols) : Type 0 where
  pub cat_lex : s.cat ≡ s.lex → ⊥
  pub cat_agr : s.cat ≡ s.agr → ⊥
  pub cat_head : s.cat ≡ s.head → ⊥
  pub cat_tail : s.cat ≡ s.tail → ⊥
  pub lex_agr : s.lex ≡ s.agr → ⊥
  pub agr_head : s.agr ≡ s.head → ⊥
  pub agr_tail : s.agr ≡ s.tail → ⊥
  pub head_tail : s.head ≡ s.tail → ⊥
  pub S_W : s.S ≡ s.W → ⊥

-- a path from a slot
abbrev pub path : ℕ → List ℕ → SlotPath
path k p = record { slot = k; path = p }

-- an equation of such a path
abbrev pub equal : ℕ → List ℕ → Term → Equation
equal k p t = record { left = path k p; right = t }

-- an arc
abbrev pub leads : ℕ → Value → Arc
leads a v = record { attribute = a; to = v }

module _ (s : Symbols) where
  -- S -> W S
  abbrev pub more_rule : RuleVariant
  more_rule = record {
    categories = s.S ∷ s.W ∷ s.S ∷ [];
    equations = bare s.cat 0 (s.S ∷ s.W ∷ s.S ∷ []) ++ (equal 0 (s.agr ∷ []) (PathOf (path 1 (s.agr ∷ []))) ∷ equal 0 (s.agr ∷ []) (PathOf (path 2 (s.agr ∷ [])))
        ∷ equal 0 (s.head ∷ []) (PathOf (path 1 (s.lex ∷ []))) ∷ equal 0 (s.tail ∷ []) (PathOf (path 2 [])) ∷ []);
  }

  -- S -> W
  abbrev pub last_rule : RuleVariant
  last_rule = record {
    categories = s.S ∷ s.W ∷ [];
    equations = bare s.cat 0 (s.S ∷ s.W ∷ []) ++ (equal 0 (s.agr ∷ []) (PathOf (path 1 (s.agr ∷ []))) ∷ equal 0 (s.head ∷ []) (PathOf (path 1 (s.lex ∷ []))) ∷ []);
  }

  -- the entry of the k-th word
  abbrev pub entry_of : ℕ → EntryVariant
  entry_of k = record {
    word = s.word k;
    category = s.W;
    equations = stated ((s.cat, s.W) ∷ (s.lex, s.word k) ∷ []) ++ (equal 0 (s.agr ∷ s.num ∷ []) (AtomOf s.sg) ∷ []);
    chain = [];
  }

  -- the entries of n words from the k-th on
  abbrev pub entries_from : ℕ → ℕ → List (List EntryVariant)
  entries_from k zero = []
  entries_from k (suc n) = (entry_of k ∷ []) ∷ entries_from (suc k) n

  -- these words
  abbrev pub words_from : ℕ → ℕ → List ℕ
  words_from k zero = []
  words_from k (suc n) = s.word k ∷ words_from (suc k) n

  abbrev pub generated : ℕ → Rules
  generated n = record {
    rules = (more_rule ∷ []) ∷ (last_rule ∷ []) ∷ [];
    entries = entries_from 0 n;
    start = s.S;
    restrictor = (s.cat ∷ []) ∷ [];
  }

  pub entries_get : (k n i j : ℕ) → j ≡ k + i → i < n → slice_get (entries_from k n) i ≡ Some (entry_of j ∷ [])
  entries_get k zero i j e h = absurd (omega (arith, h))
  entries_get k (suc n) zero j e h = let same : k ≡ j = omega (arith, e) in ap (λ x. Some (entry_of x ∷ [])) same
  entries_get k (suc n) (suc i) j e h = entries_get (suc k) n i j (omega (arith, e)) (omega (arith, h))

  pub entries_some : (k n i j : ℕ) (vs : List EntryVariant) → j ≡ k + i → slice_get (entries_from k n) i ≡ Some vs → (i < n) × (vs ≡ entry_of j ∷ [])
  entries_some k zero i j vs e h = cc
  entries_some k (suc n) zero j vs e h = let same : k ≡ j = omega (arith, e) in (omega arith, sym (some_inj (entry_of k ∷ []) vs h) ∙ ap (λ x. entry_of x ∷ []) same)
  entries_some k (suc n) (suc i) j vs e h = let r = entries_some (suc k) n i j vs (omega (arith, e)) h in (omega (arith, r.0), r.1)

  pub words_get : (k n i j : ℕ) → j ≡ k + i → i < n → slice_get (words_from k n) i ≡ Some (s.word j)
  words_get k zero i j e h = absurd (omega (arith, h))
  words_get k (suc n) zero j e h = let same : k ≡ j = omega (arith, e) in ap (λ x. Some (s.word x)) same
  words_get k (suc n) (suc i) j e h = words_get (suc k) n i j (omega (arith, e)) (omega (arith, h))

  pub words_length : (k n : ℕ) → length (words_from k n) ≡ n
  words_length k zero = refl
  words_length k (suc n) = ap suc (words_length (suc k) n)

-- ---- solutions

-- the first arc of this attribute leads to v
abbrev Led : Arcs → ℕ → Value → Type 0
Led [] a v = ⊥
Led (e ∷ es) a v = ((e.attribute ≡ a) × (e.to ≡ v)) ⊎ ((e.attribute ≡ a → ⊥) × Led es a v)

led : (es : Arcs) (a : ℕ) (v : Value) → Led es a v → along es a ≡ Some v
led [] a v h = absurd h
led (e ∷ es) a v (inl h) = ap (λ b. cond b (Some e.to) (along es a)) (eq-eqb e.attribute a h.0) ∙ ap (λ x. Some x) h.1
led (e ∷ es) a v (inr h) = ap (λ b. cond b (Some e.to) (along es a)) (ne_eqb e.attribute a h.0) ∙ led es a v h.1

-- no arc has this attribute
free : (es : Arcs) (a : ℕ) → AllByRecursion (λ (e : Arc). a ≡ e.attribute → ⊥) es → along es a ≡ None
free [] a h = refl
free (e ∷ es) a h = ap (λ b. cond b (Some e.to) (along es a)) (ne_eqb e.attribute a (λ q. h.0 (sym q))) ∙ free es a h.1

along_has : (P : Value → Type 0) (es : Arcs) → AllByRecursion (λ (e : Arc). P e.to) es → (a : ℕ) (x : Value) → along es a ≡ Some x → P x
along_has P [] all a x h = cc
along_has P (e ∷ es) all a x h = go (nat_eq e.attribute a) h (along_has P es all.1 a x)
  where
    go : (b : Bool) → cond b (Some e.to) (along es a) ≡ Some x → (along es a ≡ Some x → P x) → P x
    go true q rest = subst P (some_inj e.to x q) all.0
    go false q rest = rest q

-- one more node
abbrev top : Structure → Arcs → Structure
top G es = G ++ es ∷ []

-- its place
abbrev new : Structure → Value
new G = Node (length G)

new_arc : (G : Structure) (es : Arcs) (a : ℕ) (v : Value) → along es a ≡ Some v → arc (top G es) (new G) a ≡ Some v
new_arc G es a v h = ap (λ x. along x a) (last_arcs G es) ∙ h

new_held : (G : Structure) (es : Arcs) → IsValue (top G es) (new G)
new_held G es = omega (arith, length-append G (es ∷ []))

old_arc : (G : Structure) (es : Arcs) (y : Value) (a : ℕ) (v : Value) → IsValue G y → arc G y a ≡ Some v → arc (top G es) y a ≡ Some v
old_arc G es y a v held h = arc_of_longer G (es ∷ []) y held a ∙ h

one_step : (G : Structure) (v : Value) (a : ℕ) (x : Value) → arc G v a ≡ Some x → at G v (a ∷ []) ≡ Some x
one_step G v a x h = ap (option_and_then (λ y. Some y)) h

module _ (s : Symbols) (apart : AreApart s) where
  -- a structure whose first node is the agreement
  pub record IsBase (G : Structure) : Type 0 where
    pub structure : IsStructure G
    pub room : 0 < length G
    pub num : arc G (Node 0) s.num ≡ Some (Atom s.sg)

  -- a word's value
  pub record IsWord (G : Structure) (x : Value) (k : ℕ) : Type 0 where
    pub held : IsValue G x
    pub cat : arc G x s.cat ≡ Some (Atom s.W)
    pub lex : arc G x s.lex ≡ Some (Atom (s.word k))
    pub agr : arc G x s.agr ≡ Some (Node 0)

  -- a sentence's value
  pub record IsSentence (G : Structure) (y : Value) : Type 0 where
    pub held : IsValue G y
    pub cat : arc G y s.cat ≡ Some (Atom s.S)
    pub agr : arc G y s.agr ≡ Some (Node 0)

  base_more : (G : Structure) (es : Arcs) → IsBase G → IsStructure (top G es) → IsBase (top G es)
  base_more G es b st = record { structure = st; room = omega (arith, length-append G (es ∷ []), b.room); num = old_arc G es (Node 0) s.num (Atom s.sg) b.room b.num }

  word_more : (G : Structure) (es : Arcs) (x : Value) (k : ℕ) → IsWord G x k → IsWord (top G es) x k
  word_more G es x k w = record {
    held = value_longer G (es ∷ []) x w.held;
    cat = old_arc G es x s.cat (Atom s.W) w.held w.cat;
    lex = old_arc G es x s.lex (Atom (s.word k)) w.held w.lex;
    agr = old_arc G es x s.agr (Node 0) w.held w.agr;
  }

  sentence_more : (G : Structure) (es : Arcs) (y : Value) → IsSentence G y → IsSentence (top G es) y
  sentence_more G es y t = record {
    held = value_longer G (es ∷ []) y t.held;
    cat = old_arc G es y s.cat (Atom s.S) t.held t.cat;
    agr = old_arc G es y s.agr (Node 0) t.held t.agr;
  }

  first_base : IsBase ((leads s.num (Atom s.sg) ∷ []) ∷ [])
  first_base = record {
    structure = topped_structure [] (leads s.num (Atom s.sg) ∷ []) empty_structure (refl, tt) (along_has (IsValue []) (leads s.num (Atom s.sg) ∷ []) (tt, tt));
    room = omega arith;
    num = led (leads s.num (Atom s.sg) ∷ []) s.num (Atom s.sg) (inl (refl, refl));
  }

  -- a word's node
  abbrev word_arcs : ℕ → Arcs
  word_arcs k = leads s.cat (Atom s.W) ∷ leads s.lex (Atom (s.word k)) ∷ leads s.agr (Node 0) ∷ []

  word_top : (G : Structure) (k : ℕ) → IsBase G → IsBase (top G (word_arcs k)) × IsWord (top G (word_arcs k)) (new G) k
  word_top G k b =
      let es = word_arcs k in
      let distinct : HasDistinct es = (
        free (leads s.lex (Atom (s.word k)) ∷ leads s.agr (Node 0) ∷ []) s.cat (apart.cat_lex, (apart.cat_agr, tt)),
        (free (leads s.agr (Node 0) ∷ []) s.lex (apart.lex_agr, tt), (refl, tt)),
      ) in
      let st = topped_structure G es b.structure distinct (along_has (IsValue G) es (tt, (tt, (b.room, tt)))) in (
        base_more G es b st,
        record {
          held = new_held G es;
          cat = new_arc G es s.cat (Atom s.W) (led es s.cat (Atom s.W) (inl (refl, refl)));
          lex = new_arc G es s.lex (Atom (s.word k)) (led es s.lex (Atom (s.word k)) (inr (apart.cat_lex, inl (refl, refl))));
          agr = new_arc G es s.agr (Node 0) (led es s.agr (Node 0) (inr (apart.cat_agr, inr (apart.lex_agr, inl (refl, refl)))));
        },
      )

  -- slots of the two rules
  last_solved : (G : Structure) (m x : Value) (k : ℕ) → IsSentence G m → arc G m s.head ≡ Some (Atom (s.word k)) → IsWord G x k → SolvesRule G (last_rule s) (m ∷ x ∷ [])
  last_solved G m x k t h w = record {
    count = refl;
    held = (t.held, (w.held, tt));
    equations = (
      (Atom s.S, one_step G m s.cat (Atom s.S) t.cat, refl),
      (
        (Atom s.W, one_step G x s.cat (Atom s.W) w.cat, refl),
        (
          (Node 0, one_step G m s.agr (Node 0) t.agr, one_step G x s.agr (Node 0) w.agr),
          (
            (Atom (s.word k), one_step G m s.head (Atom (s.word k)) h, one_step G x s.lex (Atom (s.word k)) w.lex),
            tt,
          ),
        ),
      ),
    );
  }

  more_solved : (G : Structure) (m x y : Value) (k : ℕ) → IsSentence G m → arc G m s.head ≡ Some (Atom (s.word k)) → arc G m s.tail ≡ Some y → IsWord G x k → IsSentence G y
      → SolvesRule G (more_rule s) (m ∷ x ∷ y ∷ [])
  more_solved G m x y k t h r w u = record {
    count = refl;
    held = (t.held, (w.held, (u.held, tt)));
    equations = (
      (Atom s.S, one_step G m s.cat (Atom s.S) t.cat, refl),
      (
        (Atom s.W, one_step G x s.cat (Atom s.W) w.cat, refl),
        (
          (Atom s.S, one_step G y s.cat (Atom s.S) u.cat, refl),
          (
            (Node 0, one_step G m s.agr (Node 0) t.agr, one_step G x s.agr (Node 0) w.agr),
            (
              (Node 0, one_step G m s.agr (Node 0) t.agr, one_step G y s.agr (Node 0) u.agr),
              (
                (Atom (s.word k), one_step G m s.head (Atom (s.word k)) h, one_step G x s.lex (Atom (s.word k)) w.lex),
                (
                  (y, one_step G m s.tail y r, refl),
                  tt,
                ),
              ),
            ),
          ),
        ),
      ),
    );
  }

  -- the arcs of a sentence's node: those of its first word, and the rest
  abbrev sentence_arcs : ℕ → Arcs → Arcs
  sentence_arcs k rest = leads s.cat (Atom s.S) ∷ leads s.agr (Node 0) ∷ leads s.head (Atom (s.word k)) ∷ rest

  -- a word's node on top, and a sentence's node on that
  abbrev topped : Structure → ℕ → Arcs → Structure
  topped G k rest = top (top G (word_arcs k)) (sentence_arcs k rest)

  record IsTopped (G : Structure) (k : ℕ) (rest : Arcs) : Type 0 where
    base : IsBase (topped G k rest)
    sentence : IsSentence (topped G k rest) (new (top G (word_arcs k)))
    head : arc (topped G k rest) (new (top G (word_arcs k))) s.head ≡ Some (Atom (s.word k))
    word : IsWord (topped G k rest) (new G) k

  -- no arc of the rest has this attribute
  abbrev Lacks : ℕ → Arcs → Type 0
  Lacks a rest = AllByRecursion (λ (e : Arc). a ≡ e.attribute → ⊥) rest

  is_topped : (G0 : Structure) (k : ℕ) (rest : Arcs) → IsBase G0 → Lacks s.cat rest → Lacks s.agr rest → Lacks s.head rest → HasDistinct rest
      → AllByRecursion (λ (e : Arc). IsValue (top G0 (word_arcs k)) e.to) rest → IsTopped G0 k rest
  is_topped G0 k rest b cats agrs heads d held =
      let w = word_top G0 k b in
      let G = top G0 (word_arcs k) in
      let es = sentence_arcs k rest in
      let distinct : HasDistinct es = (
        free (leads s.agr (Node 0) ∷ leads s.head (Atom (s.word k)) ∷ rest) s.cat (apart.cat_agr, (apart.cat_head, cats)),
        (free (leads s.head (Atom (s.word k)) ∷ rest) s.agr (apart.agr_head, agrs), (free rest s.head heads, d)),
      ) in
      record {
        base = base_more G es w.0 (topped_structure G es w.0.structure distinct (along_has (IsValue G) es (tt, (w.0.room, (tt, held)))));
        sentence = record {
          held = new_held G es;
          cat = new_arc G es s.cat (Atom s.S) (led es s.cat (Atom s.S) (inl (refl, refl)));
          agr = new_arc G es s.agr (Node 0) (led es s.agr (Node 0) (inr (apart.cat_agr, inl (refl, refl))));
        };
        head = new_arc G es s.head (Atom (s.word k)) (led es s.head (Atom (s.word k)) (inr (apart.cat_head, inr (apart.agr_head, inl (refl, refl)))));
        word = word_more G es (new G0) k w.1;
      }

  -- a sentence of one word
  pub record LastStep (k : ℕ) : Type 0 where
    pub G : Structure
    pub m : Value
    pub x : Value
    pub base : IsBase G
    pub sentence : IsSentence G m
    pub word : IsWord G x k
    pub solves : SolvesRule G (last_rule s) (m ∷ x ∷ [])

  pub last_step : (k : ℕ) → LastStep k
  last_step k =
      let G0 : Structure = (leads s.num (Atom s.sg) ∷ []) ∷ [] in
      let t = is_topped G0 k [] first_base tt tt tt tt tt in
      record {
        G = topped G0 k [];
        m = new (top G0 (word_arcs k));
        x = new G0;
        base = t.base;
        sentence = t.sentence;
        word = t.word;
        solves = last_solved (topped G0 k []) (new (top G0 (word_arcs k))) (new G0) k t.sentence t.head t.word;
      }

  -- one word more in front of the sentence y
  pub record MoreStep (G : Structure) (y : Value) (k : ℕ) : Type 0 where
    pub more : Structure
    pub m : Value
    pub x : Value
    pub base : IsBase more
    pub sentence : IsSentence more m
    pub word : IsWord more x k
    pub solves : SolvesRule more (more_rule s) (m ∷ x ∷ y ∷ [])
    pub keeps : (g : Rules) (t : Derivation) (vs : List Value) → Solves g t G vs → Solves g t more vs

  pub more_step : (G : Structure) (y : Value) (k : ℕ) → IsBase G → IsSentence G y → MoreStep G y k
  more_step G0 y k b u =
      let G = top G0 (word_arcs k) in
      let u1 = sentence_more G0 (word_arcs k) y u in
      let rest : Arcs = leads s.tail y ∷ [] in
      let es = sentence_arcs k rest in
      let t = is_topped G0 k rest b (apart.cat_tail, tt) (apart.agr_tail, tt) (apart.head_tail, tt) (refl, tt) (u1.held, tt) in
      let r = new_arc G es s.tail y (led es s.tail y (inr (apart.cat_tail, inr (apart.agr_tail, inr (apart.head_tail, inl (refl, refl)))))) in
      record {
        more = topped G0 k rest;
        m = new G;
        x = new G0;
        base = t.base;
        sentence = t.sentence;
        word = t.word;
        solves = more_solved (topped G0 k rest) (new G) (new G0) y k t.sentence t.head r t.word (sentence_more G es y u1);
        keeps = λ g d vs sol. solves_longer g d G (es ∷ []) vs (solves_longer g d G0 (word_arcs k ∷ []) vs sol);
      }

  module _ (n : ℕ) where
    abbrev g : Rules
    g = generated s n

    pub entry_there : (i : ℕ) → i < n → entry_variant g i 0 ≡ Some (entry_of s i)
    entry_there i h = ap (option_and_then (λ vs. slice_get vs 0)) (entries_get s 0 n i i (omega arith) h)

    -- a word's leaf at its value
    leaf_solved : (G : Structure) (x : Value) (i : ℕ) → i < n → IsBase G → IsWord G x i → Solves g (L i) G (x ∷ [])
    leaf_solved G x i h b w = (
      entry_of s i,
      x,
      entry_there i h,
      (
        x,
        w.held,
        (
          (Atom s.W, one_step G x s.cat (Atom s.W) w.cat, refl),
          (
            (Atom (s.word i), one_step G x s.lex (Atom (s.word i)) w.lex, refl),
            (
              (Atom s.sg, ap (option_and_then (λ y. at G y (s.num ∷ []))) w.agr ∙ one_step G (Node 0) s.num (Atom s.sg) b.num, refl),
              tt,
            ),
          ),
        ),
        refl,
      ),
      refl,
    )

    -- a solution of a whole sentence
    pub record IsWholeAt (d i : ℕ) : Type 0 where
      pub G : Structure
      pub v : Value
      pub us : List Value
      pub base : IsBase G
      pub sentence : IsSentence G v
      pub solves : Solves g (T d i) G (v ∷ us)

    whole_at : (d i : ℕ) → i + d < n → IsWholeAt d i
    whole_at zero i h =
        let l = last_step i in
        record {
          G = l.G;
          v = l.m;
          us = l.x ∷ [];
          base = l.base;
          sentence = l.sentence;
          solves = ((last_rule s, refl, l.solves), l.x, [], refl, leaf_solved l.G l.x i (omega (arith, h)) l.base l.word);
        }
    whole_at (suc d) i h =
        let r = whole_at d (suc i) (omega (arith, h)) in
        let m = more_step r.G r.v i r.base r.sentence in
        record {
          G = m.more;
          v = m.m;
          us = m.x ∷ r.v ∷ [];
          base = m.base;
          sentence = m.sentence;
          solves = (
            ((more_rule s, refl, m.solves), m.x, [], refl, leaf_solved m.more m.x i (omega (arith, h)) m.base m.word),
            r.v,
            r.us,
            refl,
            m.keeps g (T d (suc i)) (r.v ∷ r.us) r.solves,
          );
        }

    pub whole_complete : (d i : ℕ) → IsComplete g (T d i)
    whole_complete zero i = (last_rule s, refl, refl)
    whole_complete (suc d) i = (more_rule s, refl, refl)

    pub whole_solvable : (d i : ℕ) → i + d < n → IsSolvable g (T d i)
    whole_solvable d i h = let r = whole_at d i h in solvable_complete g (T d i) r.G (r.v ∷ r.us) (whole_complete d i) r.base.structure r.solves

    pub leaf_solvable : (i : ℕ) → i < n → IsSolvable g (L i)
    leaf_solvable i h = let l = last_step i in solvable_complete g (L i) l.G (l.x ∷ []) tt l.base.structure (leaf_solved l.G l.x i h l.base l.word)

    pub last_partial : (i : ℕ) → IsPartial g (B 1 i)
    last_partial i = (last_rule s, refl, omega arith)

    pub more_partial : (i : ℕ) → IsPartial g (B 0 i)
    more_partial i = (more_rule s, refl, omega arith)

    pub after_partial : (i : ℕ) → IsPartial g (A i)
    after_partial i = (more_rule s, refl, omega arith)

    pub last_solvable : (i : ℕ) → IsSolvable g (B 1 i)
    last_solvable i = let l = last_step 0 in solvable_partial g (B 1 i) l.G (l.m ∷ l.x ∷ []) (last_partial i) l.base.structure (last_rule s, refl, l.solves)

    pub more_solvable : (i : ℕ) → IsSolvable g (B 0 i)
    more_solvable i =
        let l = last_step 0 in
        let m = more_step l.G l.m 0 l.base l.sentence in
        solvable_partial g (B 0 i) m.more (m.m ∷ m.x ∷ l.m ∷ []) (more_partial i) m.base.structure (more_rule s, refl, m.solves)

    pub after_solvable : (i : ℕ) → i < n → IsSolvable g (A i)
    after_solvable i h =
        let l = last_step i in
        let m = more_step l.G l.m i l.base l.sentence in
        solvable_partial g (A i) m.more (m.m ∷ m.x ∷ l.m ∷ []) (after_partial i) m.base.structure
        ((more_rule s, refl, m.solves), m.x, [], refl, leaf_solved m.more m.x i h m.base m.word)
