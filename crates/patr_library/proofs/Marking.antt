-- Marks of the nodes that a value reaches, and the copies of those that are marked.
use Rattle.std.proofs.Common.{◌≡◌, ◌⊎◌, inl, inr, ℕ, zero, suc, ◌+◌, ◌<◌, ◌≤◌, Bool, true, false, List, [], ◌∷◌, ◌++◌, length, length-append, get_or, set, drop, replicate, Option, Some, None, is_some, refl, sym, ap, ◌∙◌, subst, arith}
use Rattle.patr_library.proofs.Names.{eq-or-lt_of_le, all_weaker, get_or-set_same, get_or-set_other, get_or_push, AllByRecursion, drop_more, get_or_append_left, length-replicate, length-set, Value, Atom, Node, Arcs, Structure, IsBelow, IsReached, IsStructure, IsValue, arc, arcs_of, at, and_then_some, below_more_places, some_inj, Has, Feature, Shown, arcs_from, ref_of, AreReached, HasCopy, HaveCopies, IsNextImage, image_at, with_mark, with_marks}
use Rattle.std.proofs.lemmas.Bool.{cases_eq}
use Rattle.patr_model.proofs.Alike as path
use Rattle.patr_marks.proofs.Lists.{along_has, distinct_along}

-- ---- marks

-- the value is an atom, or a node that is marked
abbrev pub IsMarked : List Bool → Value → Type 0
IsMarked marks (Atom c) = Unit {0}
IsMarked marks (Node n) = get_or marks n false ≡ true

mark_kept : (marks : List Bool) (k n : ℕ) → get_or marks n false ≡ true → get_or (set marks k true) n false ≡ true
mark_kept [] k n h = h
mark_kept (b ∷ marks) zero zero h = refl
mark_kept (b ∷ marks) zero (suc n) h = h
mark_kept (b ∷ marks) (suc k) zero h = h
mark_kept (b ∷ marks) (suc k) (suc n) h = mark_kept marks k n h

mark_only : (marks : List Bool) (k n : ℕ) → get_or (set marks k true) n false ≡ true → (get_or marks n false ≡ true) ⊎ (k ≡ n)
mark_only marks k n h = elim (cases_eq n k) as (λ _. (get_or marks n false ≡ true) ⊎ (k ≡ n)) [ inl e ↦ inr (sym e) | inr e ↦ inl (sym (get_or-set_other marks k n true false e) ∙ h) ]

none_beyond : (marks : List Bool) (n : ℕ) → get_or marks n false ≡ true → n < length marks
none_beyond [] n h = cc
none_beyond (b ∷ marks) zero h = omega arith
none_beyond (b ∷ marks) (suc n) h = omega (arith, none_beyond marks n h)

none_at_first : (m n : ℕ) → get_or (replicate m false) n false ≡ true → ⊥
none_at_first zero n h = cc
none_at_first (suc m) zero h = cc
none_at_first (suc m) (suc n) h = none_at_first m n h

pub value_long : (marks : List Bool) (x : Value) → length (with_mark marks x) ≡ length marks
value_long marks (Atom c) = refl
value_long marks (Node k) = length-set marks k true

value_kept : (marks : List Bool) (x : Value) (n : ℕ) → get_or marks n false ≡ true → get_or (with_mark marks x) n false ≡ true
value_kept marks (Atom c) n h = h
value_kept marks (Node k) n h = mark_kept marks k n h

value_there : (marks : List Bool) (S : Structure) (x : Value) → IsValue S x → length marks ≡ length S → IsMarked (with_mark marks x) x
value_there marks S (Atom c) h l = tt
value_there marks S (Node k) h l = get_or-set_same marks k true false (omega (arith, h, l))

value_only : (marks : List Bool) (x : Value) (n : ℕ) → get_or (with_mark marks x) n false ≡ true → (get_or marks n false ≡ true) ⊎ (x ≡ Node n)
value_only marks (Atom c) n h = inl h
value_only marks (Node k) n h = elim (mark_only marks k n h) as (λ _. (get_or marks n false ≡ true) ⊎ (Node k ≡ Node n)) [ inl i ↦ inl i | inr i ↦ inr (ap Node i) ]

all_long : (marks : List Bool) (es : Arcs) → length (with_marks marks es) ≡ length marks
all_long marks [] = refl
all_long marks (e ∷ es) = all_long (with_mark marks e.to) es ∙ value_long marks e.to

all_kept : (marks : List Bool) (es : Arcs) (n : ℕ) → get_or marks n false ≡ true → get_or (with_marks marks es) n false ≡ true
all_kept marks [] n h = h
all_kept marks (e ∷ es) n h = all_kept (with_mark marks e.to) es n (value_kept marks e.to n h)

marked_kept : (marks : List Bool) (es : Arcs) (x : Value) → IsMarked marks x → IsMarked (with_marks marks es) x
marked_kept marks es (Atom c) h = tt
marked_kept marks es (Node n) h = all_kept marks es n h

all_there : (marks : List Bool) (S : Structure) (es : Arcs) → ((a : ℕ) (x : Value) → Has es a x → IsValue S x) → length marks ≡ length S → AllByRecursion (λ e. IsMarked (with_marks marks es) e.to) es
all_there marks S [] h l = tt
all_there marks S (e ∷ es) h l = (
  marked_kept (with_mark marks e.to) es e.to (value_there marks S e.to (h e.attribute e.to (inl (refl, refl))) l),
  all_there (with_mark marks e.to) S es (λ a x k. h a x (inr k)) (value_long marks e.to ∙ l),
)

all_only : (marks : List Bool) (es : Arcs) (n : ℕ) → get_or (with_marks marks es) n false ≡ true → (get_or marks n false ≡ true) ⊎ ((a : ℕ) × Has es a (Node n))
all_only marks [] n h = inl h
all_only marks (e ∷ es) n h = elim (all_only (with_mark marks e.to) es n h) [
  | inl i ↦ elim (value_only marks e.to n i) as (λ _. (get_or marks n false ≡ true) ⊎ ((a : ℕ) × Has (e ∷ es) a (Node n))) [ inl j ↦ inl j | inr j ↦ inr (e.attribute, inl (refl, j)) ]
  | inr i ↦ inr (i.0, inr i.1)
]

-- one more arc's target
pub target_marked : (v : Shown) (b : ℕ) (fs : List Feature) (i : ℕ) (d : Feature) (marks new : List Bool) (x : Value) (all : List Bool) → i < length fs → x ≡ ref_of v b (get_or fs i d).to → new ≡ with_mark marks x
    → with_marks marks (arcs_from v b (drop i fs)) ≡ all → with_marks new (arcs_from v b (drop (i + 1) fs)) ≡ all
target_marked v b fs i d marks new x all inside leads is e =
    ap (λ (m : List Bool). with_marks m (arcs_from v b (drop (i + 1) fs))) (is ∙ ap (with_mark marks) leads)
    ∙ (sym (ap (λ (gs : List Feature). with_marks marks (arcs_from v b gs)) (drop_more fs i d inside)) ∙ e)

each_has : (P : Value → Type 0) (es : Arcs) → AllByRecursion (λ e. P e.to) es → (a : ℕ) (y : Value) → Has es a y → P y
each_has P [] h a y k = absurd k
each_has P (e ∷ es) h a y (inl k) = subst P k.1 h.0
each_has P (e ∷ es) h a y (inr k) = each_has P es h.1 a y k

has_each : (P : Value → Type 0) (es : Arcs) → ((a : ℕ) (y : Value) → Has es a y → P y) → AllByRecursion (λ e. P e.to) es
has_each P [] h = tt
has_each P (e ∷ es) h = (h e.attribute e.to (inl (refl, refl)), has_each P es (λ a y k. h a y (inr k)))

-- ---- what is reached

module _ (S : Structure) (x : Value) where
  -- no node is marked but those that are reached, and what arcs of marked nodes from a place on lead to is marked
  pub record IsMarking (left : ℕ) (marks : List Bool) : Type 0 where
    pub long : length marks ≡ length S
    pub first : IsMarked marks x
    pub only : (n : ℕ) → get_or marks n false ≡ true → IsReached S x n
    pub closed : (n : ℕ) → left ≤ n → get_or marks n false ≡ true → AllByRecursion (λ e. IsMarked marks e.to) (arcs_of S (Node n))

  pub marking_starts : (marks new : List Bool) (m : ℕ) → IsValue S x → m ≡ length S → marks ≡ replicate m false → new ≡ with_mark marks x → IsMarking m new
  marking_starts marks new m value count blank is =
      let long : length marks ≡ length S = ap length blank ∙ (length-replicate {A = Bool} m false ∙ count) in
      record {
        long = ap length is ∙ (value_long marks x ∙ long);
        first = subst (λ (l : List Bool). IsMarked l x) (sym is) (value_there marks S x value long);
        only = λ n h. elim (value_only marks x n (ap (λ (l : List Bool). get_or l n false) (sym is) ∙ h)) [
          | inl i ↦ absurd (none_at_first m n (ap (λ (l : List Bool). get_or l n false) (sym blank) ∙ i))
          | inr i ↦ ([], ap (λ y. Some y) i)
        ];
        closed = λ n l h. absurd (omega (arith, l, none_beyond new n h, ap length is, value_long marks x, long, count));
      }

  pub marking_skips : (left next : ℕ) (marks : List Bool) → left ≡ next + 1 → get_or marks next false ≡ false → IsMarking left marks → IsMarking next marks
  marking_skips left next marks step bare i = record {
    long = i.long;
    first = i.first;
    only = i.only;
    closed = λ n l h. elim (eq-or-lt_of_le {n = next} {m = n} l) [
      | inl e ↦ let bad : false ≡ true = sym bare ∙ (ap (λ k. get_or marks k false) e ∙ h) in cc
      | inr g ↦ i.closed n (omega (arith, g, step)) h
    ];
  }

  pub marking_takes : IsStructure S → (left next : ℕ) (marks new : List Bool) → left ≡ next + 1 → get_or marks next false ≡ true → new ≡ with_marks marks (arcs_of S (Node next)) → IsMarking left marks → IsMarking next new
  marking_takes s left next marks new step here is i =
      let es = arcs_of S (Node next) in
      let led = λ (a : ℕ) (y : Value) (h : Has es a y). distinct_along es a y (s.distinct next) h in
      let low = λ (a : ℕ) (y : Value) (h : Has es a y). s.lower next a y (led a y h) in
      let values = λ (a : ℕ) (y : Value) (h : Has es a y). below_more_places next (length S) y (low a y h) (omega (arith, none_beyond marks next here, i.long)) in
      let was = λ (n : ℕ) (l : next < n) (h : get_or (with_marks marks es) n false ≡ true). elim (all_only marks es n h) as (λ _. get_or marks n false ≡ true) [ inl j ↦ j | inr j ↦ absurd (omega (arith, l, low j.0 (Node n) j.1)) ] in
      record {
        long = ap length is ∙ (all_long marks es ∙ i.long);
        first = subst (λ (l : List Bool). IsMarked l x) (sym is) (marked_kept marks es x i.first);
        only = λ n h. elim (all_only marks es n (ap (λ (l : List Bool). get_or l n false) (sym is) ∙ h)) [
          | inl j ↦ i.only n j
          | inr j ↦ let r = i.only next here in (r.0 ++ j.0 ∷ [], path.more S x r.0 j.0 (Node next) (Node n) r.1 (led j.0 (Node n) j.1))
        ];
        closed = λ n l h.
            let there : get_or (with_marks marks es) n false ≡ true = ap (λ (m : List Bool). get_or m n false) (sym is) ∙ h in
            subst (λ (m : List Bool). AllByRecursion (λ e. IsMarked m e.to) (arcs_of S (Node n))) (sym is)
            (elim (eq-or-lt_of_le {n = next} {m = n} l) [
              | inl e ↦ subst (λ (k : ℕ). AllByRecursion (λ e. IsMarked (with_marks marks es) e.to) (arcs_of S (Node k))) e (all_there marks S es values i.long)
              | inr g ↦ all_weaker (λ e. IsMarked marks e.to) (λ e. IsMarked (with_marks marks es) e.to) (λ e m. marked_kept marks es e.to m) (arcs_of S (Node n)) (i.closed n (omega (arith, g, step)) (was n g there))
            ]);
      }

  pub marking_ends : (marks : List Bool) → IsMarking 0 marks → AreReached S x marks
  marking_ends marks i n = (i.only n, λ h. go h.0 x i.first h.1)
    where
      go : (p : List ℕ) (y : Value) → IsMarked marks y → at S y p ≡ Some (Node n) → get_or marks n false ≡ true
      go [] y m e = subst (IsMarked marks) (some_inj y (Node n) e) m
      go (a ∷ p) (Atom c) m e = cc
      go (a ∷ p) (Node j) m e =
          let s = and_then_some (arc S (Node j) a) (λ u. at S u p) (Node n) e in
          go p s.0 (each_has (IsMarked marks) (arcs_of S (Node j)) (i.closed j (omega arith) m) a s.0 (along_has (arcs_of S (Node j)) a s.0 s.1)) s.2

-- ---- copies

-- of the first places exactly those that are marked have copies
abbrev pub AreCopied : List Bool → List (Option ℕ) → Type 0
AreCopied marks images = (n : ℕ) → n < length images → is_some (image_at images n) ≡ get_or marks n false

copy_of : (o : Option ℕ) → is_some o ≡ true → (k : ℕ) × (o ≡ Some k)
copy_of None h = cc
copy_of (Some k) h = (k, refl)

pub copy_of_arc : (to : ℕ → Option ℕ) (v : Shown) (b : ℕ) (fs : List Feature) (i : ℕ) (d : Feature) → HaveCopies to (arcs_from v b fs) → i < length fs → HasCopy to (ref_of v b (get_or fs i d).to)
copy_of_arc to v b [] i d h l = absurd (omega (arith, l))
copy_of_arc to v b (f ∷ fs) zero d h l = h.0
copy_of_arc to v b (f ∷ fs) (suc i) d h l = copy_of_arc to v b fs i d h.1 (omega (arith, l))

-- one place more
pub next_long : (r : Bool) (old new : List (Option ℕ)) → IsNextImage r old new → length new ≡ length old + 1
next_long r old new h = ap length h.1 ∙ length-append old (h.0 ∷ [])

pub copied_more : (marks : List Bool) (r : Bool) (old new : List (Option ℕ)) → r ≡ get_or marks (length old) false → AreCopied marks old → IsNextImage r old new → AreCopied marks new
copied_more marks r old new is copied h n l =
    ap (λ (ls : List (Option ℕ)). is_some (image_at ls n)) h.1
    ∙ elim (eq-or-lt_of_le {n = n} {m = length old} (omega (arith, l, next_long r old new h))) as (λ _. is_some (image_at (old ++ h.0 ∷ []) n) ≡ get_or marks n false) [
      | inl e ↦ subst (λ (m : ℕ). is_some (image_at (old ++ h.0 ∷ []) m) ≡ get_or marks m false) (sym e) (ap is_some (get_or_push old h.0 None (length old) refl) ∙ (h.2 ∙ is))
      | inr k ↦ ap is_some (get_or_append_left old (h.0 ∷ []) None n k) ∙ copied n k
    ]

module _ (S : Structure) (x : Value) (marks : List Bool) (images : List (Option ℕ)) (reached : AreReached S x marks) (copied : AreCopied marks images) where
  -- whatever a path leads to, and stands before, has a copy
  value_copied : (y : Value) (p : List ℕ) → at S x p ≡ Some y → IsBelow (length images) y → HasCopy (image_at images) y
  value_copied (Atom c) p e h = tt
  value_copied (Node n) p e h = copy_of (image_at images n) (copied n h ∙ (reached n).1 (p, e))

  pub first_copied : IsValue S x → length images ≡ length S → HasCopy (image_at images) x
  first_copied h long = value_copied x [] refl (subst (λ (m : ℕ). IsBelow m x) (sym long) h)

  pub arcs_copied : IsStructure S → (n : ℕ) → n ≡ length images → get_or marks n false ≡ true → HaveCopies (image_at images) (arcs_of S (Node n))
  arcs_copied s n next here =
      let es = arcs_of S (Node n) in
      let r = (reached n).0 here in
      has_each (HasCopy (image_at images)) es
      (λ a y h.
      let led = distinct_along es a y (s.distinct n) h in
      value_copied y (r.0 ++ a ∷ []) (path.more S x r.0 a (Node n) y r.1 led) (subst (λ (m : ℕ). IsBelow m y) next (s.lower n a y led)))
