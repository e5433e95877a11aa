-- Edges are put behind those of a chart, one after another.
use Rattle.std.proofs.Common.{◌≡◌, ℕ, suc, ◌+◌, ◌<◌, ◌≤◌, Bool, true, false, List, [], ◌∷◌, ◌++◌, length, take, drop, get_or, map, sym, ap, ◌∙◌, arith, subst, append_assoc, append-nil, length-append}
use Rattle.std.proofs.lemmas.List.{length-map, length-take-le, take_more, map-append, take-append-drop}
use Rattle.std.proofs.Math.Seq.{take-length}
use Rattle.std.proofs.lemmas.Option.{slice_get_within}
use Rattle.patr_lists.specs.Numbers.{places}
use Rattle.patr_lists.proofs.Members.{in_at}
use Rattle.patr_parse.proofs.Names.{Id, Rules, Derivation, Each, Shown, Edge, Stored, rules_of, leaves_at, leaves_from, ArePushed, IsAloneEdge, HasOrigin, IsEdgeAfter, IsIn}
use Rattle.patr_library.specs.Stored.{is_of_mother, is_of_word}
use Rattle.patr_parse.specs.declared.prediction.ItemKind.{ItemKind}
use Rattle.patr_parse.specs.declared.prediction.ItemKind.TheVariants as kind
use Rattle.patr_parse.specs.Begun.{places_named, count_of}
use Rattle.patr_parse.proofs.Items.{placed_is}
use Rattle.patr_parse.proofs.Added.{each_append, each_length}

abbrev pub numbers_of : List Id → List ℕ
numbers_of words = map (λ (w : Id). w.0) words

-- edges for these derivations were put behind
abbrev pub Behind : Rules → Stored → Shown → List Edge → List Derivation → List Edge → Type 0
Behind g s v old ts es = (ys : List Edge) × (es ≡ old ++ ys) × Each (IsAloneEdge g s v) ts ys

module _ (g : Rules) (s : Stored) (v : Shown) where
  pub behind_none : (old : List Edge) → Behind g s v old [] old
  behind_none old = ([], sym (append-nil old), tt)

  pub behind_append : (old es : List Edge) (ts us : List Derivation) (zs new : List Edge) → Behind g s v old ts es → new ≡ es ++ zs → Each (IsAloneEdge g s v) us zs → Behind g s v old (ts ++ us) new
  behind_append old es ts us zs new b is each = (
    b.0 ++ zs,
    is ∙ (ap (λ l. l ++ zs) b.1 ∙ append_assoc old b.0 zs),
    each_append g s v ts us b.0 zs b.2 each,
  )

  pub behind_length : (old es : List Edge) (ts : List Derivation) → Behind g s v old ts es → length es ≡ length old + length ts
  behind_length old es ts b = ap length b.1 ∙ (length-append old b.0 ∙ ap (λ n. length old + n) (each_length g s v ts b.0 b.2))

  -- one more edge, for the next of some numbers
  pub behind_next : (f : ℕ → Derivation) (ns : List ℕ) (i : ℕ) → i < length ns → (old es new : List Edge) (e : Edge) → Behind g s v old (map f (take i ns)) es → new ≡ es ++ e ∷ [] → IsAloneEdge g s v (f (get_or ns i 0)) e
      → Behind g s v old (map f (take (i + 1) ns)) new
  behind_next f ns i here old es new e b is one =
      let more : map f (take i ns) ++ f (get_or ns i 0) ∷ [] ≡ map f (take (i + 1) ns) = sym (ap (λ l. map f l) (take_more ns i 0 here) ∙ map-append f (take i ns) (get_or ns i 0 ∷ [])) in
      subst (λ ts. Behind g s v old ts new) more (behind_append old es (map f (take i ns)) (f (get_or ns i 0) ∷ []) (e ∷ []) new b is (one, tt))

  -- there is no room for the next
  pub no_next : (f : ℕ → Derivation) (ns : List ℕ) (i : ℕ) → i < length ns → (limit : ℕ) (old es : List Edge) → Behind g s v old (map f (take i ns)) es → limit ≤ length es → limit < length old + length (map f ns)
  no_next f ns i here limit old es b full =
      omega (arith, full, here, behind_length old es (map f (take i ns)) b, length-map (take i ns) f, length-take-le i ns (omega (arith, here)), length-map ns f)

  -- all were pushed
  pub all_pushed : (f : ℕ → Derivation) (ns ms : List ℕ) → ns ≡ ms → (i : ℕ) → i ≡ length ns → (limit : ℕ) (old es : List Edge) → Behind g s v old (map f (take i ns)) es → length es ≤ limit → ArePushed g s v limit old (map f ms) es true
  all_pushed f ns ms same i end limit old es b few =
      let all : take i ns ≡ ms = ap (λ n. take n ns) end ∙ (take-length ns ∙ same) in
      let c = subst (λ l. Behind g s v old (map f l) es) all b in
      (c.0, c.1, c.2, few)

  -- it may be pushed
  pub after_alone : (t : Derivation) (e : Edge) (words : ℕ) (es : List Edge) → IsAloneEdge g s v t e → e.start ≤ e.end → e.end ≤ words → IsEdgeAfter words es e
  after_alone t e words es a order within = record { order = order; within = within; origin = subst (λ o. HasOrigin es e o) (sym a.back) a.place }

-- the numbers of members are below the length
pub placed_below : {X : Type 0} (test : X → Bool) (xs : List X) (ns : List ℕ) → ns ≡ places test 0 xs → (i : ℕ) → i < length ns → get_or ns i 0 < length xs
placed_below test xs ns is i here =
    let p = placed_is test xs (get_or ns i 0) (subst (λ l. IsIn l (get_or ns i 0)) is (in_at ns 0 i here)) in
    slice_get_within xs (get_or ns i 0) p.0 p.1

-- the numbers of items are below their count
pub named_below : (k : ItemKind) (s : Stored) (name : ℕ) (ns : List ℕ) → ns ≡ places_named k s name → (i : ℕ) → i < length ns → get_or ns i 0 < count_of k s
named_below kind.Rule s name = placed_below (is_of_mother name) s.rules
named_below kind.Entry s name = placed_below (is_of_word s.lexicon name) s.entries

-- ---- the entries of the first so many words

leaves_append : (s : Stored) (i : ℕ) (ws vs : List ℕ) → leaves_from s i (ws ++ vs) ≡ leaves_from s i ws ++ leaves_from s (i + length ws) vs
leaves_append s i [] vs = ap (λ n. leaves_from s n vs) (let e : i ≡ i + 0 = omega arith in e)
leaves_append s i (w ∷ ws) vs =
    ap (λ l. leaves_at s w i ++ l) (leaves_append s (suc i) ws vs ∙ ap (λ n. leaves_from s (suc i) ws ++ leaves_from s n vs) (let e : suc i + length ws ≡ i + suc (length ws) = omega arith in e))
    ∙ sym (append_assoc (leaves_at s w i) (leaves_from s (suc i) ws) (leaves_from s (i + length (w ∷ ws)) vs))

module _ (s : Stored) (words : List Id) (i : ℕ) (d : Id) (here : i < length words) where
  pub leaves_next : leaves_from s 0 (numbers_of (take i words)) ++ leaves_at s (get_or words i d).0 i ≡ leaves_from s 0 (numbers_of (take (i + 1) words))
  leaves_next =
      let w = (get_or words i d).0 in
      let long : length (numbers_of (take i words)) ≡ i = length-map (take i words) (λ (w : Id). w.0) ∙ length-take-le i words (omega (arith, here)) in
      let one : leaves_from s (0 + length (numbers_of (take i words))) (w ∷ []) ≡ leaves_at s w i = append-nil (leaves_at s w (0 + length (numbers_of (take i words)))) ∙ ap (λ n. leaves_at s w n) (omega (arith, long)) in
      sym (ap (λ l. leaves_from s 0 (numbers_of l)) (take_more words i d here) ∙ (ap (λ l. leaves_from s 0 l) (map-append (λ (w : Id). w.0) (take i words) (get_or words i d ∷ []))
      ∙ (leaves_append s 0 (numbers_of (take i words)) (w ∷ []) ∙ ap (λ l. leaves_from s 0 (numbers_of (take i words)) ++ l) one)))

leaves_less : (s : Stored) (i : ℕ) (ws vs : List ℕ) → length (leaves_from s i ws) ≤ length (leaves_from s i (ws ++ vs))
leaves_less s i ws vs = omega (arith, ap length (leaves_append s i ws vs), length-append (leaves_from s i ws) (leaves_from s (i + length ws) vs))

pub leaves_fit : (s : Stored) (words : List Id) (i : ℕ) → length (leaves_from s 0 (numbers_of (take i words))) ≤ length (leaves_from s 0 (numbers_of words))
leaves_fit s words i =
    let split : numbers_of words ≡ numbers_of (take i words) ++ numbers_of (drop i words) = ap numbers_of (sym (take-append-drop i words)) ∙ map-append (λ (w : Id). w.0) (take i words) (drop i words) in
    omega (arith, leaves_less s 0 (numbers_of (take i words)) (numbers_of (drop i words)), ap (λ l. length (leaves_from s 0 l)) split)

-- the entries of one more word are pushed, or there is no room for them
module _ (s : Stored) (v : Shown) (words : List Id) (i : ℕ) (d : Id) (here : i < length words) (limit : ℕ) (old es new : List Edge)
    (b : Behind (rules_of s) s v old (leaves_from s 0 (numbers_of (take i words))) es) where
  abbrev before : List Derivation
  before = leaves_from s 0 (numbers_of (take i words))

  abbrev next : List Derivation
  next = leaves_at s (get_or words i d).0 i

  pub word_full : ArePushed (rules_of s) s v limit es next new false → ArePushed (rules_of s) s v limit old (leaves_from s 0 (numbers_of words)) new false
  word_full full =
      omega (arith, full, behind_length (rules_of s) s v old es before b, ap length (leaves_next s words i d here), length-append before next, leaves_fit s words (i + 1))

  pub word_more : ArePushed (rules_of s) s v limit es next new true → Behind (rules_of s) s v old (leaves_from s 0 (numbers_of (take (i + 1) words))) new
  word_more p = subst (λ ts. Behind (rules_of s) s v old ts new) (leaves_next s words i d here) (behind_append (rules_of s) s v old es before next p.0 new b p.1 p.2)
