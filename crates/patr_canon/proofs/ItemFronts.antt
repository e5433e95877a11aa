-- What stands at the front of a canonical text is what the reader finds there.
use Rattle.std.proofs.Common.{◌≡◌, ◌⊎◌, inl, inr, ℕ, suc, ◌+◌, ◌*◌, ◌-◌, ◌<◌, ◌≤◌, ◌^◌, Bool, true, false, cond, nat_eq, eqb-true, eq-eqb, true≢false, List, [], ◌∷◌, ◌++◌, length, append_assoc, Option, Some, None, option_map, refl, sym, ap, ◌∙◌, subst, arith, ne_eqb}
use denote.Ref.{Bor}
use Rattle.patr_canon.proofs.Names.{Closes, Event, EventFits, Id, IsArcFront, IsBareFront, IsItem, IsLookOf, IsNumberItem, IsNumbered, IsQuotedFront, IsSymbolFront, Look, OfAgain, OfArc, OfAtom, Opens, event_seen, expect_in, is_digit, printed, reads, some_inj}
use Rattle.patr_model.specs.Items.{AValue, Follows, Item, AnAtom, AnAgain, AnOpening, item_of, item_front, number_item, with_number, value_item, text_of}
use Rattle.patr_model.specs.Reading.{Front, changed, skip, Opens as Bracket, Numbers, Other, bare_front, digits_step, digits_front, printed_front, printed_step, quoted_step, quoted_front}
use Rattle.patr_model.specs.Stack.{separator}
use Rattle.patr_model.proofs.Spelling.{printed_back, printed_begins, skip_back}
use Rattle.patr_canon.specs.declared.event.Event as its
use Rattle.patr_canon.specs.declared.event.Event.TheVariants as event

-- ---- how much is left

none_not : {A : Type 0} (x : A) → None ≡ Some x → ⊥
none_not x e = cc

-- a byte that is taken, and then the rest
taken_shorter : (b : ℕ) (bs : List ℕ) (f : Front (List ℕ)) (o : Option (Front (List ℕ))) → option_map (changed (λ t. b ∷ t)) o ≡ Some f → ((g : Front (List ℕ)) → o ≡ Some g → length g.rest < length bs) → length f.rest < suc (length bs)
taken_shorter b bs f None k h = cc
taken_shorter b bs f (Some g) k h =
    let s = h g refl in
    let same : g.rest ≡ f.rest = ap (λ (x : Front (List ℕ)). x.rest) (some_inj (changed (λ t. b ∷ t) g) f k) in
    let n = ap length same in omega (arith, s, n)

pub quoted_shorter : (bs : List ℕ) (e : Bool) (f : Front (List ℕ)) → quoted_front bs e ≡ Some f → length f.rest < length bs
quoted_shorter [] e f h = cc
quoted_shorter (b ∷ bs) true f h = taken_shorter b bs f (quoted_front bs false) h (quoted_shorter bs false)
quoted_shorter (b ∷ bs) false f h = go (nat_eq b 34) (nat_eq b 92) h (quoted_shorter bs)
  where
    go : (p q : Bool) → quoted_step p q b bs (quoted_front bs) ≡ Some f → ((e : Bool) (g : Front (List ℕ)) → quoted_front bs e ≡ Some g → length g.rest < length bs) → length f.rest < suc (length bs)
    go true q k rest = let same : bs ≡ f.rest = ap (λ (x : Front (List ℕ)). x.rest) (some_inj (record { it = []; rest = bs }) f k) in let n = ap length same in omega (arith, n)
    go false true k rest = let s = rest true f k in omega (arith, s)
    go false false k rest = taken_shorter b bs f (quoted_front bs false) k (rest false)

pub skip_length : (cs bs r : List ℕ) → Some r ≡ skip cs bs → length r + length cs ≡ length bs
skip_length [] bs r h = let same : r ≡ bs = cc in let n = ap length same in omega (arith, n)
skip_length (c ∷ cs) [] r h = cc
skip_length (c ∷ cs) (b ∷ bs) r h = go (nat_eq c b) h (skip_length cs bs r)
  where
    go : (t : Bool) → Some r ≡ cond t (skip cs bs) None → (Some r ≡ skip cs bs → length r + length cs ≡ length bs) → length r + suc (length cs) ≡ suc (length bs)
    go true k rest = let e = rest k in omega (arith, e)
    go false k rest = cc

pub digits_shorter : (bs : List ℕ) (k : ℕ) → length (digits_front bs k).rest ≤ length bs
digits_shorter [] k = omega arith
digits_shorter (b ∷ bs) k = go (is_digit b) (digits_shorter bs (k * 10 + (b - 48)))
  where
    go : (t : Bool) → length (digits_front bs (k * 10 + (b - 48))).rest ≤ length bs → length (digits_step t k (b ∷ bs) (digits_front bs (k * 10 + (b - 48)))).rest ≤ suc (length bs)
    go true h = omega (arith, h)
    go false h = omega arith

-- ---- numbers

pub number_opening : (bs rest next : List ℕ) (n : ℕ) → digits_front bs 0 ≡ record { it = n; rest = rest } → Some next ≡ skip (32 ∷ 91 ∷ []) rest
    → (with_number (digits_front bs 0) ≡ record { it = AnOpening n; rest = next }) × (length next ≤ length bs)
number_opening bs rest next n h k = (
  ap with_number h ∙ ap (number_item (record { it = n; rest = rest })) (sym k),
  (let s = skip_length (32 ∷ 91 ∷ []) rest next k in let d = digits_shorter bs 0 in let same = ap (λ (f : Front ℕ). length f.rest) h in omega (arith, s, d, same)),
)

pub number_again : (bs rest : List ℕ) (n : ℕ) → digits_front bs 0 ≡ record { it = n; rest = rest } → None ≡ skip (32 ∷ 91 ∷ []) rest
    → (with_number (digits_front bs 0) ≡ record { it = AnAgain n; rest = rest }) × (length rest ≤ length bs)
number_again bs rest n h k = (
  ap with_number h ∙ ap (number_item (record { it = n; rest = rest })) (sym k),
  (let d = digits_shorter bs 0 in let same = ap (λ (f : Front ℕ). length f.rest) h in omega (arith, d, same)),
)

-- ---- symbols

starts : (c : ℕ) (bs q : List ℕ) → Some q ≡ skip (c ∷ []) bs → bs ≡ c ∷ q
starts c [] q h = cc
starts c (b ∷ bs) q h = go (nat_eq c b) refl h
  where
    go : (t : Bool) → nat_eq c b ≡ t → Some q ≡ cond t (Some bs) None → b ∷ bs ≡ c ∷ q
    go true e k = ap (λ x. x ∷ bs) (sym (eqb-true c b e)) ∙ ap (λ l. c ∷ l) (some_inj bs q (sym k))
    go false e k = cc

starts_not : (c b : ℕ) (bs : List ℕ) → None ≡ skip (c ∷ []) (b ∷ bs) → (b ≡ c → ⊥)
starts_not c b bs h e = let bad : None ≡ Some bs = h ∙ (ap (λ x. skip (c ∷ []) (x ∷ bs)) e ∙ skip_back (c ∷ []) bs) in cc

pub quoted_is : (table : List (List ℕ)) (bs q : List ℕ) (r : Option (Id × Bor (List ℕ))) → Some q ≡ skip (34 ∷ []) bs → IsQuotedFront table q r → IsSymbolFront table bs r
quoted_is table bs q None h k = λ t r e f. none_not (record { it = t; rest = r }) (sym k ∙ (sym (ap printed_front (starts 34 bs q h)) ∙ f))
quoted_is table bs q (Some x) h k = (k.0, k.1, ap printed_front (starts 34 bs q h) ∙ k.2)

plain_is : (b : ℕ) (bs : List ℕ) → None ≡ skip (34 ∷ []) (b ∷ bs) → printed_front (b ∷ bs) ≡ Some (bare_front (b ∷ bs))
plain_is b bs h = ap (λ t. printed_step t b bs) (ne_eqb b 34 (starts_not 34 b bs h))

pub bare_symbol_is : (table : List (List ℕ)) (bs : List ℕ) (r : Option (Id × Bor (List ℕ))) → None ≡ skip (34 ∷ []) bs → IsBareFront table bs r → IsSymbolFront table bs r
bare_symbol_is table [] None h k = λ t r e f. cc
bare_symbol_is table [] (Some x) h k = absurd (k.3 refl)
bare_symbol_is table (b ∷ bs) (Some x) h k = (k.0, k.1, plain_is b bs h ∙ ap Some k.2)
bare_symbol_is table (b ∷ bs) None h k = λ t r e f.
    let same : t ≡ [] = ap (λ (x : Front (List ℕ)). x.it) (some_inj (record { it = t; rest = r }) (bare_front (b ∷ bs)) (sym f ∙ plain_is b bs h)) ∙ k in
    let quote : b ∷ bs ≡ 34 ∷ 34 ∷ r = sym e ∙ ap (λ u. printed u ++ r) same in
    starts_not 34 b bs h (let first : b ≡ 34 = cc in first)

-- ---- attributes

pub arc_none : (table : List (List ℕ)) (first : Bool) (bs : List ℕ) → IsSymbolFront table bs None → (l : Look) → IsLookOf table l → (a : ℕ) (r : List ℕ) → printed (l.text a) ++ 58 ∷ 32 ∷ r ≡ bs → ⊥
arc_none table first bs h l is a r e = h (l.text a) (58 ∷ 32 ∷ r) e (ap printed_front (sym e) ∙ printed_back (l.text a) (58 ∷ 32 ∷ r) refl)

-- an attribute's text is the one that was read
same_front : (l : Look) (a : ℕ) (t r rest bs : List ℕ) → printed (l.text a) ++ 58 ∷ 32 ∷ r ≡ bs → printed_front bs ≡ Some (record { it = t; rest = rest }) → (l.text a ≡ t) × (58 ∷ 32 ∷ r ≡ rest)
same_front l a t r rest bs e h =
    let one = some_inj (record { it = l.text a; rest = 58 ∷ 32 ∷ r }) (record { it = t; rest = rest }) (sym (ap printed_front (sym e) ∙ printed_back (l.text a) (58 ∷ 32 ∷ r) refl) ∙ h) in
    (ap (λ (f : Front (List ℕ)). f.it) one, ap (λ (f : Front (List ℕ)). f.rest) one)

pub arc_cut : (table : List (List ℕ)) (bs : List ℕ) (id : Id) (x : Bor (List ℕ)) → IsSymbolFront table bs (Some (id, x)) → None ≡ skip (58 ∷ 32 ∷ []) x.now
    → (l : Look) → IsLookOf table l → (a : ℕ) (r : List ℕ) → printed (l.text a) ++ 58 ∷ 32 ∷ r ≡ bs → ⊥
arc_cut table bs id x h none l is a r e =
    let s = same_front l a h.0 r x.now bs e h.2 in
    let bad : None ≡ Some r = none ∙ (ap (skip (58 ∷ 32 ∷ [])) (sym s.1) ∙ skip_back (58 ∷ 32 ∷ []) r) in cc

pub arc_is : (table : List (List ℕ)) (first : Bool) (bs next : List ℕ) (id : Id) (x : Bor (List ℕ)) → IsSymbolFront table bs (Some (id, x)) → Some next ≡ skip (58 ∷ 32 ∷ []) x.now
    → (l : Look) → IsLookOf table l → (a : ℕ) (r : List ℕ) → printed (l.text a) ++ 58 ∷ 32 ∷ r ≡ bs → (OfArc first a ≡ OfArc first id.0) × (r ≡ next)
arc_is table first bs next id x h some l is a r e =
    let s = same_front l a h.0 r x.now bs e h.2 in
    let one : l.text a ≡ l.text id.0 = s.0 ∙ sym (is.texts id.0 h.0 h.1) in (
      ap (OfArc first) (is.differ a id.0 one),
      some_inj r next (sym (some ∙ (ap (skip (58 ∷ 32 ∷ [])) (sym s.1) ∙ skip_back (58 ∷ 32 ∷ []) r))),
    )

-- ---- values

-- what an item says of the event
opening_is : (l : Look) (x : Event) (n : ℕ) → AnOpening n ≡ item_of l x → x ≡ Opens n
opening_is l (OfAtom c) n h = cc
opening_is l (OfAgain m) n h = cc
opening_is l (Opens m) n h = let e : n ≡ m = cc in ap Opens (sym e)
opening_is l (OfArc first a) n h = cc
opening_is l Closes n h = cc

again_is : (l : Look) (x : Event) (n : ℕ) → AnAgain n ≡ item_of l x → x ≡ OfAgain n
again_is l (OfAtom c) n h = cc
again_is l (OfAgain m) n h = let e : n ≡ m = cc in ap OfAgain (sym e)
again_is l (Opens m) n h = cc
again_is l (OfArc first a) n h = cc
again_is l Closes n h = cc

atom_is : (l : Look) (x : Event) (t : List ℕ) → AnAtom t ≡ item_of l x → (c : ℕ) × (x ≡ OfAtom c) × (t ≡ l.text c)
atom_is l (OfAtom c) t h = (c, refl, (let e : t ≡ l.text c = cc in e))
atom_is l (OfAgain m) t h = cc
atom_is l (Opens m) t h = cc
atom_is l (OfArc first a) t h = cc
atom_is l Closes t h = cc

module _ (table : List (List ℕ)) (bs : List ℕ) (l : Look) (is : IsLookOf table l) (d : ℕ) (x : Event) (left : List Event) (follows : Follows (x ∷ left) AValue d) (text : text_of l (x ∷ left) ≡ bs) where
  found : item_front AValue bs ≡ Some (record { it = item_of l x; rest = text_of l left })
  found = ap (item_front AValue) (sym text) ∙ (reads l).front AValue d x left follows

  given : (i : Item) (rest : List ℕ) → item_front AValue bs ≡ Some (record { it = i; rest = rest }) → (i ≡ item_of l x) × (text_of l left ≡ rest)
  given i rest h =
      let one = some_inj (record { it = i; rest = rest }) (record { it = item_of l x; rest = text_of l left }) (sym h ∙ found) in
      (ap (λ (f : Front Item). f.it) one, sym (ap (λ (f : Front Item). f.rest) one))

  pub opening_item : (rest : List ℕ) → Some rest ≡ skip (91 ∷ []) bs → (x ≡ Opens 0) × (text_of l left ≡ rest)
  opening_item rest h = let g = given (AnOpening 0) rest (ap (item_front AValue) (starts 91 bs rest h)) in (opening_is l x 0 g.0, g.1)

  at_number : (rest : List ℕ) → Some rest ≡ skip (35 ∷ []) bs → item_front AValue bs ≡ Some (with_number (digits_front rest 0))
  at_number rest h = ap (item_front AValue) (starts 35 bs rest h)

  pub number_event : (rest : List ℕ) (e : its.Event) (next : List ℕ) → Some rest ≡ skip (35 ∷ []) bs → IsNumberItem rest e next → (x ≡ event_seen e) × (text_of l left ≡ next)
  number_event rest (event.Atom c) next h k = absurd k
  number_event rest (event.Again n) next h k = let g = given (AnAgain n) next (at_number rest h ∙ ap Some k) in (again_is l x n g.0, g.1)
  number_event rest (event.Open n) next h k = let g = given (AnOpening n) next (at_number rest h ∙ ap Some k) in (opening_is l x n g.0, g.1)
  number_event rest (event.Arc first a) next h k = absurd k
  number_event rest event.Close next h k = absurd k

  pub number_large : (rest : List ℕ) → Some rest ≡ skip (35 ∷ []) bs → 2 ^ 32 ≤ (digits_front rest 0).it → EventFits x → ⊥
  number_large rest h large fits = go (skip (32 ∷ 91 ∷ []) (digits_front rest 0).rest) refl
    where
      go : (o : Option (List ℕ)) → skip (32 ∷ 91 ∷ []) (digits_front rest 0).rest ≡ o → ⊥
      go None e =
          let g = given (AnAgain (digits_front rest 0).it) (digits_front rest 0).rest (at_number rest h ∙ ap (λ u. Some (number_item (digits_front rest 0) u)) e) in
          let small : (digits_front rest 0).it < 2 ^ 32 = subst EventFits (again_is l x (digits_front rest 0).it g.0) fits in omega (arith, large, small)
      go (Some next) e =
          let g = given (AnOpening (digits_front rest 0).it) next (at_number rest h ∙ ap (λ u. Some (number_item (digits_front rest 0) u)) e) in
          let small : (digits_front rest 0).it < 2 ^ 32 = subst EventFits (opening_is l x (digits_front rest 0).it g.0) fits in omega (arith, large, small)

pub numbered_item : (table : List (List ℕ)) (bs rest : List ℕ) (r : Option (its.Event × Bor (List ℕ))) → Some rest ≡ skip (35 ∷ []) bs → IsNumbered rest r → IsItem table AValue bs r
numbered_item table bs rest None h k = λ l is d x left f fits e. number_large table bs l is d x left f e rest h k fits
numbered_item table bs rest (Some r) h k = λ l is d x left f fits e. number_event table bs l is d x left f e rest r.0 r.1.now h k.0

-- no bracket and no number: an atom
at_atom : (bs : List ℕ) → None ≡ skip (91 ∷ []) bs → None ≡ skip (35 ∷ []) bs → item_front AValue bs ≡ option_map (changed AnAtom) (printed_front bs)
at_atom [] h k = refl
at_atom (b ∷ bs) h k =
    ap (λ t. value_item (cond t Bracket (cond (nat_eq b 35) Numbers Other)) b bs) (ne_eqb b 91 (starts_not 91 b bs h))
    ∙ ap (λ t. value_item (cond t Numbers Other) b bs) (ne_eqb b 35 (starts_not 35 b bs k))

module _ (table : List (List ℕ)) (bs : List ℕ) (no_bracket : None ≡ skip (91 ∷ []) bs) (no_number : None ≡ skip (35 ∷ []) bs)
    (l : Look) (is : IsLookOf table l) (d : ℕ) (x : Event) (left : List Event) (follows : Follows (x ∷ left) AValue d) (text : text_of l (x ∷ left) ≡ bs) where
  pub atom_item : (id : Id) (b : Bor (List ℕ)) → IsSymbolFront table bs (Some (id, b)) → (x ≡ OfAtom id.0) × (text_of l left ≡ b.now)
  atom_item id b h =
      let g = given table bs l is d x left follows text (AnAtom h.0) b.now (at_atom bs no_bracket no_number ∙ ap (option_map (changed AnAtom)) h.2) in
      let a = atom_is l x h.0 g.0 in
      let one : l.text a.0 ≡ l.text id.0 = sym a.2 ∙ sym (is.texts id.0 h.0 h.1) in
      (a.1 ∙ ap OfAtom (is.differ a.0 id.0 one), g.1)

  pub atom_none : IsSymbolFront table bs None → ⊥
  atom_none h = go (printed_front bs) refl
    where
      go : (o : Option (Front (List ℕ))) → printed_front bs ≡ o → ⊥
      go None e =
          none_not (record { it = item_of l x; rest = text_of l left })
          (ap (option_map (changed AnAtom)) (sym e) ∙ (sym (at_atom bs no_bracket no_number) ∙ found table bs l is d x left follows text))
      go (Some f) e =
          let g = given table bs l is d x left follows text (AnAtom f.it) f.rest (at_atom bs no_bracket no_number ∙ ap (option_map (changed AnAtom)) e) in
          let a = atom_is l x f.it g.0 in
          let whole : printed (l.text a.0) ++ text_of l left ≡ bs = ap (λ y. text_of l (y ∷ left)) (sym a.1) ∙ text in
          h (l.text a.0) (text_of l left) whole (e ∙ (ap (λ t. Some (record { it = t; rest = f.rest })) a.2 ∙ ap (λ t. Some (record { it = l.text a.0; rest = t })) (sym g.1)))

-- ---- what follows

-- in a node stands an arc or the closing bracket
in_node : (first : Bool) (x : Event) (left : List Event) (d : ℕ) → Follows (x ∷ left) (expect_in first) d → (x ≡ Closes) ⊎ ((a : ℕ) × (x ≡ OfArc first a))
in_node true (OfAtom c) left d f = absurd f
in_node true (OfAgain n) left d f = absurd f
in_node true (Opens n) left d f = absurd f
in_node true (OfArc true a) left d f = inr (a, refl)
in_node true (OfArc false a) left d f = absurd f
in_node true Closes left d f = inl refl
in_node false (OfAtom c) left d f = absurd f
in_node false (OfAgain n) left d f = absurd f
in_node false (Opens n) left d f = absurd f
in_node false (OfArc true a) left d f = absurd f
in_node false (OfArc false a) left d f = inr (a, refl)
in_node false Closes left d f = inl refl

no_closing : (first : Bool) (t r rest bs : List ℕ) → (separator first ++ (printed t ++ 58 ∷ 32 ∷ [])) ++ r ≡ bs → Some rest ≡ skip (93 ∷ []) bs → ⊥
no_closing false t r rest bs e h = let bad : Some rest ≡ None = h ∙ ap (skip (93 ∷ [])) (sym e) in cc
no_closing true t r rest bs e h =
    let b = printed_begins t in
    let one : b.first ∷ ((b.rest ++ 58 ∷ 32 ∷ []) ++ r) ≡ 93 ∷ rest = ap (λ u. (u ++ 58 ∷ 32 ∷ []) ++ r) (sym b.is) ∙ (e ∙ starts 93 bs rest h) in
    let first : b.first ≡ 93 = cc in
    true≢false (sym (eq-eqb b.first 93 first) ∙ b.closes)

module _ (table : List (List ℕ)) (first : Bool) (bs : List ℕ) where
  -- what is skipped of the text of a node's next event
  skipped : (l : Look) (x y : Event) (left : List Event) → x ≡ y → text_of l (x ∷ left) ≡ bs → (front u : List ℕ) → text_of l (y ∷ left) ≡ front ++ u → skip front bs ≡ Some u
  skipped l x y left same e front u is = ap (skip front) (sym e ∙ (ap (λ z. text_of l (z ∷ left)) same ∙ is)) ∙ skip_back front u

  module _ (l : Look) (d : ℕ) (x : Event) (left : List Event) (f : Follows (x ∷ left) (expect_in first) d) (e : text_of l (x ∷ left) ≡ bs) where
    pub node_closing : (rest : List ℕ) → Some rest ≡ skip (93 ∷ []) bs → (x ≡ Closes) × (text_of l left ≡ rest)
    node_closing rest h = elim (in_node first x left d f) [
      | inl q ↦ (q, sym (some_inj rest (text_of l left) (h ∙ skipped l x Closes left q e (93 ∷ []) (text_of l left) refl)))
      | inr q ↦ absurd (no_closing first (l.text q.0) (text_of l left) rest bs (ap (λ y. text_of l (y ∷ left)) (sym q.1) ∙ e) h)
    ]

    -- what is not closed goes on with an arc behind its separator
    node_goes_on : None ≡ skip (93 ∷ []) bs → (a : ℕ) × (x ≡ OfArc first a) × (skip (separator first) bs ≡ Some (printed (l.text a) ++ 58 ∷ 32 ∷ text_of l left))
    node_goes_on h = elim (in_node first x left d f) [
      | inl q ↦ absurd (none_not (text_of l left) (h ∙ skipped l x Closes left q e (93 ∷ []) (text_of l left) refl))
      | inr q ↦ (q.0, q.1, skipped l x (OfArc first q.0) left q.1 e (separator first) (printed (l.text q.0) ++ 58 ∷ 32 ∷ text_of l left) (simp append_assoc))
    ]

  pub node_none : None ≡ skip (93 ∷ []) bs → None ≡ skip (separator first) bs → IsItem table (expect_in first) bs None
  node_none h s = λ l is d x left f fits e. let n = node_goes_on l d x left f e h in none_not _ (s ∙ n.2)

  pub node_arc : (rest : List ℕ) (r : Option (its.Event × Bor (List ℕ))) → None ≡ skip (93 ∷ []) bs → Some rest ≡ skip (separator first) bs → IsArcFront table first rest r → IsItem table (expect_in first) bs r
  node_arc rest None h s k = λ l is d x left f fits e.
      let n = node_goes_on l d x left f e h in k l is n.0 (text_of l left) (some_inj _ rest (sym n.2 ∙ sym s))
  node_arc rest (Some r) h s k = λ l is d x left f fits e.
      let n = node_goes_on l d x left f e h in
      let b = k l is n.0 (text_of l left) (some_inj _ rest (sym n.2 ∙ sym s)) in
      (n.1 ∙ b.0, b.1)
