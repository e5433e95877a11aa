-- Laws of the definitions, each the contract of a function with an empty body.
use Rattle.std.specs.Prelude.{length, ◌+◌, is_some, cond, flat_map, None, ◌≤◌, ◌<◌, ◌^◌, true, false, ◌||◌, nat_eq, decimal, Ok, slice_get, Contains, Bool, [], ◌∷◌, suc, ◌≡◌, ℕ, List, ◌++◌, Option, Some}
use Rattle.std.specs.List.{AllByRecursion}
use Rattle.patr_lists.specs.Members.{NoRepeats, IsIn}
use Rattle.patr_model.specs.Chart.{Judgement, InChart, IsDerivation}
use Rattle.patr_model.specs.Plain.{plain, IsPlain, IsBare}
use Rattle.patr_model.specs.Solved.{solved}
use Rattle.patr_model.specs.Session.{Grounds, State, IsLeastText, IsSentenceReply}
use Rattle.patr_model.specs.Category.{category}
use Rattle.patr_model.specs.Equation.{AtomOf}
use Rattle.patr_model.specs.Derivation.{Rules, RuleVariant, rule_variant, Derivation, Begin, Extend, seen, IsPartial, IsComplete}
use Rattle.patr_model.specs.Solution.{Solution, IsSolvable, IsLeastValue}
use Rattle.patr_model.specs.Structure.{Value, Atom, Node, Arc, Arcs, arcs_of, along, HasDistinct, arc, Structure, IsStructure, IsValue, IsReached}
use Rattle.patr_model.specs.Subsumption.{MapsInto, Same, TakesBoth, IsUnifier}
use Rattle.patr_model.specs.Text.{Look, Outline, outline_text, comes_before, in_order, spelled, canonical, place_in, tree_of, visits, repeats, kept, number_in, goes_on, numeral}
use Rattle.patr_model.specs.Stack.{Event, OfAtom, OfAgain, Opens, OfArc, Closes, events, opened, met_again, event_text, Frame, frame, begun, rest_of, building, fed}
use Rattle.patr_model.specs.Pairs.{Pair, pair, Waits, IsOnPairs, set_image, pairs_of, left_over}
use Rattle.patr_model.specs.Items.{Expect, AValue, Follows, item_of, item_front, text_of}
use Rattle.patr_model.specs.declared.lookahead.Kind.TheVariants.{Word}
use Rattle.patr_model.specs.declared.lookahead.Lookahead.TheVariants.{Piece}
use Rattle.patr_model.specs.Tokens.{Place, front, scan}
use Rattle.patr_model.specs.Reading.{Built, built, HasText, parsed, read}

-- subsumption is an order, up to being the same
pub record SubsumptionIsOrder : Type 0 where
  pub reflexive : (S : Structure) (v : Value) → IsStructure S → IsValue S v → MapsInto S v S v
  pub transitive : (S : Structure) (v : Value) (G : Structure) (w : Value) (H : Structure) (x : Value) → MapsInto S v G w → MapsInto G w H x → MapsInto S v H x

-- any two unifiers are the same
abbrev pub UnifiersAreSame : Type 0
UnifiersAreSame = (L : Structure) (l : Value) (p : List ℕ) (R : Structure) (r : Value) (U : Structure) (u : Value) (V : Structure) (v : Value)
    → IsUnifier L l p R r U u → IsUnifier L l p R r V v → Same U u V v

-- Into whichever value the least value of a derivation maps, there are nodes to append, behind which the derivation is solved with that value.
abbrev pub LeastValuesExtend : Type 0
LeastValuesExtend = (g : Rules) (t : Derivation) (M : Structure) (m : Value) (G : Structure) (w : Value)
    → IsLeastValue g t M m → IsStructure G → MapsInto M m G w → (new : Structure) × Solution g t (G ++ new) w

-- The active edge a with the least value (A, v), and the passive edge p with the least value (P, w). The next slot is that of a's first missing daughter.
pub record StepsOfEdges (g : Rules) (a p : Derivation) (A : Structure) (v : Value) (P : Structure) (w : Value) : Type 0 where
  -- a solution of the longer tree makes a structure that takes both
  pub needed : (G : Structure) (x : Value) → Solution g (Extend a p) G x → (H : Structure) × (h : Value) × TakesBoth A v (suc (seen a) ∷ []) P w H h
  -- where daughters are still missing, the unifier is the longer tree's least value
  pub partial : (U : Structure) (u : Value) → IsUnifier A v (suc (seen a) ∷ []) P w U u → IsPartial g (Extend a p) → IsLeastValue g (Extend a p) U u
  -- and else the mother's value in it is
  pub complete : (U : Structure) (u : Value) → IsUnifier A v (suc (seen a) ∷ []) P w U u → IsComplete g (Extend a p)
      → (m : Value) × (arc U u 0 ≡ Some m) × IsLeastValue g (Extend a p) U m

-- An edge is extended by unification: the unifier of the two edges' least values is that of the longer tree, or has it as the mother's value.
abbrev pub UnifierIsLeastValue : Type 0
UnifierIsLeastValue = (g : Rules) (a p : Derivation) (A : Structure) (v : Value) (P : Structure) (w : Value)
    → IsPartial g a → IsComplete g p → IsLeastValue g a A v → IsLeastValue g p P w → StepsOfEdges g a p A v P w

-- each rule variant has, for each of its constituents, the equation that states its category
abbrev pub StatesCategories : Rules → ℕ → Type 0
StatesCategories g cat = (r k : ℕ) (rule : RuleVariant) → rule_variant g r k ≡ Some rule → (s c : ℕ) → slice_get rule.categories s ≡ Some c
    → Contains rule.equations (record { left = record { slot = s; path = cat ∷ [] }; right = AtomOf c })

-- what the parser shows by finding them: each edge has a least value, and so has each rule variant that has a solution
pub record HaveLeastValues (g : Rules) (cat : ℕ) (ws : List ℕ) : Type 0 where
  pub edges : (t : Derivation) → InChart (solved g cat) g ws t → (M : Structure) × (m : Value) × IsLeastValue g t M m
  pub rules : (r k i : ℕ) → IsSolvable g (Begin r k i) → (M : Structure) × (m : Value) × IsLeastValue g (Begin r k i) M m

-- different edges of a list that has them all are no more than it
abbrev pub NoMoreThanAll : Type 0
NoMoreThanAll = (ts us : List Derivation) → NoRepeats ts → ((t : Derivation) → IsIn ts t → IsIn us t) → length ts ≤ length us

-- what is the same as a unifier is one
abbrev pub SameAsUnifier : Type 0
SameAsUnifier = (L : Structure) (l : Value) (p : List ℕ) (R : Structure) (r : Value) (U : Structure) (u : Value) (V : Structure) (v : Value)
    → IsUnifier L l p R r U u → IsStructure V → IsValue V v → Same U u V v → IsUnifier L l p R r V v

-- least values of a derivation have one text
abbrev pub LeastTextsAreOne : Grounds → Type 0
LeastTextsAreOne s = (t : Derivation) (x y : List ℕ) → IsLeastText s t x → IsLeastText s t y → x ≡ y

-- a sentence has one reply
abbrev pub RepliesAreOne : (judge : Rules → ℕ → Judgement) → Type 0
RepliesAreOne judge = (s : Grounds) (st : State) (ws : List (List ℕ)) (x y : List ℕ) → IsSentenceReply judge s st ws x → IsSentenceReply judge s st ws y → x ≡ y

-- a sentence has one reply, by the plain chart and by the chart of solutions
pub record OneReply : Type 0 where
  pub plain : RepliesAreOne (λ g cat. plain g)
  pub solved : RepliesAreOne solved

-- without written equations, plain and solvable derivations are the same
abbrev pub PlainIsSolvable : Type 0
PlainIsSolvable = (g : Rules) (cat : ℕ) → IsBare g cat → (ws : List ℕ) (t : Derivation) → IsDerivation g ws t → (IsPlain g t → IsSolvable g t) × (IsSolvable g t → IsPlain g t)

-- A category does not depend on which least value it is taken from: that of a slot of a partial tree, and that of a complete one.
pub record CategoriesAreOne (g : Rules) (t : Derivation) (A : Structure) (v : Value) (B : Structure) (w : Value) : Type 0 where
  pub slot : IsPartial g t → (k : ℕ) (x y : Value) → arc A v k ≡ Some x → arc B w k ≡ Some y → category g.restrictor A x ≡ category g.restrictor B y
  pub value : category g.restrictor A v ≡ category g.restrictor B w

-- a restricted category is the same, from whichever least value of a derivation it is taken
abbrev pub CategoriesAreOneAll : Type 0
CategoriesAreOneAll = (g : Rules) (t : Derivation) (A : Structure) (v : Value) (B : Structure) (w : Value) → IsLeastValue g t A v → IsLeastValue g t B w → CategoriesAreOne g t A v B w

-- different symbols have different texts
abbrev pub TextsDiffer : Look → Type 0
TextsDiffer l = (a b : ℕ) → l.text a ≡ l.text b → a ≡ b

-- Two values have one canonical text exactly where they are the same. The first part needs nothing of the texts.
pub record TextIsStructure (l : Look) (S : Structure) (v : Value) (G : Structure) (w : Value) : Type 0 where
  pub one_text : Same S v G w → canonical l S v ≡ canonical l G w
  pub one_structure : TextsDiffer l → canonical l S v ≡ canonical l G w → Same S v G w

-- two values of structures are the same exactly where their canonical texts are, if different symbols have different texts
abbrev pub CanonicalTexts : Type 0
CanonicalTexts = (l : Look) (S : Structure) (v : Value) (G : Structure) (w : Value) → IsStructure S → IsValue S v → IsStructure G → IsValue G w → TextIsStructure l S v G w

-- each text of the tree that is spelled has a symbol, with that text
abbrev pub HasSymbols : Look → (List ℕ → ℕ) → List ℕ → Type 0
HasSymbols l number text = (o : Outline (List ℕ)) → parsed text ≡ Some o → spelled l.text (spelled number o) ≡ o

-- A text is read exactly where it is that of some value of a structure, and what is read is such a value.
pub record ReadsText (l : Look) (number : List ℕ → ℕ) (text : List ℕ) : Type 0 where
  pub has : (r : Built) → read l number text ≡ Some r → HasText l r.nodes r.value text
  pub found : TextsDiffer l → HasSymbols l number text → (S : Structure) (v : Value) → HasText l S v text → (r : Built) × (read l number text ≡ Some r) × Same S v r.nodes r.value
  pub refused : TextsDiffer l → HasSymbols l number text → read l number text ≡ None → (S : Structure) (v : Value) → HasText l S v text → ⊥

-- each text is read back as a value that prints so, or as none where no value does, if symbols and texts belong together one to one
abbrev pub TextsAreRead : Type 0
TextsAreRead = (l : Look) (number : List ℕ → ℕ) (text : List ℕ) → ReadsText l number text

-- what is read from a value's text is the same as the value
abbrev pub ReadingIsBack : Type 0
ReadingIsBack = (l : Look) (number : List ℕ → ℕ) → ((a : ℕ) → number (l.text a) ≡ a) → (S : Structure) (v : Value) → IsStructure S → IsValue S v
    → (r : Built) × (read l number (canonical l S v) ≡ Some r) × Same S v r.nodes r.value

-- the least values of a derivation have one text
abbrev pub LeastTextsAreOneAll : Type 0
LeastTextsAreOneAll = (s : Grounds) → LeastTextsAreOne s

-- two different arcs of reached nodes lead to the node n
pub record IsShared (S : Structure) (v : Value) (n : ℕ) : Type 0 where
  pub from : ℕ
  pub along : ℕ
  pub from' : ℕ
  pub along' : ℕ
  pub reached : IsReached S v from
  pub reached' : IsReached S v from'
  pub leads : arc S (Node from) along ≡ Some (Node n)
  pub leads' : arc S (Node from') along' ≡ Some (Node n)
  pub two : from ≡ from' → along ≡ along' → ⊥

-- A walk visits the nodes that are reached, and has each once; and a node has a number exactly where more than one arc of reached nodes leads to it.
pub record WalkIsWhole (l : Look) (S : Structure) (v : Value) : Type 0 where
  pub reached : (n i : ℕ) → place_in (visits (tree_of l S v)) n ≡ Some i → IsReached S v n
  pub visited : (n : ℕ) → IsReached S v n → (i : ℕ) × (place_in (visits (tree_of l S v)) n ≡ Some i)
  pub once : (i n : ℕ) → slice_get (visits (tree_of l S v)) i ≡ Some n → place_in (visits (tree_of l S v)) n ≡ Some i
  pub numbered : (n : ℕ) → 0 < number_in (tree_of l S v) n → IsShared S v n
  pub shared : (n : ℕ) → IsShared S v n → 0 < number_in (tree_of l S v) n

-- the walk from a value of a structure visits each node that is reached, once, and numbers the reentrant ones
abbrev pub WalksAreWhole : Type 0
WalksAreWhole = (l : Look) (S : Structure) (v : Value) → IsStructure S → IsValue S v → WalkIsWhole l S v

-- a text that is one Word token
abbrev pub IsOneWord : List ℕ → Type 0
IsOneWord text = front text ≡ Piece Word (length text)

-- `"`, `\` and `#`
abbrev pub is_special : ℕ → Bool
is_special b = nat_eq b 34 || nat_eq b 92 || nat_eq b 35

-- the text has no `"`, no `\` and no `#`
abbrev pub HasNoSpecial : List ℕ → Type 0
HasNoSpecial text = AllByRecursion (λ b. is_special b ≡ false) text

-- what prints without quotes, and how numbers print
pub record Printing : Type 0 where
  pub bare : (text : List ℕ) → goes_on false text ≡ true → IsOneWord text × HasNoSpecial text
  pub word : (text : List ℕ) → IsOneWord text → HasNoSpecial text → goes_on false text ≡ true
  pub token : (text : List ℕ) → IsOneWord text → (at : ℕ) (p : Place) → scan 0 at p text ≡ Ok (record { kind = Word; text = text; start = at; place = p } ∷ [])
  pub number : (n : ℕ) → 0 < n → n < 2 ^ 64 → numeral n ≡ decimal n

-- The walk as a loop. `rest_of` is what is still to be done; each step does its first event, and one of its arcs.
pub record WalkByStack (l : Look) (S : Structure) : Type 0 where
  pub atom : (c : ℕ) → events (tree_of l S (Atom c)) ≡ OfAtom c ∷ []
  pub start : (n : ℕ) → n < length S → events (tree_of l S (Node n)) ≡ Opens n ∷ rest_of l S (begun l S n ∷ []) []
  pub close : (n : ℕ) (first : Bool) (fs : List Frame) (done : List ℕ) → rest_of l S (frame n first [] ∷ fs) done ≡ Closes ∷ rest_of l S fs (done ++ n ∷ [])
  pub to_atom : (n : ℕ) (first : Bool) (e : Arc) (es : Arcs) (fs : List Frame) (done : List ℕ) (c : ℕ) → e.to ≡ Atom c
      → rest_of l S (frame n first (e ∷ es) ∷ fs) done ≡ OfArc first e.attribute ∷ OfAtom c ∷ rest_of l S (frame n false es ∷ fs) done
  pub to_done : (n : ℕ) (first : Bool) (e : Arc) (es : Arcs) (fs : List Frame) (done : List ℕ) (m : ℕ) → e.to ≡ Node m → m < length S → is_some (place_in done m) ≡ true
      → rest_of l S (frame n first (e ∷ es) ∷ fs) done ≡ OfArc first e.attribute ∷ OfAgain m ∷ rest_of l S (frame n false es ∷ fs) done
  pub to_new : (n : ℕ) (first : Bool) (e : Arc) (es : Arcs) (fs : List Frame) (done : List ℕ) (m : ℕ) → e.to ≡ Node m → m < length S → is_some (place_in done m) ≡ false
      → rest_of l S (frame n first (e ∷ es) ∷ fs) done ≡ OfArc first e.attribute ∷ Opens m ∷ rest_of l S (begun l S m ∷ frame n false es ∷ fs) done

-- what the events of a value say: the visits, the repeats and, with the nodes' numbers, the text
pub record EventsTell (l : Look) (S : Structure) (v : Value) : Type 0 where
  pub first : opened (events (tree_of l S v)) ≡ visits (tree_of l S v)
  pub again : met_again (events (tree_of l S v)) ≡ repeats (tree_of l S v)
  pub text : canonical l S v ≡ flat_map (event_text l (number_in (tree_of l S v))) (events (tree_of l S v))
  -- a node's number, by the visits before its first
  pub number : (before behind : List ℕ) (n : ℕ) → visits (tree_of l S v) ≡ before ++ n ∷ behind → place_in before n ≡ None
      → number_in (tree_of l S v) n ≡ cond (is_some (place_in (repeats (tree_of l S v)) n)) (suc (length (kept (repeats (tree_of l S v)) before))) 0

-- the walk over a structure can be made with a stack of begun nodes, and its events tell a value's text
pub record WalksByStack : Type 0 where
  pub steps : (l : Look) (S : Structure) → IsStructure S → WalkByStack l S
  pub told : (l : Look) (S : Structure) (v : Value) → EventsTell l S v

-- The steps of the loop that decides MapsInto: each takes a pair, and keeps what holds or shows that no map is.
pub record MapsByPairs (S : Structure) (v : Value) (G : Structure) (w : Value) : Type 0 where
  pub start : IsOnPairs S v G w (λ n. None) (pair v w ∷ [])
  pub atom : (m : ℕ → Option Value) (ps : List Pair) (c : ℕ) → IsOnPairs S v G w m (pair (Atom c) (Atom c) ∷ ps) → IsOnPairs S v G w m ps
  pub other_atom : (m : ℕ → Option Value) (ps : List Pair) (c : ℕ) (y : Value) → IsOnPairs S v G w m (pair (Atom c) y ∷ ps) → (Atom c ≡ y → ⊥) → MapsInto S v G w → ⊥
  pub known : (m : ℕ → Option Value) (ps : List Pair) (n : ℕ) (y : Value) → IsOnPairs S v G w m (pair (Node n) y ∷ ps) → m n ≡ Some y → IsOnPairs S v G w m ps
  pub other : (m : ℕ → Option Value) (ps : List Pair) (n : ℕ) (y z : Value) → IsOnPairs S v G w m (pair (Node n) y ∷ ps) → m n ≡ Some z → (z ≡ y → ⊥) → MapsInto S v G w → ⊥
  pub new : (m : ℕ → Option Value) (ps : List Pair) (n : ℕ) (y : Value) (qs : List Pair) → IsOnPairs S v G w m (pair (Node n) y ∷ ps) → m n ≡ None → pairs_of G y (arcs_of S (Node n)) ≡ Some qs
      → IsOnPairs S v G w (set_image m n y) (qs ++ ps)
  pub no_arc : (m : ℕ → Option Value) (ps : List Pair) (n : ℕ) (y : Value) → IsOnPairs S v G w m (pair (Node n) y ∷ ps) → pairs_of G y (arcs_of S (Node n)) ≡ None → MapsInto S v G w → ⊥
  pub end : (m : ℕ → Option Value) → IsOnPairs S v G w m [] → MapsInto S v G w
  -- the order of the pairs does not matter
  pub reordered : (m : ℕ → Option Value) (ps qs : List Pair) → ((x y : Value) → Waits ps x y → Waits qs x y) → ((x y : Value) → Waits qs x y → Waits ps x y) → IsOnPairs S v G w m ps → IsOnPairs S v G w m qs
  -- a new image takes one pair and adds as many as no longer can come
  pub measure : (m : ℕ → Option Value) (ps : List Pair) (n : ℕ) (y : Value) (qs : List Pair) → m n ≡ None → pairs_of G y (arcs_of S (Node n)) ≡ Some qs
      → length (qs ++ ps) + left_over (set_image m n y) 0 S ≡ length ps + left_over m 0 S

-- subsumption between values of structures is decided by looking at pairs, one after another
abbrev pub MapsByPairsAll : Type 0
MapsByPairsAll = (S : Structure) (v : Value) (G : Structure) (w : Value) → IsStructure S → IsStructure G → IsValue G w → MapsByPairs S v G w

-- A tree is built from its events, one after another.
abbrev pub BuildsByStack : Type 0
BuildsByStack = (o : Outline ℕ) → fed (events o) (building [] None [] []) ≡ building [] (Some (built o [] []).value) (built o [] []).nodes (built o [] []).numbers

-- each arc comes before each later one
abbrev pub IsInOrder : Look → Arcs → Type 0
IsInOrder l [] = Unit {0}
IsInOrder l (e ∷ es) = AllByRecursion (λ f. comes_before l e.attribute f.attribute ≡ true) es × IsInOrder l es

-- arcs that are sorted are the arcs in order
abbrev pub SortedIsInOrder : Type 0
SortedIsInOrder = (l : Look) (es fs : Arcs) → IsInOrder l es → HasDistinct fs → ((a : ℕ) → along es a ≡ along fs a) → es ≡ in_order l fs

-- A text is read event by event: each stands at the front of the text of what is left.
pub record ReadsByItems (l : Look) : Type 0 where
  pub whole : (o : Outline ℕ) → Follows (events o) AValue 0
  pub text : (o : Outline ℕ) → outline_text (spelled l.text o) ≡ text_of l (events o)
  pub front : (e : Expect) (d : ℕ) (x : Event) (left : List Event) → Follows (x ∷ left) e d
      → item_front e (text_of l (x ∷ left)) ≡ Some (record { it = item_of l x; rest = text_of l left })
  -- where nothing is left of the text, nothing is expected
  pub ended : (e : Expect) (d : ℕ) (left : List Event) → Follows left e d → text_of l left ≡ [] → left ≡ []

-- a canonical text is read event by event, whatever the texts of the symbols are
abbrev pub ReadsByItemsAll : Type 0
ReadsByItemsAll = (l : Look) → ReadsByItems l

-- two Looks with one order give these symbols one text
abbrev pub GiveOneText : Look → Look → ℕ → Type 0
GiveOneText l m c = l.text c ≡ m.text c

-- the property holds of the atom, where the value is one
abbrev pub OfValue : (ℕ → Type 0) → Value → Type 0
OfValue P (Atom c) = P c
OfValue P (Node n) = Unit {0}

-- all symbols of a structure's arcs, and of a value
abbrev pub OfSymbols : (ℕ → Type 0) → Structure → Value → Type 0
OfSymbols P S v = OfValue P v × ((n : ℕ) → AllByRecursion (λ e. P e.attribute × OfValue P e.to) (arcs_of S (Node n)))

-- so a canonical text depends on the texts of the symbols that are there, and on the order
abbrev pub TextsAreLocal : Type 0
TextsAreLocal = (l m : Look) (S : Structure) (v : Value) → IsStructure S → IsValue S v → l.order ≡ m.order → OfSymbols (GiveOneText l m) S v → canonical l S v ≡ canonical m S v
