-- The reader's loop: one event after another.
use Rattle.std.proofs.Common.{◌≡◌, ℕ, zero, suc, ◌+◌, ◌<◌, ◌≤◌, true, false, List, [], ◌∷◌, ◌++◌, length, slice_get, append-nil, length-append, Option, Some, None, option_map, Vec, refl, sym, ap, ◌∙◌, subst, arith}
use Rattle.patr_lists.proofs.Alls.{all_more, all_weaker}
use Rattle.patr_lists.proofs.Places.{get_left}
use Rattle.patr_canon.proofs.Names.{AllByRecursion, Arcs, ArePlaces, Atom, Building, Closes, Event, EventFits, EventIsSpelled, Global, Half, HasFed, IsItem, IsLookOf, Link, Look, Node, OfAgain, OfArc, OfAtom, OfValue, Opens, Outline, Structure, Target, Value, building, building_seen, built, end_node, event_seen, events, expect_behind, fed, fed_one, nodes_seen, numbered_place, place_in, put_value, reads, set_attribute, stack_seen, target_seen}
use Rattle.patr_model.specs.Items.{Expect, AValue, AFirst, ANext, Follows, text_of}
use Rattle.patr_model.proofs.Building.{builds}
use Rattle.patr_text.proofs.Extending.{extends_trans}
use Rattle.patr_text.specs.Texts.{Extends}
use denote.Ref.{Bor}
use Rattle.patr_canon.specs.declared.event.Event as its
use Rattle.patr_canon.specs.declared.reader.Begun.{Begun}
use Rattle.patr_canon.specs.Built.{ArcIsBelow, ArcsAreBelow, HalfIsBelow, HasBuilt, IsBelow, IsWritten, RootIsBelow}
use Rattle.patr_canon.specs.declared.reader.Reader.{Reader}

-- ---- symbols have texts

still_value : (n m : ℕ) (x : Value) → n ≤ m → OfValue (λ c. c < n) x → OfValue (λ c. c < m) x
still_value n m (Atom c) le h = omega (arith, le, h)
still_value n m (Node k) le h = tt

still_arcs : (n m : ℕ) (es : Arcs) → n ≤ m → ArcsAreBelow n es → ArcsAreBelow m es
still_arcs n m es le h = all_weaker (ArcIsBelow n) (ArcIsBelow m) (λ e k. ((let a = k.0 in omega (arith, le, a)), still_value n m e.to le k.1)) es h

still_stack : (n m : ℕ) (hs : List Half) → n ≤ m → AllByRecursion (HalfIsBelow n) hs → AllByRecursion (HalfIsBelow m) hs
still_stack n m hs le h = all_weaker (HalfIsBelow n) (HalfIsBelow m) (λ x k. ((let a = k.0 in omega (arith, le, a)), still_arcs n m x.arcs le k.1)) hs h

still_nodes : (n m : ℕ) (N : Structure) → n ≤ m → AllByRecursion (ArcsAreBelow n) N → AllByRecursion (ArcsAreBelow m) N
still_nodes n m N le h = all_weaker (ArcsAreBelow n) (ArcsAreBelow m) (λ es k. still_arcs n m es le k) N h

still_root : (n m : ℕ) (o : Option Value) → n ≤ m → RootIsBelow n o → RootIsBelow m o
still_root n m None le h = tt
still_root n m (Some x) le h = still_value n m x le h

pub still_below : (n m : ℕ) (b : Building) → n ≤ m → IsBelow n b → IsBelow m b
still_below n m b le h = record { stack = still_stack n m b.stack le h.stack; root = still_root n m b.root le h.root; nodes = still_nodes n m b.nodes le h.nodes }

put_below : (n : ℕ) (hs : List Half) (root : Option Value) (N : Structure) (M : List ℕ) (x : Value) → AllByRecursion (HalfIsBelow n) hs → RootIsBelow n root → AllByRecursion (ArcsAreBelow n) N → OfValue (λ c. c < n) x
    → IsBelow n (put_value hs root N M x)
put_below n [] root N M x s r q v = record { stack = tt; root = v; nodes = q }
put_below n (h ∷ hs) root N M x s r q v = record { stack = ((s.0.0, all_more (ArcIsBelow n) h.arcs (record { attribute = h.attribute; to = x }) s.0.1 (s.0.0, v)), s.1); root = r; nodes = q }

set_below : (n a : ℕ) (hs : List Half) → a < n → AllByRecursion (HalfIsBelow n) hs → AllByRecursion (HalfIsBelow n) (set_attribute a hs)
set_below n a [] lt s = tt
set_below n a (h ∷ hs) lt s = ((lt, s.0.1), s.1)

end_below : (n : ℕ) (hs : List Half) (root : Option Value) (N : Structure) (M : List ℕ) → AllByRecursion (HalfIsBelow n) hs → RootIsBelow n root → AllByRecursion (ArcsAreBelow n) N → IsBelow n (end_node hs root N M)
end_below n [] root N M s r q = record { stack = tt; root = r; nodes = q }
end_below n (h ∷ hs) root N M s r q = put_below n hs root (N ++ h.arcs ∷ []) (M ++ h.number ∷ []) (Node (length N)) s.1 r (all_more (ArcsAreBelow n) N h.arcs q s.0.1) tt

again_below : (n : ℕ) (N : Structure) (o : Option ℕ) → OfValue (λ c. c < n) (numbered_place N o)
again_below n N None = tt
again_below n N (Some i) = tt

pub fed_below : (n : ℕ) (e : Event) (b : Building) → 0 < n → EventIsSpelled n e → IsBelow n b → IsBelow n (fed_one e b)
fed_below n (OfAtom c) b some s h = put_below n b.stack b.root b.nodes b.numbers (Atom c) h.stack h.root h.nodes s
fed_below n (OfAgain k) b some s h = put_below n b.stack b.root b.nodes b.numbers (numbered_place b.nodes (place_in b.numbers k)) h.stack h.root h.nodes (again_below n b.nodes (place_in b.numbers k))
fed_below n (Opens k) b some s h = record { stack = ((some, tt), h.stack); root = h.root; nodes = h.nodes }
fed_below n (OfArc first a) b some s h = record { stack = set_below n a b.stack s h.stack; root = h.root; nodes = h.nodes }
fed_below n Closes b some s h = end_below n b.stack b.root b.nodes b.numbers h.stack h.root h.nodes

-- ---- events follow one another

follows_on : (x : Event) (left : List Event) (e : Expect) (d : ℕ) → Follows (x ∷ left) e d → (k : ℕ) × Follows left (expect_behind x) k
follows_on (OfAtom c) left AValue d f = (d, f)
follows_on (OfAtom c) left AFirst d f = absurd f
follows_on (OfAtom c) left ANext d f = absurd f
follows_on (OfAgain n) left AValue d f = (d, f)
follows_on (OfAgain n) left AFirst d f = absurd f
follows_on (OfAgain n) left ANext d f = absurd f
follows_on (Opens n) left AValue d f = (suc d, f)
follows_on (Opens n) left AFirst d f = absurd f
follows_on (Opens n) left ANext d f = absurd f
follows_on (OfArc true a) left AValue d f = absurd f
follows_on (OfArc true a) left AFirst d f = (d, f)
follows_on (OfArc true a) left ANext d f = absurd f
follows_on (OfArc false a) left AValue d f = absurd f
follows_on (OfArc false a) left AFirst d f = absurd f
follows_on (OfArc false a) left ANext zero f = absurd f
follows_on (OfArc false a) left ANext (suc d) f = (suc d, f)
follows_on Closes left AValue d f = absurd f
follows_on Closes left AFirst zero f = absurd f
follows_on Closes left AFirst (suc d) f = (d, f)
follows_on Closes left ANext zero f = absurd f
follows_on Closes left ANext (suc d) f = (d, f)

abbrev start : Building
start = building [] None [] []

-- what is left of a tree's events: the text is theirs, and they build with what was read what the tree builds
pub record IsOn (l : Look) (o : Outline ℕ) (e : Expect) (b : Building) (text : List ℕ) : Type 0 where
  pub left : List Event
  pub depth : ℕ
  pub follows : Follows left e depth
  pub fits : AllByRecursion EventFits left
  pub text_is : text_of l left ≡ text
  pub fed_is : fed left b ≡ fed (events o) (building [] None [] [])

-- a Look of a table that got longer
pub look_before : (old new : List (List ℕ)) (l : Look) → Extends old new → IsLookOf new l → IsLookOf old l
look_before old new l h is = record { texts = λ a t e. is.texts a t (subst (λ ts. slice_get ts a ≡ Some t) (sym h.1) (get_left old h.0 a t e)); differ = is.differ }

abbrev pub written_before : (old new : List (List ℕ)) (text : List ℕ) (o : Outline ℕ) → Extends old new → IsWritten new text o → IsWritten old text o
written_before old new text o h w = record { look = w.look; is_look = look_before old new w.look h w.is_look; fits = w.fits; text_is = w.text_is }

pub on_start : (table : List (List ℕ)) (text : List ℕ) (b : Building) → b ≡ building [] None [] [] → (o : Outline ℕ) (w : IsWritten table text o) → IsOn w.look o AValue b text
on_start table text b is o w = record { left = events o; depth = 0; follows = (reads w.look).whole o; fits = w.fits; text_is = w.text_is; fed_is = ap (fed (events o)) is }

-- nothing is left of the text
pub on_end : (l : Look) (o : Outline ℕ) (e : Expect) (b : Building) (text : List ℕ) → text ≡ [] → IsOn l o e b text → (b.root ≡ Some (built o [] []).value) × (b.nodes ≡ (built o [] []).nodes)
on_end l o e b text none on =
    let no_left = (reads l).ended e on.depth on.left on.follows (on.text_is ∙ none) in
    let same : b ≡ building [] (Some (built o [] []).value) (built o [] []).nodes (built o [] []).numbers = ap (λ es. fed es b) (sym no_left) ∙ (on.fed_is ∙ builds o) in
    (ap (λ (x : Building). x.root) same, ap (λ (x : Building). x.nodes) same)

-- what the loop keeps
pub record IsGoing (old now : List (List ℕ)) (text : List ℕ) (r : Reader) (e : Expect) (left : List ℕ) : Type 0 where
  pub table : Extends old now
  pub some : 0 < length now
  pub room : length now + length left ≤ length old + length text
  pub numbers : List ℕ
  pub places : ArePlaces r.places numbers
  pub whole : length numbers ≡ length r.nodes.items
  pub below : IsBelow (length now) (building_seen r numbers)
  pub on : (o : Outline ℕ) (w : IsWritten now text o) → IsOn w.look o e (building_seen r numbers) left

extends_length : (old new : List (List ℕ)) → Extends old new → length old ≤ length new
extends_length old new h = let len = ap length h.1 ∙ length-append old h.0 in omega (arith, len)

pub going_start : (table : List (List ℕ)) (text : List ℕ) (r : Reader) → 0 < length table → ArePlaces r.places [] → r.begun.items ≡ [] → r.root ≡ None → r.nodes.items ≡ [] → IsGoing table table text r AValue text
going_start table text r some places begun root nodes =
    let is : building_seen r [] ≡ building [] None [] [] =
    ap (λ (bs : List Begun). building (stack_seen bs) (option_map target_seen r.root) (nodes_seen r.nodes.items) []) begun
    ∙ (ap (λ (o : Option Target). building [] (option_map target_seen o) (nodes_seen r.nodes.items) []) root ∙ ap (λ (N : List (Vec Link Global)). building [] None (nodes_seen N) []) nodes) in
    record {
      table = ([], sym (append-nil table));
      some = some;
      room = omega arith;
      numbers = [];
      places = places;
      whole = sym (ap length nodes);
      below = subst (IsBelow (length table)) (sym is) (record { stack = tt; root = tt; nodes = tt });
      on = on_start table text (building_seen r []) is;
    }

-- where nothing is found, no tree has the text
pub going_nowhere : (old now new : List (List ℕ)) (text : List ℕ) (r : Reader) (e : Expect) (left : List ℕ) → IsGoing old now text r e left → (left ≡ [] → ⊥) → Extends now new
    → IsItem new e left None → (o : Outline ℕ) → IsWritten new text o → ⊥
going_nowhere old now new text r e left going some more none o w = go on.left refl
  where
    on : IsOn w.look o e (building_seen r going.numbers) left
    on = going.on o (written_before now new text o more w)

    go : (es : List Event) → on.left ≡ es → ⊥
    go [] q = some (sym on.text_is ∙ ap (text_of w.look) q)
    go (x ∷ es) q =
        none w.look w.is_look on.depth x es (subst (λ l. Follows l e on.depth) q on.follows) (subst (AllByRecursion EventFits) q on.fits).0 (ap (text_of w.look) (sym q) ∙ on.text_is)

-- one event more
pub going_on : (old now new : List (List ℕ)) (text : List ℕ) (r s : Reader) (e : Expect) (left : List ℕ) (event : its.Event) (rest : Bor (List ℕ)) (f : Expect) → IsGoing old now text r e left → (left ≡ [] → ⊥) → Extends now new
    → IsItem new e left (Some (event, rest)) → EventIsSpelled (length new) (event_seen event) → length new + length rest.now ≤ length now + length left → HasFed (event_seen event) r s → f ≡ expect_behind (event_seen event)
    → IsGoing old new text s f rest.now
going_on old now new text r s e left event rest f going some more item spelled room feeds behind =
    let fed = feeds going.numbers going.places going.whole in
    let longer = extends_length now new more in
    let before = going.some in
    let is_some : 0 < length new = omega (arith, before, longer) in
    let so_far = going.room in
    record {
      table = extends_trans old now new going.table more;
      some = is_some;
      room = omega (arith, room, so_far);
      numbers = fed.0;
      places = fed.1;
      whole = fed.2;
      below = subst (IsBelow (length new)) (sym fed.3) (fed_below (length new) (event_seen event) (building_seen r going.numbers) is_some spelled (still_below (length now) (length new) (building_seen r going.numbers) longer going.below));
      on = λ o w. next o w (going.on o (written_before now new text o more w)) fed.0 fed.3;
    }
  where
    next : (o : Outline ℕ) (w : IsWritten new text o) → IsOn w.look o e (building_seen r going.numbers) left → (after : List ℕ) → building_seen s after ≡ fed_one (event_seen event) (building_seen r going.numbers)
        → IsOn w.look o f (building_seen s after) rest.now
    next o w on after is = go on.left refl
      where
        go : (es : List Event) → on.left ≡ es → IsOn w.look o f (building_seen s after) rest.now
        go [] q = absurd (some (sym on.text_is ∙ ap (text_of w.look) q))
        go (x ∷ es) q =
            let goes = subst (λ l. Follows l e on.depth) q on.follows in
            let fits = subst (AllByRecursion EventFits) q on.fits in
            let same = item w.look w.is_look on.depth x es goes fits.0 (ap (text_of w.look) (sym q) ∙ on.text_is) in
            let step = follows_on x es e on.depth goes in
            record {
              left = es;
              depth = step.0;
              follows = subst (λ g. Follows es g step.0) (ap expect_behind same.0 ∙ sym behind) step.1;
              fits = fits.1;
              text_is = same.1;
              fed_is = ap (fed es) (is ∙ ap (λ y. fed_one y (building_seen r going.numbers)) (sym same.0)) ∙ (ap (λ l. fed l (building_seen r going.numbers)) (sym q) ∙ on.fed_is);
            }

pub going_end : (old now : List (List ℕ)) (text : List ℕ) (r : Reader) (e : Expect) (left : List ℕ) → IsGoing old now text r e left → left ≡ [] → HasBuilt now text (Some r)
going_end old now text r e left going none o w = on_end w.look o e (building_seen r going.numbers) left none (going.on o w)
