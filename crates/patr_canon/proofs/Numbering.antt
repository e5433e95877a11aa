-- The nodes that have numbers.
use Rattle.std.proofs.Common.{◌≡◌, ℕ, zero, suc, ◌+◌, ◌<◌, Bool, true, false, cond, not, ◌||◌, nat_eq, nat_lt, ltb-true, ltb-false, lt-ltb, le-ltb, true≢false, List, [], ◌∷◌, ◌++◌, append-nil, flat_map, length, take, drop, get_or, Option, Some, None, option_map, is_some, slice_get, refl, sym, ap, ◌∙◌, subst, arith}
use Rattle.std.proofs.lemmas.Grind.{flat_map-append}
use Rattle.patr_lists.proofs.Alls.{all_append}
use Rattle.patr_canon.proofs.Names.{Again, AllByRecursion, AreOnce, Begun, Branch, Branches, Closes, Done, Event, EventIsNumbered, EventsAreNumbered, EventsTell, IsDone, IsStructure, IsValue, Leaf, Look, OfAgain, OfArc, OfAtom, Opens, Outline, Structure, Value, again_of, append_assoc, canonical, drop_more, event_seen, event_text, events, events_of, events_seen, from_one, kept, list_any, map-append, met_again, number_by, number_in, opened, opened_of, outline, place_in, place_longer, place_there, position, position_or_len, renumbered, renumbered_all, repeats, some_inj, take-append-drop, take_more, tree_of, visits}
use Rattle.std.specs.HashSet.{HashSet, contains}
use Rattle.patr_model.proofs.Keyed as keyed
use Rattle.patr_model.proofs.Numbered.{tree_numbers}
use Rattle.patr_model.proofs.Placed.{outline_is, walk_is_whole}
use Rattle.patr_model.proofs.Rebuilt.{AreNumbers, AreNumbersOf}
use Rattle.patr_model.proofs.Stack.{walks_by_stack, opened_append}
use Rattle.patr_canon.specs.declared.event.Event as its
use Rattle.patr_canon.proofs.Walks.{done_more}

-- the one node, or none
abbrev listed : Option ℕ → List ℕ
listed None = []
listed (Some n) = n ∷ []

-- nodes that are met again, and nodes that begin, are what each event gives
again_is : (es : List Event) → met_again es ≡ flat_map (λ e. listed (again_of e)) es
again_is [] = refl
again_is (OfAtom c ∷ es) = again_is es
again_is (OfAgain n ∷ es) = ap (λ ns. n ∷ ns) (again_is es)
again_is (Opens n ∷ es) = again_is es
again_is (OfArc first a ∷ es) = again_is es
again_is (Closes ∷ es) = again_is es

opened_is : (es : List Event) → opened es ≡ flat_map (λ e. listed (opened_of e)) es
opened_is [] = refl
opened_is (OfAtom c ∷ es) = opened_is es
opened_is (OfAgain n ∷ es) = opened_is es
opened_is (Opens n ∷ es) = ap (λ ns. n ∷ ns) (opened_is es)
opened_is (OfArc first a ∷ es) = opened_is es
opened_is (Closes ∷ es) = opened_is es

-- what one event more gives
module _ (es : List its.Event) (i : ℕ) (d : its.Event) (h : i < length es) where
  given_more : (f : Event → List ℕ) → flat_map f (events_seen (take (i + 1) es)) ≡ flat_map f (events_seen (take i es)) ++ f (event_seen (get_or es i d))
  given_more f =
      ap (flat_map f) (ap events_seen (take_more es i d h) ∙ map-append event_seen (take i es) (get_or es i d ∷ []))
      ∙ (flat_map-append f (events_seen (take i es)) (event_seen (get_or es i d) ∷ []) ∙ ap (λ t. flat_map f (events_seen (take i es)) ++ t) (append-nil (f (event_seen (get_or es i d)))))

  again_taken : (o : Option ℕ) → o ≡ again_of (event_seen (get_or es i d)) → met_again (events_seen (take (i + 1) es)) ≡ met_again (events_seen (take i es)) ++ listed o
  again_taken o e =
      again_is (events_seen (take (i + 1) es)) ∙ (given_more (λ x. listed (again_of x))
      ∙ (ap (λ ns. ns ++ listed (again_of (event_seen (get_or es i d)))) (sym (again_is (events_seen (take i es)))) ∙ ap (λ u. met_again (events_seen (take i es)) ++ listed u) (sym e)))

  opened_taken : (o : Option ℕ) → o ≡ opened_of (event_seen (get_or es i d)) → opened (events_seen (take (i + 1) es)) ≡ opened (events_seen (take i es)) ++ listed o
  opened_taken o e =
      opened_is (events_seen (take (i + 1) es)) ∙ (given_more (λ x. listed (opened_of x))
      ∙ (ap (λ ns. ns ++ listed (opened_of (event_seen (get_or es i d)))) (sym (opened_is (events_seen (take i es)))) ∙ ap (λ u. opened (events_seen (take i es)) ++ listed u) (sym e)))

-- ---- the nodes that are met again

pub again_kept : {S : Type 0} (es : List its.Event) (i : ℕ) (d : its.Event) (set : HashSet ℕ S) → i < length es → None ≡ again_of (event_seen (get_or es i d)) → IsDone set (met_again (events_seen (take i es)))
    → IsDone set (met_again (events_seen (take (i + 1) es)))
again_kept es i d set h e done = subst (IsDone set) (sym (again_taken es i d h None e ∙ append-nil (met_again (events_seen (take i es))))) done

pub again_added : {S : Type 0} (es : List its.Event) (i : ℕ) (d : its.Event) (set new : HashSet ℕ S) (n : ℕ) → i < length es → Some n ≡ again_of (event_seen (get_or es i d)) → IsDone set (met_again (events_seen (take i es)))
    → ((q : ℕ) → contains nat_eq new q ≡ cond (nat_eq n q) true (contains nat_eq set q)) → IsDone new (met_again (events_seen (take (i + 1) es)))
again_added es i d set new n h e done updates = subst (IsDone new) (sym (again_taken es i d h (Some n) e)) (done_more set new (met_again (events_seen (take i es))) n done updates)

-- ---- the nodes that have numbers

kept_more : (these ns : List ℕ) (n : ℕ) → kept these (ns ++ n ∷ []) ≡ kept these ns ++ cond (is_some (place_in these n)) (n ∷ []) []
kept_more these [] n = refl
kept_more these (m ∷ ns) n = go (is_some (place_in these m)) (kept_more these ns n)
  where
    go : (b : Bool) → kept these (ns ++ n ∷ []) ≡ kept these ns ++ cond (is_some (place_in these n)) (n ∷ []) []
        → cond b (m ∷ kept these (ns ++ n ∷ [])) (kept these (ns ++ n ∷ [])) ≡ cond b (m ∷ kept these ns) (kept these ns) ++ cond (is_some (place_in these n)) (n ∷ []) []
    go true e = ap (λ ks. m ∷ ks) e
    go false e = e

-- where nothing is among these, nothing is kept
pub none_kept : (these ns : List ℕ) → ((m : ℕ) → is_some (place_in these m) ≡ false) → kept these ns ≡ []
none_kept these [] h = refl
none_kept these (m ∷ ns) h = ap (λ b. cond b (m ∷ kept these ns) (kept these ns)) (h m) ∙ none_kept these ns h

any_placed : (ns : List ℕ) (n : ℕ) → list_any (nat_eq n) ns ≡ is_some (place_in ns n)
any_placed [] n = refl
any_placed (m ∷ ns) n = go (nat_eq n m) (any_placed ns n)
  where
    go : (b : Bool) → list_any (nat_eq n) ns ≡ is_some (place_in ns n) → (b || list_any (nat_eq n) ns) ≡ is_some (cond b (Some 0) (option_map (λ i. suc i) (place_in ns n)))
    go true e = refl
    go false e = e ∙ mapped (place_in ns n)
      where
        mapped : (o : Option ℕ) → is_some o ≡ is_some (option_map (λ i. suc i) o)
        mapped None = refl
        mapped (Some i) = refl

-- what is kept is among what there was
not_kept : (these ns : List ℕ) (n : ℕ) → list_any (nat_eq n) ns ≡ false → list_any (nat_eq n) (kept these ns) ≡ false
not_kept these [] n h = refl
not_kept these (m ∷ ns) n h = go (is_some (place_in these m)) (nat_eq n m) refl h (not_kept these ns n)
  where
    go : (b : Bool) (c : Bool) → nat_eq n m ≡ c → (c || list_any (nat_eq n) ns) ≡ false → (list_any (nat_eq n) ns ≡ false → list_any (nat_eq n) (kept these ns) ≡ false) → list_any (nat_eq n) (cond b (m ∷ kept these ns) (kept these ns)) ≡ false
    go b true e k rest = absurd (true≢false k)
    go true false e k rest = ap (λ c. c || list_any (nat_eq n) (kept these ns)) e ∙ rest k
    go false false e k rest = rest k

module _ (these : List ℕ) (es : List its.Event) (i : ℕ) (d : its.Event) (h : i < length es) where
  pub numbered_kept : (keys : List ℕ) → None ≡ opened_of (event_seen (get_or es i d)) → keys ≡ kept these (opened (events_seen (take i es))) → keys ≡ kept these (opened (events_seen (take (i + 1) es)))
  numbered_kept keys e same = same ∙ ap (kept these) (sym (opened_taken es i d h None e ∙ append-nil (opened (events_seen (take i es)))))

  pub numbered_left : (keys : List ℕ) (n : ℕ) → Some n ≡ opened_of (event_seen (get_or es i d)) → is_some (place_in these n) ≡ false → keys ≡ kept these (opened (events_seen (take i es)))
      → keys ≡ kept these (opened (events_seen (take (i + 1) es)))
  numbered_left keys n e none same =
      same ∙ sym (ap (kept these) (opened_taken es i d h (Some n) e) ∙ (kept_more these (opened (events_seen (take i es))) n
      ∙ (ap (λ b. kept these (opened (events_seen (take i es))) ++ cond b (n ∷ []) []) none ∙ append-nil (kept these (opened (events_seen (take i es)))))))

  -- what is opened at i, and what before and behind it
  opened_around : (n : ℕ) → Some n ≡ opened_of (event_seen (get_or es i d)) → opened (events_seen es) ≡ opened (events_seen (take i es)) ++ n ∷ opened (events_seen (drop (i + 1) es))
  opened_around n e =
      ap (λ xs. opened (events_seen xs)) (sym (take-append-drop i es))
      ∙ (ap opened (map-append event_seen (take i es) (drop i es))
      ∙ (opened_append (events_seen (take i es)) (events_seen (drop i es))
      ∙ ap (λ xs. opened (events_seen (take i es)) ++ xs) (ap (λ xs. opened (events_seen xs)) (drop_more es i d h) ∙ first (event_seen (get_or es i d)) (events_seen (drop (i + 1) es)) e)))
    where
      first : (x : Event) (xs : List Event) → Some n ≡ opened_of x → opened (x ∷ xs) ≡ n ∷ opened xs
      first x xs q = opened_is (x ∷ xs) ∙ (ap (λ o. listed o ++ flat_map (λ e. listed (opened_of e)) xs) (sym q) ∙ ap (λ ns. n ∷ ns) (sym (opened_is xs)))

  pub numbered_added : (keys new : List ℕ) (n : ℕ) → AreOnce (opened (events_seen es)) → Some n ≡ opened_of (event_seen (get_or es i d)) → is_some (place_in these n) ≡ true → keys ≡ kept these (opened (events_seen (take i es)))
      → new ≡ cond (list_any (nat_eq n) keys) keys (keys ++ n ∷ []) → new ≡ kept these (opened (events_seen (take (i + 1) es)))
  numbered_added keys new n once e there same is =
      let before = opened (events_seen (take i es)) in
      let no : list_any (nat_eq n) before ≡ false = any_placed before n ∙ ap is_some (once before (opened (events_seen (drop (i + 1) es))) n (opened_around n e)) in
      is ∙ (ap (λ ks. cond (list_any (nat_eq n) ks) ks (ks ++ n ∷ [])) same
      ∙ (ap (λ b. cond b (kept these before) (kept these before ++ n ∷ [])) (not_kept these before n no)
      ∙ sym (ap (kept these) (opened_taken es i d h (Some n) e) ∙ (kept_more these before n ∙ ap (λ b. kept these before ++ cond b (n ∷ []) []) there))))

-- ---- the place of a node

pub placed_at : (ns : List ℕ) (n : ℕ) → position (nat_eq n) ns ≡ place_in ns n
placed_at [] n = refl
placed_at (m ∷ ns) n = go (nat_eq n m) refl (placed_at ns n)
  where
    k : ℕ
    k = position_or_len (nat_eq n) ns

    place : ℕ → Option ℕ
    place i = cond (nat_lt i (length (m ∷ ns))) (Some i) None

    next : (c : Bool) → nat_lt k (length ns) ≡ c → place (1 + k) ≡ option_map (λ i. suc i) (cond c (Some k) None)
    next true f = let lt = ltb-true k (length ns) f in let one : 1 + k ≡ suc k = omega arith in ap (λ b. cond b (Some (1 + k)) None) (lt-ltb (1 + k) (length (m ∷ ns)) (omega (arith, lt))) ∙ ap Some one
    next false f = let le = ltb-false k (length ns) f in ap (λ b. cond b (Some (1 + k)) None) (le-ltb (1 + k) (length (m ∷ ns)) (omega (arith, le)))

    go : (b : Bool) → nat_eq n m ≡ b → position (nat_eq n) ns ≡ place_in ns n → position (nat_eq n) (m ∷ ns) ≡ cond b (Some 0) (option_map (λ i. suc i) (place_in ns n))
    go true e rest = ap (λ b. place (cond (not b) (1 + k) 0)) e ∙ ap (λ b. cond b (Some 0) None) (lt-ltb 0 (length (m ∷ ns)) (omega arith))
    go false e rest = ap (λ b. place (cond (not b) (1 + k) 0)) e ∙ (next (nat_lt k (length ns)) refl ∙ ap (option_map (λ i. suc i)) rest)

-- ---- a value's events

-- a visit is no later one's
pub visits_once : (l : Look) (S : Structure) (v : Value) → IsStructure S → IsValue S v → AreOnce (opened (events (tree_of l S v)))
visits_once l S v s p before behind n e = go (place_in before n) refl
  where
    all : visits (tree_of l S v) ≡ before ++ n ∷ behind
    all = sym ((walks_by_stack.told l S v).first) ∙ e

    here : (xs : List ℕ) → slice_get (xs ++ n ∷ behind) (length xs) ≡ Some n
    here [] = refl
    here (x ∷ xs) = here xs

    go : (o : Option ℕ) → place_in before n ≡ o → o ≡ None
    go None q = refl
    go (Some j) q =
        let whole = walk_is_whole l S v s p in
        let first = whole.once (length before) n (ap (λ xs. slice_get xs (length before)) all ∙ here before) in
        let other : place_in (visits (tree_of l S v)) n ≡ Some j = ap (λ xs. place_in xs n) all ∙ place_longer before (n ∷ behind) n j q in
        let same = some_inj (length before) j (sym first ∙ other) in
        let there = place_there before n j q in
        absurd (omega (arith, same, there))

from_one_some : (o : Option ℕ) → 0 < from_one o → is_some o ≡ true
from_one_some None h = absurd (omega (arith, h))
from_one_some (Some i) h = refl

mutual
  tree_numbered : (ns : List ℕ) (t : Outline ℕ) → AreNumbers (number_by ns) t → EventsAreNumbered ns (events t)
  tree_numbered ns (Leaf c) h = (tt, tt)
  tree_numbered ns (Again i) h = (from_one_some (place_in ns i) h, tt)
  tree_numbered ns (Begun i bs) h = (tt, branches_numbered ns bs true h)

  branches_numbered : (ns : List ℕ) (bs : Branches ℕ) (first : Bool) → AreNumbersOf (number_by ns) bs → EventsAreNumbered ns (events_of first bs)
  branches_numbered ns Done first h = (tt, tt)
  branches_numbered ns (Branch a x bs) first h = (tt, all_append (EventIsNumbered ns) (events x) (events_of false bs) (tree_numbered ns x h.0) (branches_numbered ns bs false h.1))

-- numbers that a tree has stand for themselves in the renumbered one, and the other way round
mutual
  themselves : (f : ℕ → ℕ) (t : Outline ℕ) → (AreNumbers f t → AreNumbers (λ n. n) (renumbered f t)) × (AreNumbers (λ n. n) (renumbered f t) → AreNumbers f t)
  themselves f (Leaf c) = ((λ h. tt), (λ h. tt))
  themselves f (Again i) = ((λ h. h), (λ h. h))
  themselves f (Begun i bs) = all_themselves f bs

  all_themselves : (f : ℕ → ℕ) (bs : Branches ℕ) → (AreNumbersOf f bs → AreNumbersOf (λ n. n) (renumbered_all f bs)) × (AreNumbersOf (λ n. n) (renumbered_all f bs) → AreNumbersOf f bs)
  all_themselves f Done = ((λ h. tt), (λ h. tt))
  all_themselves f (Branch a x bs) = let one = themselves f x in let more = all_themselves f bs in ((λ h. (one.0 h.0, more.0 h.1)), (λ h. (one.1 h.0, more.1 h.1)))

-- each node that stands again has a number
pub again_numbered : (l : Look) (S : Structure) (v : Value) → IsStructure S → IsValue S v → EventsAreNumbered (kept (repeats (tree_of l S v)) (visits (tree_of l S v))) (events (tree_of l S v))
again_numbered l S v s p =
    let key = keyed.tree_of l S v in
    let numbers : AreNumbers (λ n. n) (outline l S v) = subst (AreNumbers (λ n. n)) (sym (outline_is l S v s p)) ((themselves (number_in key) key).0 (tree_numbers l S v s p)) in
    tree_numbered (kept (repeats (tree_of l S v)) (visits (tree_of l S v))) (tree_of l S v) ((themselves (number_in (tree_of l S v)) (tree_of l S v)).1 numbers)

-- ---- the text of events, one after another

pub all_at : (P : Event → Type 0) (es : List its.Event) (i : ℕ) (d : its.Event) → i < length es → AllByRecursion P (events_seen es) → P (event_seen (get_or es i d))
all_at P [] i d h k = absurd (omega (arith, h))
all_at P (e ∷ es) zero d h k = k.0
all_at P (e ∷ es) (suc i) d h k = all_at P es i d (omega (arith, h)) k.1

pub text_more : (f : Event → List ℕ) (es : List its.Event) (i : ℕ) (d : its.Event) (old text : List ℕ) → i < length es → text ≡ old ++ flat_map f (events_seen (take i es))
    → text ++ f (event_seen (get_or es i d)) ≡ old ++ flat_map f (events_seen (take (i + 1) es))
text_more f es i d old text h e =
    ap (λ t. t ++ f (event_seen (get_or es i d))) e
    ∙ (append_assoc old (flat_map f (events_seen (take i es))) (f (event_seen (get_or es i d))) ∙ ap (λ t. old ++ t) (sym (given_more es i d h f)))

-- ---- what was met, where it is a value's events

module _ (l : Look) (S : Structure) (v : Value) (s : IsStructure S) (p : IsValue S v) (met : List Event) (is : met ≡ events (tree_of l S v)) where
  told : EventsTell l S v
  told = walks_by_stack.told l S v

  pub met_once : AreOnce (opened met)
  met_once = subst (λ es. AreOnce (opened es)) (sym is) (visits_once l S v s p)

  pub met_numbered : EventsAreNumbered (kept (met_again met) (opened met)) met
  met_numbered =
      subst (λ es. EventsAreNumbered (kept (met_again es) (opened es)) es) (sym is)
      (subst (λ ns. EventsAreNumbered (kept ns (opened (events (tree_of l S v)))) (events (tree_of l S v))) (sym told.again)
      (subst (λ ns. EventsAreNumbered (kept (repeats (tree_of l S v)) ns) (events (tree_of l S v))) (sym told.first) (again_numbered l S v s p)))

  -- and the text by them is that of the value
  pub met_text : flat_map (event_text l (number_by (kept (met_again met) (opened met)))) met ≡ canonical l S v
  met_text =
      ap (λ es. flat_map (event_text l (number_by (kept (met_again es) (opened es)))) es) is
      ∙ (ap (λ ns. flat_map (event_text l (number_by (kept ns (opened (events (tree_of l S v)))))) (events (tree_of l S v))) told.again
      ∙ (ap (λ ns. flat_map (event_text l (number_by (kept (repeats (tree_of l S v)) ns))) (events (tree_of l S v))) told.first ∙ sym told.text))
