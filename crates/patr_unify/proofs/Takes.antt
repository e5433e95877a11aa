-- All own arcs of a place are given to another.
use Rattle.std.proofs.Common.{◌≡◌, ◌≢◌, ℕ, zero, suc, ◌+◌, ◌<◌, ◌≤◌, Bool, true, false, cond, nat_eq, ◌||◌, Option, Some, None, List, [], ◌∷◌, ◌++◌, length, length-append, get_or, drop, refl, sym, ap, ◌∙◌, subst, arith, eq-eqb, ne_eqb, append_assoc, add-one}
use Rattle.std.proofs.lemmas.List.{append-nil}
use Rattle.patr_lists.proofs.Conditions.{or_left, or_right}
use Rattle.patr_model.specs.Structure.{Value, Arc, Arcs, along, HasDistinct}
use Rattle.patr_marks.specs.Machine.{Pair, own, has_attribute, pair_with, matches, missing}
use Rattle.patr_marks.specs.Sides.{shift, shifted, sides}
use Rattle.patr_marks.proofs.Sides.{sides_is_structure}
use Rattle.patr_arena.specs.declared.value.Feature.{Feature}
use Rattle.patr_arena.specs.Shown.{Shown, IsShown, IsHeld, number_of, ref_of, RefIsHeld, arcs_from, AllHeld}
use Rattle.patr_scratch.specs.declared.Side.{Side}
use Rattle.patr_scratch.specs.declared.Side.TheVariants as side
use Rattle.patr_scratch.specs.declared.Place.{Place}
use Rattle.patr_scratch.specs.Contents.{Contents}
use Rattle.patr_unify.specs.Reading.{key, added_of, pairs_at, value_on, arcs_on}
use Rattle.patr_unify.specs.Merging.{both, one_pair, one_more, IsFoundInOwn, IsGiven, rev_onto, IsTaken, HasMergeRoom}
use Rattle.patr_unify.proofs.Keys.{own_key}
use Rattle.patr_unify.proofs.Merges.{kept_then, pairs_length}

-- what has no arc of an attribute has none in front of others
pub none_has : (es : Arcs) (a : ℕ) → along es a ≡ None → has_attribute es a ≡ false
none_has [] a h = refl
none_has (e ∷ es) a h = go (nat_eq e.attribute a) (none_has es a) h
  where
    go : (b : Bool) → (along es a ≡ None → has_attribute es a ≡ false) → cond b (Some e.to) (along es a) ≡ None → (b || has_attribute es a) ≡ false
    go true ih h = cc
    go false ih h = ih h

pub some_has : (es : Arcs) (a : ℕ) (x : Value) → along es a ≡ Some x → has_attribute es a ≡ true
some_has [] a x h = cc
some_has (e ∷ es) a x h = go (nat_eq e.attribute a) (some_has es a x) h
  where
    go : (b : Bool) → (along es a ≡ Some x → has_attribute es a ≡ true) → cond b (Some e.to) (along es a) ≡ Some x → (b || has_attribute es a) ≡ true
    go true ih h = refl
    go false ih h = ih h

has_append : (es fs : Arcs) (a : ℕ) → has_attribute es a ≡ false → has_attribute (es ++ fs) a ≡ has_attribute fs a
has_append [] fs a h = refl
has_append (e ∷ es) fs a h = go (nat_eq e.attribute a) (has_append es fs a) h
  where
    go : (b : Bool) → (has_attribute es a ≡ false → has_attribute (es ++ fs) a ≡ has_attribute fs a) → (b || has_attribute es a) ≡ false → (b || has_attribute (es ++ fs) a) ≡ has_attribute fs a
    go true ih h = cc
    go false ih h = ih h

-- one arc more in front of the added ones leaves the others' attributes
along_insert : (es fs : Arcs) (e : Arc) (a : ℕ) → e.attribute ≢ a → along (es ++ (e ∷ fs)) a ≡ along (es ++ fs) a
along_insert [] fs e a n = ap (λ b. cond b (Some e.to) (along fs a)) (ne_eqb e.attribute a n)
along_insert (d ∷ es) fs e a n = ap (λ o. cond (nat_eq d.attribute a) (Some d.to) o) (along_insert es fs e a n)

or_false : (b c : Bool) → b ≡ false → (b || c) ≡ c
or_false true c h = cc
or_false false c h = refl

pub one_before : (b : Bool) (o : Option Value) (x : Value) (ps : List Pair) → cond b ps (pair_with o x ps) ≡ one_pair b o x ++ ps
one_before true o x ps = refl
one_before false None x ps = refl
one_before false (Some y) x ps = refl

-- the pairs of what remains
pub matches_step : (e : Arc) (rest later bs : Arcs) → has_attribute rest e.attribute ≡ false
    → matches ((e ∷ rest) ++ later) bs ≡ one_pair (has_attribute later e.attribute) (along bs e.attribute) e.to ++ matches (rest ++ later) bs
matches_step e rest later bs h =
    ap (λ b. cond b (matches (rest ++ later) bs) (pair_with (along bs e.attribute) e.to (matches (rest ++ later) bs))) (has_append rest later e.attribute h)
    ∙ one_before (has_attribute later e.attribute) (along bs e.attribute) e.to (matches (rest ++ later) bs)

-- the arcs that are put in front
more_step : (e : Arc) (rest later bs fs : Arcs) (l : Bool) (o : Option Value) → has_attribute (rest ++ later) e.attribute ≡ l → along bs e.attribute ≡ o
    → rev_onto (missing rest later bs) (one_more l o e.attribute e.to fs) ≡ rev_onto (missing (e ∷ rest) later bs) fs
more_step e rest later bs fs true o h q =
    ap (λ b. rev_onto (cond b (missing rest later bs) (e ∷ missing rest later bs)) fs) (sym (or_left (has_attribute (rest ++ later) e.attribute) (has_attribute bs e.attribute) h))
more_step e rest later bs fs false None h q =
    ap (λ b. rev_onto (cond b (missing rest later bs) (e ∷ missing rest later bs)) fs) (sym (or_false (has_attribute (rest ++ later) e.attribute) (has_attribute bs e.attribute) h ∙ none_has bs e.attribute q))
more_step e rest later bs fs false (Some y) h q =
    ap (λ b. rev_onto (cond b (missing rest later bs) (e ∷ missing rest later bs)) fs) (sym (or_right (has_attribute (rest ++ later) e.attribute) (has_attribute bs e.attribute) (some_has bs e.attribute y q)))

-- and what is found then
finds_step : (es fs bs later rest : Arcs) (e : Arc) (l : Bool) (o : Option Value) → has_attribute (rest ++ later) e.attribute ≡ l
    → ((a : ℕ) → has_attribute ((e ∷ rest) ++ later) a ≡ true → along (es ++ fs) a ≡ along bs a)
    → (a : ℕ) → has_attribute (rest ++ later) a ≡ true → along (es ++ one_more l o e.attribute e.to fs) a ≡ along bs a
finds_step es fs bs later rest e true o h f a i = f a (or_right (nat_eq e.attribute a) (has_attribute (rest ++ later) a) i)
finds_step es fs bs later rest e false (Some y) h f a i = f a (or_right (nat_eq e.attribute a) (has_attribute (rest ++ later) a) i)
finds_step es fs bs later rest e false None h f a i =
    let ne : e.attribute ≢ a = λ q. let bad : true ≡ false = sym i ∙ (ap (has_attribute (rest ++ later)) (sym q) ∙ h) in cc in
    along_insert es fs e a ne ∙ f a (or_right (nat_eq e.attribute a) (has_attribute (rest ++ later) a) i)

-- what the next arc meets was there before
pub found_first : (v : Shown) (w t : Contents) (A B : ℕ) (e : Arc) (rest : Arcs) → IsTaken v w t A B (e ∷ rest) → along (both v t B) e.attribute ≡ along (both v w B) e.attribute
found_first v w t A B e rest h = h.finds e.attribute (or_left (nat_eq e.attribute e.attribute) (has_attribute (rest ++ added_of v w A) e.attribute) (eq-eqb e.attribute e.attribute refl))

pub found_in_own : (v : Shown) (w t : Contents) (A B : ℕ) (e : Arc) (rest : Arcs) → IsTaken v w t A B (e ∷ rest) → added_of v w B ≡ [] → IsFoundInOwn v t B e.attribute
found_in_own v w t A B e rest h none =
    let own_B = own (sides v.structure) B in
    found_first v w t A B e rest h ∙ ap (λ es. along es e.attribute) (ap (λ fs. own_B ++ fs) none ∙ append-nil own_B)

-- one more own arc is given
pub taken_step : (v : Shown) (w t u : Contents) (A B : ℕ) (b : Bool) (e : Arc) (rest : Arcs) → A ≢ B → along rest e.attribute ≡ None → b ≡ has_attribute (added_of v t A) e.attribute → IsTaken v w t A B (e ∷ rest) → IsGiven v t u b B e.attribute e.to → IsTaken v w u A B rest
taken_step v w t u A B b e rest n d hb h g =
    let later = added_of v w A in
    let bs = both v w B in
    let own_B = own (sides v.structure) B in
    let a = e.attribute in
    let l = has_attribute later a in
    let o = along bs a in
    let d' : has_attribute rest a ≡ false = none_has rest a d in
    let lr : has_attribute (rest ++ later) a ≡ l = has_append rest later a d' in
    let has : b ≡ l = hb ∙ ap (λ es. has_attribute es a) (h.others A n) in
    let finds : along (both v t B) a ≡ o = found_first v w t A B e rest h in
    let added : added_of v u B ≡ one_more l o a e.to (added_of v t B) =
    g.added ∙ (ap (λ b. one_more b (along (both v t B) a) a e.to (added_of v t B)) has ∙ ap (λ q. one_more l q a e.to (added_of v t B)) finds) in
    let pairs : pairs_at v u.pairs ≡ pairs_at v t.pairs ++ one_pair l o e.to =
    g.pairs ∙ (ap (λ b. pairs_at v t.pairs ++ one_pair b (along (both v t B) a) e.to) has ∙ ap (λ q. pairs_at v t.pairs ++ one_pair l q e.to) finds) in
    record {
      kept = kept_then w t u h.kept g.kept;
      forward = λ j. g.forward j ∙ h.forward j;
      pairs =
          ap (λ ps. ps ++ matches (rest ++ later) bs) pairs
          ∙ (append_assoc (pairs_at v t.pairs) (one_pair l o e.to) (matches (rest ++ later) bs)
          ∙ (ap (λ ps. pairs_at v t.pairs ++ ps) (sym (matches_step e rest later bs d')) ∙ h.pairs));
      added = ap (rev_onto (missing rest later bs)) added ∙ (more_step e rest later bs (added_of v t B) l o lr refl ∙ h.added);
      finds = λ b i. ap (λ fs. along (own_B ++ fs) b) added ∙ finds_step own_B (added_of v t B) bs later rest e l o lr h.finds b i;
      others = λ k ne. g.others k ne ∙ h.others k ne;
      arcs = omega (arith, h.arcs, g.arcs);
      held = g.held;
      pairs_held = g.pairs_held;
    }

-- there is room for the pair of the next arc
pub pair_fits : (v : Shown) (w t : Contents) (A B : ℕ) (b : Bool) (e : Arc) (rest : Arcs) → A ≢ B → along rest e.attribute ≡ None → b ≡ has_attribute (added_of v t A) e.attribute → IsTaken v w t A B (e ∷ rest) → HasMergeRoom v w A B
    → length t.pairs + length (one_pair b (along (both v t B) e.attribute) e.to) ≤ t.pair_room
pair_fits v w t A B b e rest n d hb h r =
    let later = added_of v w A in
    let bs = both v w B in
    let a = e.attribute in
    let l = has_attribute later a in
    let o = along bs a in
    let has : b ≡ l = hb ∙ ap (λ es. has_attribute es a) (h.others A n) in
    let finds : along (both v t B) a ≡ o = found_first v w t A B e rest h in
    let all : pairs_at v t.pairs ++ (one_pair l o e.to ++ matches (rest ++ later) bs) ≡ pairs_at v w.pairs ++ matches (both v w A) bs =
    ap (λ ps. pairs_at v t.pairs ++ ps) (sym (matches_step e rest later bs (none_has rest a d))) ∙ h.pairs in
    let size = ap (length {A = Pair}) all in
    let one = length-append (pairs_at v t.pairs) (one_pair l o e.to ++ matches (rest ++ later) bs) in
    let two = length-append (one_pair l o e.to) (matches (rest ++ later) bs) in
    let three = length-append (pairs_at v w.pairs) (matches (both v w A) bs) in
    let room : length t.pairs + length (one_pair l o e.to) ≤ t.pair_room = omega (arith, size, one, two, three, pairs_length v t.pairs, pairs_length v w.pairs, r.pairs, h.kept.pair_room) in
    subst (λ b. length t.pairs + length (one_pair b (along (both v t B) a) e.to) ≤ t.pair_room) (sym has) (subst (λ q. length t.pairs + length (one_pair l q e.to) ≤ t.pair_room) (sym finds) room)

pub arc_fits : (v : Shown) (w t : Contents) (A B : ℕ) (e : Arc) (rest : Arcs) → IsTaken v w t A B (e ∷ rest) → HasMergeRoom v w A B → t.arcs < t.arc_room
arc_fits v w t A B e rest h r = omega (arith, h.arcs, r.arcs, h.kept.arc_room)

-- the own arcs of a place, one by one
abbrev pub arc_of : Shown → Place → Feature → Arc
arc_of v p f = record { attribute = f.attribute.0; to = value_on p.side (length v.structure) (ref_of v p.block f.to) }

drop_from : (s : Side) (n : ℕ) (v : Shown) (b : ℕ) (fs : List Feature) (i : ℕ) (f : Feature) → i < length fs → f ≡ get_or fs i f
    → drop i (arcs_on s n (arcs_from v b fs)) ≡ record { attribute = f.attribute.0; to = value_on s n (ref_of v b f.to) } ∷ drop (suc i) (arcs_on s n (arcs_from v b fs))
drop_from s n v b [] i f l e = absurd (omega (arith, l))
drop_from side.Left n v b (g ∷ fs) zero f l e = ap (λ (d : Feature). (let r : Arc = record { attribute = d.attribute.0; to = ref_of v b d.to } in r) ∷ arcs_from v b fs) (sym e)
drop_from side.Left n v b (g ∷ fs) (suc i) f l e = drop_from side.Left n v b fs i f (omega (arith, l)) e
drop_from side.Right n v b (g ∷ fs) zero f l e = ap (λ (d : Feature). (let r : Arc = record { attribute = d.attribute.0; to = shift n (ref_of v b d.to) } in r) ∷ shifted n (arcs_from v b fs)) (sym e)
drop_from side.Right n v b (g ∷ fs) (suc i) f l e = drop_from side.Right n v b fs i f (omega (arith, l)) e

pub own_drop : (v : Shown) → IsShown v → (p : Place) (fs : List Feature) (i : ℕ) (f : Feature) → IsHeld v p.block p.offset → arcs_from v p.block fs ≡ own v.structure (number_of v p.block p.offset) → i < length fs → f ≡ get_or fs i f
    → drop i (own (sides v.structure) (key v p)) ≡ arc_of v p f ∷ drop (i + 1) (own (sides v.structure) (key v p))
own_drop v s p fs i f h e l q =
    let es : own (sides v.structure) (key v p) ≡ arcs_on p.side (length v.structure) (arcs_from v p.block fs) = own_key v s p h ∙ ap (arcs_on p.side (length v.structure)) (sym e) in
    rw add-one (ap (drop i) es ∙ (drop_from p.side (length v.structure) v p.block fs i f l q ∙ ap (λ us. arc_of v p f ∷ drop (suc i) us) (sym es)))

pub all_dropped : (v : Shown) → IsShown v → (p : Place) (fs : List Feature) (i : ℕ) → IsHeld v p.block p.offset → arcs_from v p.block fs ≡ own v.structure (number_of v p.block p.offset) → length fs ≤ i
    → drop i (own (sides v.structure) (key v p)) ≡ []
all_dropped v s p fs i h e l =
    ap (drop i) (own_key v s p h ∙ ap (arcs_on p.side (length v.structure)) (sym e)) ∙ past (arcs_on p.side (length v.structure) (arcs_from v p.block fs)) i (omega (arith, l, on p.side (length v.structure) fs))
  where
    past : (es : Arcs) (i : ℕ) → length es ≤ i → drop i es ≡ []
    past [] zero l = refl
    past [] (suc i) l = refl
    past (e ∷ es) zero l = absurd (omega (arith, l))
    past (e ∷ es) (suc i) l = past es i (omega (arith, l))

    on : (s : Side) (n : ℕ) (fs : List Feature) → length (arcs_on s n (arcs_from v p.block fs)) ≡ length fs
    on side.Left n [] = refl
    on side.Left n (f ∷ fs) = ap suc (on side.Left n fs)
    on side.Right n [] = refl
    on side.Right n (f ∷ fs) = ap suc (on side.Right n fs)

-- its attributes are distinct
pub rest_lacks : (v : Shown) → IsShown v → (k i : ℕ) (e : Arc) (rest : Arcs) → drop i (own (sides v.structure) k) ≡ e ∷ rest → along rest e.attribute ≡ None
rest_lacks v s k i e rest q =
    let d : HasDistinct (e ∷ rest) = subst HasDistinct q (drop_distinct (own (sides v.structure) k) i ((sides_is_structure v.structure s.structure).distinct k)) in
    d.0
  where
    drop_distinct : (es : Arcs) (i : ℕ) → HasDistinct es → HasDistinct (drop i es)
    drop_distinct es zero d = d
    drop_distinct [] (suc i) d = tt
    drop_distinct (e ∷ es) (suc i) d = drop_distinct es i d.1

pub feature_is_held : (v : Shown) (b : ℕ) (fs : List Feature) (i : ℕ) (f : Feature) → AllHeld v b fs → i < length fs → f ≡ get_or fs i f → RefIsHeld v b f.to
feature_is_held v b [] i f h l e = absurd (omega (arith, l))
feature_is_held v b (g ∷ fs) zero f h l e = subst (λ (d : Feature). RefIsHeld v b d.to) (sym e) h.0
feature_is_held v b (g ∷ fs) (suc i) f h l e = feature_is_held v b fs i f h.1 (omega (arith, l)) e
