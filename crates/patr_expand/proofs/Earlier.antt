-- What a name stands for, by the meanings that come before it and by all.
use Rattle.std.proofs.Common.{◌≡◌, ℕ, zero, suc, ◌+◌, ◌<◌, ◌≤◌, List, [], ◌∷◌, ◌++◌, map, take, length, slice_get, Bool, true, false, cond, is_some, Option, Some, None, refl, sym, ap, ◌∙◌, subst, arith, append_assoc, append-nil}
use Rattle.std.proofs.lemmas.List.{length-append, length-map}
use Rattle.std.proofs.lemmas.Option.{slice_get_within}
use Rattle.patr_model.specs.Grammar.{Row, Rows, Done, One, OneOf, Optional, None', Or, single, variants, variants_of}
use Rattle.patr_model.specs.Productions.{EquationText, FeatureText, Equates, Names, Template, things, things_of}
use Rattle.patr_model.specs.Build.{ExpandFault, Meaning, UnknownName, all_written_out, chosen, first_fault, meaning_of, meanings_from, templates_fault_from, unknown_name, with_template, written_out}
use Rattle.patr_text.specs.declared.symbols.Id.{Id}
use Rattle.patr_grammar.specs.declared.grammar.Template as code
use Rattle.patr_grammar.specs.Levels.{features_seen}
use Rattle.patr_grammar.specs.Reading.{template_seen}
use Rattle.patr_expand.specs.Seen.{meant, same}
use Rattle.patr_expand.specs.Frames.{IsTaken, item_weight, weight_of}
use Rattle.patr_expand.specs.Sizes.{capped, item_variants}
use Rattle.patr_expand.specs.Written.{named, written}
use Rattle.patr_expand.proofs.Rests.{taken, whole}
use Rattle.patr_expand.proofs.Written.{row_written}

abbrev Fault : Type 0
Fault = Option (ExpandFault Id)

-- ---- a list without unknown names is written out alike by more meanings

both : (e f : Fault) → first_fault e f ≡ None → (e ≡ None) × (f ≡ None)
both None f h = (refl, h)
both (Some e) f h = cc

module _ (ms more : List (Meaning Id)) where
  abbrev unknown : List (FeatureText Id) → Fault
  unknown = unknown_name same ms

  named_still : (w : Id) (o : Option (Row (EquationText Id))) → meaning_of same ms w ≡ o → is_some o ≡ true → meaning_of same (ms ++ more) w ≡ meaning_of same ms w
  named_still w None e h = cc
  named_still w (Some b) e h = go ms e
    where
      go : (ns : List (Meaning Id)) → meaning_of same ns w ≡ Some b → meaning_of same (ns ++ more) w ≡ meaning_of same ns w
      go [] k = cc
      go (n ∷ ns) k = by (same n.name w) k (go ns)
        where
          by : (t : Bool) → cond t (Some n.body) (meaning_of same ns w) ≡ Some b → (meaning_of same ns w ≡ Some b → meaning_of same (ns ++ more) w ≡ meaning_of same ns w)
              → cond t (Some n.body) (meaning_of same (ns ++ more) w) ≡ cond t (Some n.body) (meaning_of same ns w)
          by true k h = refl
          by false k h = h k

  parts_none : (xs ys : List (FeatureText Id)) → unknown (xs ++ ys) ≡ None → (unknown xs ≡ None) × (unknown ys ≡ None)
  parts_none [] ys h = (refl, h)
  parts_none (Equates e ∷ xs) ys h = parts_none xs ys h
  parts_none (Names w p ∷ xs) ys h = by (is_some (meaning_of same ms w)) h (parts_none xs ys)
    where
      by : (b : Bool) → cond b (unknown (xs ++ ys)) (Some (UnknownName w p)) ≡ None → (unknown (xs ++ ys) ≡ None → (unknown xs ≡ None) × (unknown ys ≡ None))
          → (cond b (unknown xs) (Some (UnknownName w p)) ≡ None) × (unknown ys ≡ None)
      by true h k = k h
      by false h k = cc

  name_known : (w : Id) (b : Bool) (rest e : Fault) → is_some (meaning_of same ms w) ≡ b → (e ≡ None → ⊥) → cond b rest e ≡ None → (is_some (meaning_of same ms w) ≡ true) × (rest ≡ None)
  name_known w true rest e is some h = (is, h)
  name_known w false rest e is some h = absurd (some h)

  mutual
    pub still : (r : Row (FeatureText Id)) → unknown_name same ms (things r) ≡ None → written_out same (ms ++ more) r ≡ written_out same ms r
    still Done h = refl
    still (One (Equates e) r) h = ap (λ r. One e r) (still r h)
    still (One (Names w p) r) h =
        let k = name_known w (is_some (meaning_of same ms w)) (unknown (things r)) (Some (UnknownName w p)) refl (λ e. cc) h in
        (λ i. OneOf (chosen (named_still w (meaning_of same ms w) refl k.0 i)) (still r k.1 i))
    still (OneOf rs r) h = let k = parts_none (things_of rs) (things r) h in (λ i. OneOf (all_still rs k.0 i) (still r k.1 i))
    still (Optional rs r) h = let k = parts_none (things_of rs) (things r) h in (λ i. Optional (all_still rs k.0 i) (still r k.1 i))

    all_still : (rs : Rows (FeatureText Id)) → unknown_name same ms (things_of rs) ≡ None → all_written_out same (ms ++ more) rs ≡ all_written_out same ms rs
    all_still None' h = refl
    all_still (Or r rs) h = let k = parts_none (things r) (things_of rs) h in (λ i. Or (still r k.0 i) (all_still rs k.1 i))

-- ---- what stands at a place among the meanings of templates

-- the meanings of the templates before, and those from there on
pub record IsAt (ms : List (Meaning Id)) (us : List (Template Id)) (t : Template Id) (x : Meaning Id) : Type 0 where
  pub before : List (Meaning Id)
  pub more : List (Meaning Id)
  pub all : meanings_from same ms us ≡ before ++ more
  pub body : x.body ≡ written_out same before t.body
  pub known : unknown_name same before (things t.body) ≡ None

grows : (ms : List (Meaning Id)) (us : List (Template Id)) → (more : List (Meaning Id)) × (meanings_from same ms us ≡ ms ++ more)
grows ms [] = ([], sym (append-nil ms))
grows ms (u ∷ us) = let r = grows (with_template same ms u) us in let m : Meaning Id = record { name = u.name; body = written_out same ms u.body } in (m ∷ r.0, r.1 ∙ append_assoc ms (m ∷ []) r.0)

last_is : (ms more : List (Meaning Id)) (m x : Meaning Id) → slice_get (ms ++ m ∷ more) (length ms) ≡ Some x → m ≡ x
last_is [] more m x h = cc
last_is (n ∷ ms) more m x h = last_is ms more m x h

longer : (ms : List (Meaning Id)) (m : Meaning Id) → length (ms ++ m ∷ []) ≡ suc (length ms)
longer [] m = refl
longer (n ∷ ms) m = ap suc (longer ms m)

at : (ms : List (Meaning Id)) (us : List (Template Id)) (n : ℕ) (t : Template Id) (x : Meaning Id) → templates_fault_from same ms us ≡ None → slice_get us n ≡ Some t → slice_get (meanings_from same ms us) (length ms + n) ≡ Some x → IsAt ms us t x
at ms [] n t x none h k = cc
at ms (u ∷ us) zero t x none h k =
    let r = grows ms (u ∷ us) in
    let s = grows (with_template same ms u) us in
    let m : Meaning Id = record { name = u.name; body = written_out same ms u.body } in
    let is : u ≡ t = cc in
    let e : length ms + 0 ≡ length ms = omega arith in
    let there = ap (λ l. slice_get l (length ms)) (sym (s.1 ∙ append_assoc ms (m ∷ []) s.0)) ∙ ap (slice_get (meanings_from same ms (u ∷ us))) (sym e) ∙ k in
    record {
      before = ms;
      more = r.0;
      all = r.1;
      body = ap (λ y. y.body) (sym (last_is ms s.0 m x there)) ∙ ap (λ u. written_out same ms u.body) is;
      known = ap (λ u. unknown_name same ms (things u.body)) (sym is) ∙ (both (unknown_name same ms (things u.body)) (templates_fault_from same (with_template same ms u) us) none).0;
    }
at ms (u ∷ us) (suc n) t x none h k =
    let m : Meaning Id = record { name = u.name; body = written_out same ms u.body } in
    let e : length ms + suc n ≡ length (ms ++ m ∷ []) + n = omega (arith, longer ms m) in
    let r = at (with_template same ms u) us n t x (both (unknown_name same ms (things u.body)) (templates_fault_from same (with_template same ms u) us) none).1 h (ap (slice_get (meanings_from same ms (u ∷ us))) (sym e) ∙ k) in
    record { before = r.before; more = r.more; all = r.all; body = r.body; known = r.known }

-- what the name of a template stands for is what stands in it, each name by all templates
pub body_is : (ts : List code.Template) (n : ℕ) (t : code.Template) (x : Meaning Id) → templates_fault_from same [] (map template_seen ts) ≡ None → slice_get ts n ≡ Some t → slice_get (meant ts) n ≡ Some x → x.body ≡ written (meant ts) t.body.items
body_is ts n t x none h k =
    let r = at [] (map template_seen ts) n (template_seen t) x none (seen_at ts n t h) (ap (slice_get (meant ts)) zero_and ∙ k) in
    r.body ∙ sym (still r.before r.more (features_seen t.body.items) r.known) ∙ ap (λ ms. written_out same ms (features_seen t.body.items)) (sym r.all) ∙ row_written (meant ts) t.body.items
  where
    zero_and : 0 + n ≡ n
    zero_and = omega arith

    seen_at : (ts : List code.Template) (n : ℕ) (t : code.Template) → slice_get ts n ≡ Some t → slice_get (map template_seen ts) n ≡ Some (template_seen t)
    seen_at [] n t h = cc
    seen_at (u ∷ ts) zero t h = let e : u ≡ t = cc in ap (λ u. Some (template_seen u)) e
    seen_at (u ∷ ts) (suc n) t h = seen_at ts n t h

-- ---- how many there are

meanings_length : (ms : List (Meaning Id)) (us : List (Template Id)) → length (meanings_from same ms us) ≡ length ms + length us
meanings_length ms [] = omega arith
meanings_length ms (u ∷ us) = omega (arith, meanings_length (with_template same ms u) us, longer ms (record { name = u.name; body = written_out same ms u.body }))

pub none_there : (ts : List code.Template) (n : ℕ) (x : Meaning Id) → length ts ≤ n → slice_get (meant ts) n ≡ Some x → ⊥
none_there ts n x h k = omega (arith, h, slice_get_within (meant ts) n x k, meanings_length [] (map template_seen ts), length-map ts template_seen)

-- ---- what a name stands for is its body's variant

pub name_taken : (ms : List (Meaning Id)) (w : Id) (body : Row (EquationText Id)) (n count : ℕ) → meaning_of same ms w ≡ Some body → length (item_variants (named ms w)) ≤ 256 → n < length (item_variants (named ms w)) → count ≡ capped (length (variants single body))
    → IsTaken (item_variants (named ms w)) (item_weight (named ms w)) n body count n
name_taken ms w body n count is few below size = subst (λ o. IsTaken (variants_of single (chosen o)) (2 + weight_of (chosen o)) n body count n) (sym is) (taken (Or body None') n body None' n count (whole (Or body None') n short) size lt)
  where
    short : length (variants single body ++ []) ≤ 256
    short = subst (λ o. length (variants_of single (chosen o)) ≤ 256) is few

    within : n < length (variants single body ++ [])
    within = subst (λ o. n < length (variants_of single (chosen o))) is below

    lt : n < count
    lt = omega (arith, size, short, within, length-append (variants single body) [])

pub no_fault : (o : Option (ExpandFault Id)) → is_some o ≡ false → o ≡ None
no_fault None h = refl
no_fault (Some e) h = cc
