-- The first unknown name among features.
use Rattle.std.proofs.Common.{◌≡◌, ℕ, zero, suc, ◌+◌, ◌<◌, List, [], ◌∷◌, ◌++◌, map, take, length, get_or, Bool, true, false, cond, ◌||◌, nat_eq, is_some, Option, Some, None, Vec, Global, refl, sym, ap, ◌∙◌, arith, append_assoc, append-nil}
use Rattle.std.specs.List.{list_any}
use Rattle.std.proofs.lemmas.List.{take_more}
use Rattle.patr_model.specs.Grammar.{Row, Rows, Done, Or, None'}
use Rattle.patr_model.specs.Productions.{Item, Single, Choice, Option', FeatureText, Equates, Names, Template, in_front, row, rows, things, things_of}
use Rattle.patr_model.specs.Build.{ExpandFault, Meaning, UnknownName, first_fault, meaning_of, meanings_from, unknown_name, with_template}
use Rattle.patr_text.specs.declared.symbols.Id.{Id}
use Rattle.patr_grammar.specs.declared.grammar.Element.{Element}
use Rattle.patr_grammar.specs.declared.grammar.Element.TheVariants as element
use Rattle.patr_grammar.specs.declared.grammar.Template as code
use Rattle.patr_grammar.specs.Levels.{feature_seen, features_seen}
use Rattle.patr_grammar.specs.Reading.{template_seen}
use Rattle.patr_grammar.proofs.Levels.{choices_seen, features_level}
use Rattle.patr_expand.specs.Seen.{meant, same}
use Rattle.patr_expand.specs.Written.{choice_unknown, item_unknown}

abbrev Fault : Type 0
Fault = Option (ExpandFault Id)

-- ---- the first that some of a list have

abbrev pub first_of : {A : Type 0} → (A → Option (ExpandFault Id)) → List A → Option (ExpandFault Id)
first_of f [] = None
first_of f (x ∷ xs) = first_fault (f x) (first_of f xs)

first_append : {A : Type 0} (f : A → Fault) (xs ys : List A) → first_of f xs ≡ None → first_of f (xs ++ ys) ≡ first_of f ys
first_append f [] ys h = refl
first_append f (x ∷ xs) ys h = by (f x) (first_of f xs) h (first_append f xs ys)
  where
    by : (e rest : Fault) → first_fault e rest ≡ None → (rest ≡ None → first_of f (xs ++ ys) ≡ first_of f ys) → first_fault e (first_of f (xs ++ ys)) ≡ first_of f ys
    by None rest h k = k h
    by (Some e) rest h k = cc

pub none_more : {A : Type 0} (f : A → Option (ExpandFault Id)) (xs : List A) (i : ℕ) (x : A) → i < length xs → get_or xs i x ≡ x → first_of f (take i xs) ≡ None → f x ≡ None → first_of f (take (i + 1) xs) ≡ None
none_more f xs i x lt is h e = ap (first_of f) (take_more xs i x lt ∙ ap (λ y. take i xs ++ y ∷ []) is) ∙ first_append f (take i xs) (x ∷ []) h ∙ ap (λ o. first_fault o None) e

pub found_at : {A : Type 0} (f : A → Option (ExpandFault Id)) (xs : List A) (i : ℕ) (x : A) (e : ExpandFault Id) → i < length xs → get_or xs i x ≡ x → first_of f (take i xs) ≡ None → f x ≡ Some e → first_of f xs ≡ Some e
found_at f [] i x e lt is h k = absurd (omega (arith, lt))
found_at f (y ∷ xs) zero x e lt is h k = ap (λ o. first_fault o (first_of f xs)) (ap f is ∙ k)
found_at f (y ∷ xs) (suc i) x e lt is h k = by (f y) (first_of f (take i xs)) h (λ h. found_at f xs i x e (omega (arith, lt)) is h k)
  where
    by : (o rest : Fault) → first_fault o rest ≡ None → (rest ≡ None → first_of f xs ≡ Some e) → first_fault o (first_of f xs) ≡ Some e
    by None rest h k = k h
    by (Some e) rest h k = cc

-- ---- features

module _ (ms : List (Meaning Id)) where
  abbrev unknown : List (FeatureText Id) → Fault
  unknown = unknown_name same ms

  unknown_append : (xs ys : List (FeatureText Id)) → unknown (xs ++ ys) ≡ first_fault (unknown xs) (unknown ys)
  unknown_append [] ys = refl
  unknown_append (Equates e ∷ xs) ys = unknown_append xs ys
  unknown_append (Names w p ∷ xs) ys = by (is_some (meaning_of same ms w)) (unknown_append xs ys)
    where
      by : (b : Bool) → unknown (xs ++ ys) ≡ first_fault (unknown xs) (unknown ys) → cond b (unknown (xs ++ ys)) (Some (UnknownName w p)) ≡ first_fault (cond b (unknown xs) (Some (UnknownName w p))) (unknown ys)
      by true h = h
      by false h = refl

  things_front : (x : Item (FeatureText Id)) (r : Row (FeatureText Id)) → things (in_front x r) ≡ things (in_front x Done) ++ things r
  things_front (Single x) r = refl
  things_front (Choice rs) r = ap (λ l. l ++ things r) (sym (append-nil (things_of rs)))
  things_front (Option' rs) r = ap (λ l. l ++ things r) (sym (append-nil (things_of rs)))

  pub of_row : (es : List Element) → unknown_name same ms (things (features_seen es)) ≡ first_of (item_unknown ms) es
  of_row [] = refl
  of_row (e ∷ es) =
      ap unknown (things_front (feature_seen e) (features_seen es))
      ∙ unknown_append (things (in_front (feature_seen e) Done)) (things (features_seen es)) ∙ ap (first_fault (item_unknown ms e)) (of_row es)

  pub of_choice : (vs : List (Vec Element Global)) → choice_unknown ms vs ≡ first_of (λ v. unknown_name same ms (things (features_seen v.items))) vs
  of_choice [] = refl
  of_choice (v ∷ vs) =
      unknown_append (things (features_seen v.items)) (things_of (rows (map (λ v. features_seen v.items) vs))) ∙ ap (first_fault (unknown (things (features_seen v.items)))) (of_choice vs)

  pub in_choice : (vs : Vec (Vec Element Global) Global) → item_unknown ms (element.OneOf vs) ≡ choice_unknown ms vs.items
  in_choice vs = ap (λ i. unknown (things (in_front i Done))) (features_level vs) ∙ ap unknown (append-nil (things_of (choices_seen feature_seen vs.items)))

-- ---- a name among templates

known_with : (ms : List (Meaning Id)) (m : Meaning Id) (w : Id) → is_some (meaning_of same (ms ++ m ∷ []) w) ≡ (is_some (meaning_of same ms w) || same m.name w)
known_with [] m w = by (same m.name w)
  where
    by : (b : Bool) → is_some (cond b (Some m.body) None) ≡ b
    by true = refl
    by false = refl
known_with (n ∷ ms) m w = by (same n.name w) (known_with ms m w)
  where
    by : (b : Bool) → is_some (meaning_of same (ms ++ m ∷ []) w) ≡ (is_some (meaning_of same ms w) || same m.name w)
        → is_some (cond b (Some n.body) (meaning_of same (ms ++ m ∷ []) w)) ≡ (is_some (cond b (Some n.body) (meaning_of same ms w)) || same m.name w)
    by true h = refl
    by false h = h

or_none : (b : Bool) → b ≡ (b || false)
or_none true = refl
or_none false = refl

or_three : (a b c : Bool) → ((a || b) || c) ≡ (a || (b || c))
or_three true b c = refl
or_three false b c = refl

abbrev has_name : Id → List code.Template → Bool
has_name w ts = list_any (λ (t : code.Template). nat_eq t.name.0 w.0) ts

known_from : (ms : List (Meaning Id)) (ts : List code.Template) (w : Id) → is_some (meaning_of same (meanings_from same ms (map template_seen ts)) w) ≡ (is_some (meaning_of same ms w) || has_name w ts)
known_from ms [] w = or_none (is_some (meaning_of same ms w))
known_from ms (t ∷ ts) w =
    let next = with_template same ms (template_seen t) in
    known_from next ts w ∙ ap (λ b. b || has_name w ts) (known_with ms _ w) ∙ or_three (is_some (meaning_of same ms w)) (nat_eq t.name.0 w.0) (has_name w ts)

pub among_is : (ms : List (Meaning Id)) (ts : List code.Template) (w : Id) → ms ≡ meant ts → list_any (λ (t : code.Template). nat_eq t.name.0 w.0) ts ≡ is_some (meaning_of same ms w)
among_is ms ts w e = sym (ap (λ ms. is_some (meaning_of same ms w)) e ∙ known_from [] ts w)
