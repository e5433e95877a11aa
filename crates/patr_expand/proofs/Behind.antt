-- Templates, one after another: what their names stand for, and the first unknown name.
use Rattle.std.proofs.Common.{◌≡◌, ℕ, zero, suc, ◌+◌, ◌<◌, List, [], ◌∷◌, ◌++◌, map, take, drop, length, get_or, is_some, false, Option, Some, None, refl, sym, ap, ◌∙◌, subst, arith}
use Rattle.std.proofs.lemmas.List.{take_more}
use Rattle.patr_model.specs.Productions.{Template, things}
use Rattle.patr_model.specs.Build.{ExpandFault, Meaning, first_fault, meanings_from, templates_fault, templates_fault_from, unknown_name, with_template}
use Rattle.patr_text.specs.declared.symbols.Id.{Id}
use Rattle.patr_text.specs.declared.fault.Fault as fault
use Rattle.patr_text.specs.declared.fault.Fault.TheVariants.{Memory, Refused}
use Rattle.patr_grammar.specs.declared.grammar.Template as code
use Rattle.patr_grammar.specs.Levels.{features_seen}
use Rattle.patr_grammar.specs.Reading.{template_seen}
use Rattle.patr_expand.specs.declared.cause.ExpandCause.{ExpandCause}
use Rattle.patr_expand.specs.Seen.{IsRefusedBy, meant, same}

abbrev Fault : Type 0
Fault = Option (ExpandFault Id)

meanings_more : (ms : List (Meaning Id)) (us : List (Template Id)) (t : Template Id) → meanings_from same ms (us ++ t ∷ []) ≡ with_template same (meanings_from same ms us) t
meanings_more ms [] t = refl
meanings_more ms (u ∷ us) t = meanings_more (with_template same ms u) us t

seen_more : (ts : List code.Template) (i : ℕ) (t : code.Template) → i < length ts → get_or ts i t ≡ t → map template_seen (take (i + 1) ts) ≡ map template_seen (take i ts) ++ template_seen t ∷ []
seen_more ts i t h e = ap (map template_seen) (take_more ts i t h ∙ ap (λ y. take i ts ++ y ∷ []) e) ∙ go (take i ts)
  where
    go : (us : List code.Template) → map template_seen (us ++ t ∷ []) ≡ map template_seen us ++ template_seen t ∷ []
    go [] = refl
    go (u ∷ us) = ap (λ l. template_seen u ∷ l) (go us)

pub meant_more : (ts : List code.Template) (i : ℕ) (t : code.Template) → i < length ts → get_or ts i t ≡ t → meant (take (i + 1) ts) ≡ with_template same (meant (take i ts)) (template_seen t)
meant_more ts i t h e = ap (meanings_from same []) (seen_more ts i t h e) ∙ meanings_more [] (map template_seen (take i ts)) (template_seen t)

-- the fault behind templates that have none
behind : (ms : List (Meaning Id)) (us vs : List (Template Id)) → templates_fault_from same ms us ≡ None → templates_fault_from same ms (us ++ vs) ≡ templates_fault_from same (meanings_from same ms us) vs
behind ms [] vs h = refl
behind ms (u ∷ us) vs h = by (unknown_name same ms (things u.body)) (templates_fault_from same (with_template same ms u) us) h (behind (with_template same ms u) us vs)
  where
    whole : Fault
    whole = templates_fault_from same (meanings_from same (with_template same ms u) us) vs

    by : (e rest : Fault) → first_fault e rest ≡ None → (rest ≡ None → templates_fault_from same (with_template same ms u) (us ++ vs) ≡ templates_fault_from same (meanings_from same (with_template same ms u) us) vs)
        → first_fault e (templates_fault_from same (with_template same ms u) (us ++ vs)) ≡ templates_fault_from same (meanings_from same (with_template same ms u) us) vs
    by None rest h k = k h
    by (Some e) rest h k = cc

abbrev pub none_in : List code.Template → Type 0
none_in ts = templates_fault same (map template_seen ts) ≡ None

abbrev unknown_in : List code.Template → code.Template → Fault
unknown_in before t = unknown_name same (meant before) (things (features_seen t.body.items))

pub still_none : (ts : List code.Template) (i : ℕ) (t : code.Template) → i < length ts → get_or ts i t ≡ t → none_in (take i ts) → unknown_name same (meant (take i ts)) (things (features_seen t.body.items)) ≡ None → none_in (take (i + 1) ts)
still_none ts i t h e none k =
    ap (templates_fault same) (seen_more ts i t h e) ∙ behind [] (map template_seen (take i ts)) (template_seen t ∷ []) none ∙ ap (λ o. first_fault o None) k

split : (ts : List code.Template) (i : ℕ) (t : code.Template) → i < length ts → get_or ts i t ≡ t → (vs : List (Template Id)) × (map template_seen ts ≡ map template_seen (take i ts) ++ template_seen t ∷ vs)
split [] i t h e = absurd (omega (arith, h))
split (u ∷ ts) zero t h e = (map template_seen ts, ap (λ u. template_seen u ∷ map template_seen ts) e)
split (u ∷ ts) (suc i) t h e = let r = split ts i t (omega (arith, h)) e in (r.0, ap (λ l. template_seen u ∷ l) r.1)

-- the first unknown name is that of the first template that has one
pub found_in : (ts : List code.Template) (i : ℕ) (t : code.Template) (e : ExpandFault Id) → i < length ts → get_or ts i t ≡ t → none_in (take i ts) → unknown_name same (meant (take i ts)) (things (features_seen t.body.items)) ≡ Some e
    → templates_fault same (map template_seen ts) ≡ Some e
found_in ts i t e h is none k =
    let r = split ts i t h is in
    ap (templates_fault same) r.1 ∙ behind [] (map template_seen (take i ts)) (template_seen t ∷ r.0) none ∙ ap (λ o. first_fault o (templates_fault_from same (with_template same (meant (take i ts)) (template_seen t)) r.0)) k

pub refused_in : (ts : List code.Template) (i : ℕ) (t : code.Template) (why : fault.Fault ExpandCause) → i < length ts → get_or ts i t ≡ t → none_in (take i ts)
    → IsRefusedBy (unknown_name same (meant (take i ts)) (things (features_seen t.body.items))) why → IsRefusedBy (templates_fault same (map template_seen ts)) why
refused_in ts i t Memory h is none k = tt
refused_in ts i t (Refused c) h is none k = found_in ts i t _ h is none k

pub has_none : (o : Option (ExpandFault Id)) → o ≡ None → is_some o ≡ false
has_none o h = ap (λ o. is_some o) h
