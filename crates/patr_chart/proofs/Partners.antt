-- The partners of an edge are the earlier edges that are adjacent to it.
use Rattle.std.proofs.Common.{◌≡◌, inl, inr, ℕ, zero, suc, ◌<◌, Bool, true, false, cond, nat_eq, eqb-true, eq-eqb, List, [], ◌∷◌, take, Some, slice_get, refl, sym, ap, ◌∙◌, arith, subst, zero-add}
use Rattle.patr_chart.proofs.Names.{Contains, Edge, HasPartners, IsPartner, IsPartnerBefore, IsStrictlyIncreasing, ends_at, is_partner, is_passive, partners, partners_of, places, starts_at}
use Rattle.patr_chart.proofs.Passing.{places_pass, passes_placed, places_rise}
use Rattle.patr_chart.proofs.Trees.{get_taken}

-- the test of the index, by whether the edges are passive
abbrev adjacent_by : Bool → Bool → Edge → Edge → Bool
adjacent_by b c e f = cond b (cond c false (nat_eq f.end e.start)) (cond c (nat_eq f.start e.end) false)

partner_by : (e f : Edge) → is_partner e f ≡ adjacent_by (is_passive e) (is_passive f) e f
partner_by e f = go (is_passive e)
  where
    go : (b : Bool) → (cond b (ends_at e.start) (starts_at e.end)) f ≡ adjacent_by b (is_passive f) e f
    go true = refl
    go false = refl

-- what the test says
partner_says : (e f : Edge) → is_partner e f ≡ true → IsPartner e f
partner_says e f t = go (is_passive e) refl (is_passive f) refl (sym (partner_by e f) ∙ t)
  where
    go : (b : Bool) → is_passive e ≡ b → (c : Bool) → is_passive f ≡ c → adjacent_by b c e f ≡ true → IsPartner e f
    go true p true q h = cc
    go true p false q h = inr (record { active = q; passive = p; meet = eqb-true f.end e.start h })
    go false p true q h = inl (record { active = p; passive = q; meet = sym (eqb-true f.start e.end h) })
    go false p false q h = cc

says_partner : (e f : Edge) → IsPartner e f → is_partner e f ≡ true
says_partner e f (inl h) = ap (λ b. (cond b (ends_at e.start) (starts_at e.end)) f) h.active ∙ (ap (λ b. cond b (nat_eq f.start e.end) false) h.passive ∙ eq-eqb f.start e.end (sym h.meet))
says_partner e f (inr h) = ap (λ b. (cond b (ends_at e.start) (starts_at e.end)) f) h.passive ∙ (ap (λ b. cond b false (nat_eq f.end e.start)) h.active ∙ eq-eqb f.end e.start h.meet)

get_taken_back : (es : List Edge) (k n : ℕ) (f : Edge) → n < k → slice_get es n ≡ Some f → slice_get (take k es) n ≡ Some f
get_taken_back es zero n f h at = absurd (omega (arith, h))
get_taken_back [] (suc k) n f h at = at
get_taken_back (x ∷ es) (suc k) zero f h at = at
get_taken_back (x ∷ es) (suc k) (suc n) f h at = get_taken_back es k n f (omega (arith, h)) at

pub has_partners : (es : List Edge) (k : ℕ) (e : Edge) → slice_get es k ≡ Some e → HasPartners es k e
has_partners es k e at = record {
  rising = subst IsStrictlyIncreasing (sym is) (places_rise (is_partner e) 0 (take k es));
  adjacent = adjacent;
  every = every;
}
  where
    is : partners es k ≡ places (is_partner e) 0 (take k es)
    is = ap (λ o. partners_of es k o) at

    adjacent : (n : ℕ) → Contains (partners es k) n → IsPartnerBefore es k e n
    adjacent n h =
        let p = places_pass (is_partner e) 0 (take k es) n (subst (λ l. Contains l n) is h) in
        let same : p.0 ≡ n = omega (arith, p.2) in
        let there = get_taken es k n p.1 (subst (λ j. slice_get (take k es) j ≡ Some p.1) same p.3) in
        (p.1, there.0, there.1, partner_says e p.1 p.4)

    every : (n : ℕ) → IsPartnerBefore es k e n → Contains (partners es k) n
    every n h =
        let c = passes_placed (is_partner e) 0 (take k es) n h.0 (get_taken_back es k n h.0 h.1 h.2) (says_partner e h.0 h.3) in
        subst (λ l. Contains l n) (sym is) (subst (λ m. Contains (places (is_partner e) 0 (take k es)) m) (zero-add n) c)
