-- Edges that need no passive edge, and which the chart has not yet, keep what the rounds keep.
use Rattle.std.proofs.Common.{◌≡◌, inl, inr, ℕ, zero, suc, ◌+◌, ◌<◌, List, [], ◌∷◌, ◌++◌, length, take, map, Some, None, slice_get, refl, sym, ap, ◌∙◌, arith, subst, append-nil, append_assoc, length-append}
use Rattle.std.specs.List.{AllByRecursion}
use Rattle.std.proofs.lemmas.List.{length-map, take-append-le}
use Rattle.patr_lists.proofs.Places.{get_parts}
use Rattle.patr_lists.proofs.Members.{in_cases, in_one}
use Rattle.patr_lists.specs.Members.{NoRepeats, IsIn}
use Rattle.patr_parse.proofs.Names.{Rules, Derivation, Judgement, InChart, HasMoreThan, Each, IsWorked, IsNoPair, some_inj, rounds, Shown, EdgeKind, Rule, Edge, derived_by, derived, derivations, KindsFit, from_length, Stored, IsSoundEdge, AreSound, IsAloneEdge, Stands, made_by, AreWaiting}
use Rattle.patr_chart.specs.declared.edge.EdgeKind.TheVariants.{Entry}
use Rattle.patr_chart.specs.Charted.{alone, derivations_from}
use Rattle.patr_chart.proofs.Trees.{from_append}
use Rattle.patr_parse.proofs.Growing.{sound_more, sound_pushed}

abbrev pub alone_edge : Edge → Derivation
alone_edge e = alone e.kind e

-- the derivations of edges that are made of no others
abbrev pub alones : List Edge → List Derivation
alones ys = map alone_edge ys

abbrev pub AreAlone : List Edge → Type 0
AreAlone ys = AllByRecursion (λ (e : Edge). e.back ≡ None) ys

-- derivations that the chart has not yet, each once
pub record AreNew (j : Judgement) (g : Rules) (ws : List ℕ) (es : List Edge) (ts : List Derivation) : Type 0 where
  pub edges : (t : Derivation) → IsIn ts t → InChart j g ws t
  pub once : NoRepeats ts
  pub new : (t : Derivation) → IsIn ts t → IsIn (derivations es) t → ⊥

pub none_new : (j : Judgement) (g : Rules) (ws : List ℕ) (es : List Edge) → AreNew j g ws es []
none_new j g ws es = record { edges = λ t h. absurd h; once = tt; new = λ t h k. h }

-- ---- what is promised of edges, one by one

each_get : {X Y : Type 0} (R : X → Y → Type 0) (xs : List X) (ys : List Y) → Each R xs ys → (n : ℕ) (y : Y) → slice_get ys n ≡ Some y → (x : X) × R x y
each_get R [] [] a n y h = absurd (nothing h)
  where
    nothing : None ≡ Some y → ⊥
    nothing q = cc
each_get R [] (z ∷ ys) a n y h = absurd a
each_get R (x ∷ xs) [] a n y h = absurd a
each_get R (x ∷ xs) (z ∷ ys) a zero y h = (x, subst (R x) (some_inj z y h) a.0)
each_get R (x ∷ xs) (z ∷ ys) a (suc n) y h = each_get R xs ys a.1 n y h

module _ (g : Rules) (s : Stored) (v : Shown) where
  pub each_alone : (ts : List Derivation) (ys : List Edge) → Each (IsAloneEdge g s v) ts ys → AreAlone ys
  each_alone [] [] a = tt
  each_alone [] (y ∷ ys) a = absurd a
  each_alone (t ∷ ts) [] a = absurd a
  each_alone (t ∷ ts) (y ∷ ys) a = (a.0.back, each_alone ts ys a.1)

  pub each_is : (ts : List Derivation) (ys : List Edge) → Each (IsAloneEdge g s v) ts ys → alones ys ≡ ts
  each_is [] [] a = refl
  each_is [] (y ∷ ys) a = absurd a
  each_is (t ∷ ts) [] a = absurd a
  each_is (t ∷ ts) (y ∷ ys) a = ap (λ u. u ∷ alones ys) a.0.is ∙ ap (λ l. t ∷ l) (each_is ts ys a.1)

  pub each_at : (ts : List Derivation) (ys : List Edge) → Each (IsAloneEdge g s v) ts ys → (n : ℕ) (e : Edge) → slice_get ys n ≡ Some e → (t : Derivation) × IsAloneEdge g s v t e
  each_at ts ys a n e h = each_get (IsAloneEdge g s v) ts ys a n e h

  pub each_length : (ts : List Derivation) (ys : List Edge) → Each (IsAloneEdge g s v) ts ys → length ys ≡ length ts
  each_length ts ys a = sym (length-map ys alone_edge) ∙ ap length (each_is ts ys a)

  pub each_append : (ts us : List Derivation) (ys zs : List Edge) → Each (IsAloneEdge g s v) ts ys → Each (IsAloneEdge g s v) us zs → Each (IsAloneEdge g s v) (ts ++ us) (ys ++ zs)
  each_append [] us [] zs a b = b
  each_append [] us (y ∷ ys) zs a b = absurd a
  each_append (t ∷ ts) us [] zs a b = absurd a
  each_append (t ∷ ts) us (y ∷ ys) zs a b = (a.0, each_append ts us ys zs a.1 b)

-- ---- what they are behind others

alone_from : (ds : List Derivation) (ys : List Edge) → AreAlone ys → derivations_from ds ys ≡ ds ++ alones ys
alone_from ds [] a = sym (append-nil ds)
alone_from ds (y ∷ ys) a =
    ap (λ o. derivations_from (ds ++ derived_by ds y o ∷ []) ys) a.0
    ∙ (alone_from (ds ++ alone_edge y ∷ []) ys a.1 ∙ append_assoc ds (alone_edge y ∷ []) (alones ys))

derivations_alone : (es ys : List Edge) → AreAlone ys → derivations (es ++ ys) ≡ derivations es ++ alones ys
derivations_alone es ys a = from_append [] es ys ∙ alone_from (derivations es) ys a

made_alone : (es ys : List Edge) → AreAlone ys → made_by es ys ≡ alones ys
made_alone es [] a = refl
made_alone es (y ∷ ys) a = ap (λ o. derived_by (derivations es) y o ∷ made_by es ys) a.0 ∙ ap (λ l. alone_edge y ∷ l) (made_alone es ys a.1)

kind_no_pair : (k : EdgeKind) (e : Edge) → IsNoPair (alone k e)
kind_no_pair (Entry f v) e = tt
kind_no_pair (Rule r v i s n) e = tt

no_pair : (ys : List Edge) (t : Derivation) → IsIn (alones ys) t → IsNoPair t
no_pair [] t h = absurd h
no_pair (y ∷ ys) t (inl q) = subst IsNoPair q (kind_no_pair y.kind y)
no_pair (y ∷ ys) t (inr h) = no_pair ys t h

-- more edges without passive ones
adds_all : (j : Judgement) (g : Rules) (ws : List ℕ) (old all ts : List Derivation) → IsWorked j g ws old all → ((t : Derivation) → IsIn ts t → InChart j g ws t) → ((t : Derivation) → IsIn ts t → IsNoPair t) → NoRepeats ts
    → ((t : Derivation) → IsIn ts t → IsIn all t → ⊥) → IsWorked j g ws old (all ++ ts)
adds_all j g ws old all [] w c p o n = subst (λ l. IsWorked j g ws old l) (sym (append-nil all)) w
adds_all j g ws old all (t ∷ ts) w c p o n =
    let one = (rounds j g ws).adds old all t w (c t (inl refl)) (p t (inl refl)) (n t (inl refl)) in
    let apart : (u : Derivation) → IsIn ts u → IsIn (all ++ t ∷ []) u → ⊥ = λ u h k. elim (in_cases all (t ∷ []) u k) [ inl l ↦ n u (inr h) l | inr l ↦ o.0 (subst (λ x. IsIn ts x) (sym (in_one t u l)) h) ] in
    subst (λ l. IsWorked j g ws old l) (append_assoc all (t ∷ []) ts) (adds_all j g ws old (all ++ t ∷ []) ts one (λ u h. c u (inr h)) (λ u h. p u (inr h)) o.1 apart)

module _ (g : Rules) (s : Stored) (v : Shown) (es ys : List Edge) (ts : List Derivation) (each : Each (IsAloneEdge g s v) ts ys) where
  alone_all : AreAlone ys
  alone_all = each_alone g s v ts ys each

  pub derivations_new : derivations (es ++ ys) ≡ derivations es ++ ts
  derivations_new = derivations_alone es ys alone_all ∙ ap (λ l. derivations es ++ l) (each_is g s v ts ys each)

  waiting : AreWaiting g s v es ys
  waiting n e at =
      let a = each_at g s v ts ys each n e at in
      let is : derived (derivations es) e ≡ a.0 = ap (λ o. derived_by (derivations es) e o) a.1.back ∙ a.1.is in
      subst (λ t. IsSoundEdge g s v es t e) (sym is) (sound_more g s v [] es a.0 e a.1.sound)

  pub sound_new : AreSound g s v es → AreSound g s v (es ++ ys)
  sound_new sound = sound_pushed g s v es ys (derivations_alone es ys alone_all ∙ ap (λ l. derivations es ++ l) (sym (made_alone es ys alone_all))) sound waiting

  fit_new : KindsFit g es → KindsFit g (es ++ ys)
  fit_new fit k e at none = elim (get_parts es ys k e at) [ inl old ↦ fit k e old none | inr new ↦ (each_at g s v ts ys each new.0 e new.2).1.fits ]

  module _ (j : Judgement) (ws : List ℕ) (k : ℕ) (stands : Stands j g ws es k []) (n : AreNew j g ws es ts) where
    long : length (derivations es) ≡ length es
    long = omega (arith, from_length [] es)

    worked : IsWorked j g ws (take k (derivations es)) (derivations es ++ ts)
    worked = adds_all j g ws (take k (derivations es)) (derivations es) ts (subst (λ l. IsWorked j g ws (take k (derivations es)) l) (append-nil (derivations es)) stands.worked) n.edges
        (λ t h. no_pair ys t (subst (λ l. IsIn l t) (sym (each_is g s v ts ys each)) h)) n.once n.new

    pub stands_new : Stands j g ws (es ++ ys) k []
    stands_new =
        let more = derivations_new in
        let within = stands.within in
        let front : take k (derivations (es ++ ys)) ≡ take k (derivations es) = ap (λ l. take k l) more ∙ take-append-le k (derivations es) ts (omega (arith, within, long)) in
        record {
          worked = subst (λ l. IsWorked j g ws l (derivations (es ++ ys) ++ [])) (sym front)
              (subst (λ l. IsWorked j g ws (take k (derivations es)) l) (sym more ∙ sym (append-nil (derivations (es ++ ys)))) worked);
          within = omega (arith, within, length-append es ys);
          fit = fit_new stands.fit;
        }

-- they are more than the limit
pub passes_new : (j : Judgement) (g : Rules) (ws : List ℕ) (es : List Edge) (ts : List Derivation) (k limit : ℕ) → Stands j g ws es k [] → AreNew j g ws es ts → ((t : Derivation) → IsIn ts t → IsNoPair t)
    → limit < length es + length ts → HasMoreThan j g ws limit
passes_new j g ws es ts k limit stands n alone h =
    (rounds j g ws).passes (take k (derivations es)) (derivations es ++ ts) limit
    (adds_all j g ws (take k (derivations es)) (derivations es) ts (subst (λ l. IsWorked j g ws (take k (derivations es)) l) (append-nil (derivations es)) stands.worked) n.edges alone n.once n.new)
    (let long : length (derivations es) ≡ length es = omega (arith, from_length [] es) in omega (arith, h, long, length-append (derivations es) ts))
