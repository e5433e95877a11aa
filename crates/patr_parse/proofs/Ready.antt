-- What a round needs is there: before it, and after more edges were predicted.
use Rattle.std.proofs.Common.{◌≡◌, inl, inr, ℕ, ◌+◌, ◌<◌, ◌≤◌, List, [], ◌∷◌, ◌++◌, length, length-append, append_assoc, take, true, false, refl, sym, ap, ◌∙◌, arith, subst}
use Rattle.std.proofs.lemmas.List.{take-append-le}
use Rattle.patr_lists.proofs.Places.{get_there}
use Rattle.patr_lists.specs.Members.{IsIn}
use Rattle.patr_lists.proofs.Members.{in_cases, in_left, once_left}
use Rattle.patr_parse.proofs.Names.{Rules, Derivation, Leaf, Begin, Extend, end, size, Judgement, HasMoreThan, Each, Shown, Extends, still_held, Edge, EdgeKind, Rule, derivations, Stored, IsStored, rules_of, AreSound, AreSmall, IsReady, ItemsAreHeld, judge, Stands, begun_by, next_of, ArePushed, HasMarkOf, IsAloneEdge, ArePredicted, IsMarked}
use Rattle.patr_chart.specs.declared.edge.EdgeKind.TheVariants.{Entry}
use Rattle.patr_chart.specs.Charted.{alone, tree}
use Rattle.patr_parse.specs.declared.prediction.Prediction.{Prediction}
use Rattle.patr_parse.specs.Standing.{IsGrown}
use Rattle.patr_parse.specs.Predicting.{IsFurther, IsPrediction}
use Rattle.patr_parse.proofs.Tasks.{trees_length}
use Rattle.patr_parse.proofs.Added.{AreNew, derivations_new, passes_new, sound_new, stands_new, each_is, alones, alone_edge}
use Rattle.patr_parse.proofs.Items.{rule_item}
use Rattle.patr_parse.proofs.Predicting.{followed_new, followed_predicted, no_pair_followed, predicted_grown}

in_long : (ts : List Derivation) (t : Derivation) → IsIn ts t → 0 < length ts
in_long [] t h = absurd h
in_long (u ∷ ts) t h = omega arith

-- no pair was worked
pub small_first : (j : Judgement) (g : Rules) (ws : List ℕ) (limit : ℕ) (es : List Edge) → Stands j g ws es 0 [] → length es ≤ limit → AreSmall limit (derivations es)
small_first j g ws limit es s few t h = go t h
  where
    go : (t : Derivation) → IsIn (derivations es) t → size t ≤ limit
    go (Leaf e k i i') h = omega (arith, in_long (derivations es) (Leaf e k i i') h, trees_length es, few)
    go (Begin r k i) h = omega (arith, in_long (derivations es) (Begin r k i) h, trees_length es, few)
    go (Extend a p) h = absurd (s.worked.made a p (in_left (derivations es) [] (Extend a p) h)).0

pub ready : (j : Judgement) (g : Rules) (s : Stored) (v : Shown) (ws : List ℕ) (limit : ℕ) (es : List Edge) (k : ℕ) → Stands j g ws es k [] → AreSound g s v es → ItemsAreHeld s v → AreSmall limit (derivations es) → IsReady g s v limit es
ready j g s v ws limit es k stands sound items small = record { fit = stands.fit; once = once_left (derivations es) [] stands.worked.once; sound = sound; items = items; small = small }

-- the roots of the items are there where all that the library shows is
pub items_there : (s : Stored) → IsStored s → (v : Shown) → Extends s.shown v → ItemsAreHeld s v
items_there s stored v e n item at = still_held s.shown v e item.root.block item.root.offset (rule_item s stored n item at).held

-- predictions stay where edges that are made of two are added
pub predictions_stay : (s : Stored) (ws : List ℕ) (p : Prediction) (old new : List Edge) → IsGrown old new → IsPrediction s ws p old → IsPrediction s ws p new
predictions_stay s ws p old new grown h =
    subst (λ l. IsPrediction s ws p l) (sym grown.1) (predicted_grown s ws (IsMarked p.marks.keys) p.seen old grown.0 (sym (ap derivations grown.1) ∙ grown.2) grown.3 h)

alone_small : (e : Edge) → size (alone_edge e) ≡ 1
alone_small e = go e.kind
  where
    go : (k : EdgeKind) → size (alone k e) ≡ 1
    go (Entry f v) = refl
    go (Rule r v i n m) = refl

alones_small : (ys : List Edge) (t : Derivation) → IsIn (alones ys) t → size t ≡ 1
alones_small [] t h = absurd h
alones_small (y ∷ ys) t (inl q) = ap size (sym q) ∙ alone_small y
alones_small (y ∷ ys) t (inr h) = alones_small ys t h

module _ (j : Judgement) (g : Rules) (s : Stored) (v : Shown) (ws : List ℕ) (limit : ℕ) (es ys : List Edge) (ts : List Derivation) (each : Each (IsAloneEdge g s v) ts ys) where
  -- more edges without daughters
  pub ready_more : (k : ℕ) → Stands j g ws (es ++ ys) k [] → length (es ++ ys) ≤ limit → IsReady g s v limit es → IsReady g s v limit (es ++ ys)
  ready_more k stands few r = ready j g s v ws limit (es ++ ys) k stands (sound_new g s v es ys ts each r.sound) r.items small
    where
      small : AreSmall limit (derivations (es ++ ys))
      small t h = elim (in_cases (derivations es) ts t (subst (λ l. IsIn l t) (derivations_new g s v es ys ts each) h)) [
        | inl old ↦ r.small t old
        | inr new ↦ (let one = alones_small ys t (subst (λ l. IsIn l t) (sym (each_is g s v ts ys each)) new) in omega (arith, one, few, in_long (derivations (es ++ ys)) t h, trees_length (es ++ ys)))
      ]

  -- the derivations of the first edges stay
  pub front_stays : (k : ℕ) → k ≤ length es → take k (derivations (es ++ ys)) ≡ take k (derivations es)
  front_stays k h = ap (λ l. take k l) (derivations_new g s v es ys ts each) ∙ take-append-le k (derivations es) ts (omega (arith, h, trees_length es))

-- one more edge is followed
module _ (s : Stored) (stored : IsStored s) (ws : List ℕ) (v : Shown) (limit : ℕ) (old es : List Edge) (k : ℕ) (first : Stands (judge s) (rules_of s) ws old k []) (p : Prediction)
    (i : IsFurther s ws v limit old p es) (here : p.seen < length es) (new : List Edge) where
  abbrev r : Rules
  r = rules_of s

  abbrev t : Derivation
  t = tree es p.seen

  abbrev ts : List Derivation
  ts = begun_by p.marks.keys s (next_of r t) (end t)

  fresh : (n : ℕ) → Stands (judge s) r ws es n [] → AreNew (judge s) r ws es ts
  fresh n now = let at = get_there es p.seen here in followed_new s stored ws v es i.ready.sound n now p.marks.keys p.seen i.predicted at.0 at.1

  pub not_further : ArePushed r s v limit es ts new false → HasMoreThan (judge s) r ws limit
  not_further full =
      let now = i.stands k first in
      passes_new (judge s) r ws es ts k limit now (fresh k now) (no_pair_followed s stored p.marks.keys (next_of r t) (end t)) full

  pub further : ArePushed r s v limit es ts new true → (q : Prediction) → HasMarkOf p.marks.keys q.marks.keys (next_of r t) (end t) → q.seen ≡ p.seen + 1 → IsFurther s ws v limit old q new
  further pushed q marked seen =
      let ys = pushed.0 in
      let each = pushed.2 in
      let back : es ++ ys ≡ new = sym pushed.1 in
      let at = get_there es p.seen here in
      let now = i.stands k first in
      let stands : (n : ℕ) → Stands (judge s) r ws old n [] → Stands (judge s) r ws (es ++ ys) n [] = λ n f. let now = i.stands n f in stands_new r s v es ys ts each (judge s) ws n now (fresh n now) in
      let few : length (es ++ ys) ≤ limit = subst (λ l. length l ≤ limit) pushed.1 pushed.3 in
      let predicted = followed_predicted s stored ws v es i.ready.sound k now p.marks.keys p.seen i.predicted at.0 at.1 q.marks.keys ys marked each in
      record {
        stands = λ n f. subst (λ (l : List Edge). Stands (judge s) r ws l n []) back (stands n f);
        ready = subst (λ l. IsReady r s v limit l) back (ready_more (judge s) r s v ws limit es ys ts each k (stands k first) few i.ready);
        predicted = subst (λ (l : List Edge). ArePredicted s ws (IsMarked q.marks.keys) q.seen l) back (subst (λ n. ArePredicted s ws (IsMarked q.marks.keys) n (es ++ ys)) (sym seen) predicted);
        grown = (i.grown.0 ++ ys, pushed.1 ∙ (ap (λ l. l ++ ys) i.grown.1 ∙ append_assoc old i.grown.0 ys));
        kept = λ n h. ap (λ l. take n (derivations l)) pushed.1
            ∙ ((let longer = ap length i.grown.1 in front_stays (judge s) r s v ws limit es ys ts each n (omega (arith, h, longer, length-append old i.grown.0))) ∙ i.kept n h);
        few = pushed.3;
      }
