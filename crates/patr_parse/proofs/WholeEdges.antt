-- The passive edges of the start symbol over all the words are the analyses.
use Rattle.std.proofs.Common.{◌≡◌, ℕ, zero, suc, Bool, true, false, cond, ◌&&◌, nat_eq, eqb-true, eq-eqb, List, [], ◌∷◌, length, take, Option, Some, None, option_and_then, slice_get, refl, sym, ap, ◌∙◌, arith, subst}
use Rattle.std.proofs.lemmas.Option.{slice_get_within}
use Rattle.patr_lists.proofs.Conditions.{and_left, and_right}
use Rattle.patr_lists.proofs.Alls.{all_at, all_get}
use Rattle.patr_lists.proofs.Places.{get_there}
use Rattle.patr_lists.proofs.Members.{place_of}
use Rattle.patr_parse.proofs.Names.{Value, Atom, Node, Structure, Rules, Derivation, Begin, InChart, IsChart, IsSolvable, IsLeastValue, variant_steps, Shown, value_of, EdgeKind, Rule, Edge, is_passive, HasOrigin, AreEdges, derivations, KindsFit, is_judged, RuleItem, Stored, IsRuleItem, keys, root_of, AreSound, is_whole}
use Rattle.patr_model.specs.Structure as structure
use Rattle.patr_model.specs.Category.{atom_of, atom_at}
use Rattle.patr_model.specs.Derivation.{rule_variant}
use Rattle.patr_model.specs.Chart.{IsAnalysis}
use Rattle.patr_model.specs.Solved.{solved}
use Rattle.patr_model.specs.Laws.{HaveLeastValues}
use Rattle.patr_model.proofs.Categories.{least_into}
use Rattle.patr_model.proofs.Prediction.{atoms_stay, chart_derivation, chart_solvable}
use Rattle.patr_chart.specs.declared.edge.EdgeKind.TheVariants.{Entry}
use Rattle.patr_chart.specs.Charted.{IsAlone, starts_at, tree}
use Rattle.patr_chart.specs.Laws.{KindFits, IsJudged}
use Rattle.patr_chart.proofs.Trees.{tree_of}
use Rattle.patr_library.specs.Stored.{HasItems}
use Rattle.patr_parse.specs.Found.{IsOfItem}
use Rattle.patr_parse.specs.Analyses.{is_atom, has_category}
use Rattle.patr_parse.proofs.Tasks.{trees_length}

start_says : (e : Edge) → starts_at 0 e ≡ true → (is_passive e ≡ true) × (e.start ≡ 0)
start_says e h = go (is_passive e) refl h
  where
    go : (b : Bool) → is_passive e ≡ b → cond b (nat_eq e.start 0) false ≡ true → (is_passive e ≡ true) × (e.start ≡ 0)
    go true q t = (q, eqb-true e.start 0 t)
    go false q t = cc

start_passes : (e : Edge) → is_passive e ≡ true → e.start ≡ 0 → starts_at 0 e ≡ true
start_passes e p z = ap (λ b. cond b (nat_eq e.start 0) false) p ∙ eq-eqb e.start 0 z

-- an atom that is found stands there
atom_there : (c : ℕ) (o : Option Value) → is_atom c (option_and_then atom_of o) ≡ true → o ≡ Some (Atom c)
atom_there c None h = cc
atom_there c (Some (Atom d)) h = ap (λ x. Some (Atom x)) (eqb-true d c h)
atom_there c (Some (Node n)) h = cc

module _ (g : Rules) (s : Stored) (items : HasItems g s.shown s.rules s.entries) where
  -- an item without daughters fits
  kind_fits : (k : EdgeKind) (e : Edge) → IsOfItem s k → IsAlone k e → KindFits g k
  kind_fits (Entry f w) e i a = tt
  kind_fits (Rule r w item n m) e i a =
      let q = all_at (IsRuleItem g s.shown) s.rules items.rule_items item i.0 i.1 in (
        q.variant,
        ap (λ x. rule_variant g x w) (sym i.2) ∙ (ap (λ x. rule_variant g i.0.rule x) (sym i.3) ∙ q.is),
        omega (arith, i.4, q.slots),
        omega (arith, a.0),
      )

  module _ (r k i : ℕ) (item : RuleItem) (q : IsRuleItem g s.shown item) (is : rule_variant g r k ≡ Some q.variant) where
    item_least : (m : ℕ) → item.slots ≡ m → (M : Structure) × (x : Value) × IsLeastValue g (Begin r k i) M x
    item_least zero z =
        let c = variant_steps.complete g r k i q.variant s.shown.structure (root_of s.shown item) is (q.variant, is, omega (arith, z, q.slots)) q.least in
        (s.shown.structure, c.0, c.2)
    item_least (suc m) z =
        (s.shown.structure, root_of s.shown item, variant_steps.partial g r k i q.variant s.shown.structure (root_of s.shown item) is (q.variant, is, omega (arith, z, q.slots)) q.least)

  -- each rule variant that has a solution has a least value
  rule_least : (r k i : ℕ) → IsSolvable g (Begin r k i) → (M : Structure) × (x : Value) × IsLeastValue g (Begin r k i) M x
  rule_least r k i sol =
      let n = items.every_rule r k i sol in
      let q = all_at (IsRuleItem g s.shown) s.rules items.rule_items n.0 n.1 n.2 in
      let is : rule_variant g r k ≡ Some q.variant = ap (λ x. rule_variant g x k) (sym n.3) ∙ (ap (λ x. rule_variant g n.1.rule x) (sym n.4) ∙ q.is) in
      item_least r k i n.1 q is n.1.slots refl

  module _ (v : Shown) (words : ℕ) (es : List Edge) (all : AreEdges words es) (sound : AreSound g s v es) where
    fit : KindsFit g es
    fit k e at back = kind_fits e.kind e (sound k e at).item (subst (λ o. HasOrigin (take k es) e o) back (all k e at).origin)

    judged : (k : ℕ) (e : Edge) → slice_get es k ≡ Some e → IsJudged g (tree es k) e
    judged k e at = is_judged words es all g fit k e at

    module _ (cat : ℕ) (ws : List ℕ) (chart : IsChart (solved g cat) g ws (derivations es)) where
      in_chart : (k : ℕ) (e : Edge) → slice_get es k ≡ Some e → InChart (solved g cat) g ws (tree es k)
      in_chart k e at = all_get (InChart (solved g cat) g ws) (derivations es) k (Begin 0 0 0) chart.edges (omega (arith, trees_length es, slice_get_within es k e at))

      pub edge_of_tree : (t : Derivation) → InChart (solved g cat) g ws t → (k : ℕ) × (e : Edge) × (slice_get es k ≡ Some e) × (tree es k ≡ t)
      edge_of_tree t h =
          let p = place_of (derivations es) (Begin 0 0 0) t (chart.every t h) in
          let e = get_there es p.0 (omega (arith, trees_length es, p.1)) in
          (p.0, e.0, e.1, p.2)

      pub have_least : HaveLeastValues g cat ws
      have_least = record {
        edges = λ t h.
            let e = edge_of_tree t h in
            (v.structure, value_of v e.1.root, subst (λ u. IsLeastValue g u v.structure (value_of v e.1.root)) e.3 (sound e.0 e.1 e.2).value);
        rules = rule_least;
      }

      pub edge_is_analysis : cat ≡ keys.cat → (k : ℕ) (e : Edge) → slice_get es k ≡ Some e → is_whole v (length ws) g.start e ≡ true → IsAnalysis (solved g cat) g ws (tree es k)
      edge_is_analysis is_cat k e at w =
          let of = tree_of words es all k e at in
          let from = start_says e (and_left (starts_at 0 e) (nat_eq e.end (length ws) && has_category v e.root g.start) w) in
          let ends = and_right (starts_at 0 e) (nat_eq e.end (length ws) && has_category v e.root g.start) w in
          record {
            derivation = chart_derivation g cat ws (tree es k) (in_chart k e at);
            complete = (judged k e at).passive from.0;
            start = of.start ∙ from.1;
            end = of.end ∙ eqb-true e.end (length ws) (and_left (nat_eq e.end (length ws)) (has_category v e.root g.start) ends);
            edge = chart_solvable g cat ws (tree es k) (in_chart k e at);
            whole = (
              v.structure,
              value_of v e.root,
              (sound k e at).value,
              ap (λ c. structure.at v.structure (value_of v e.root) (c ∷ [])) is_cat ∙ atom_there g.start (structure.at v.structure (value_of v e.root) (keys.cat ∷ [])) (and_right (nat_eq e.end (length ws)) (has_category v e.root g.start) ends),
            );
          }

      pub analysis_passes : cat ≡ keys.cat → (k : ℕ) (e : Edge) → slice_get es k ≡ Some e → IsAnalysis (solved g cat) g ws (tree es k) → is_whole v (length ws) g.start e ≡ true
      analysis_passes is_cat k e at a =
          let of = tree_of words es all k e at in
          let into = least_into g (tree es k) a.whole.0 a.whole.1 v.structure (value_of v e.root) a.whole.2 (sound k e at).value in
          let there : atom_at v.structure (value_of v e.root) (cat ∷ []) ≡ Some g.start =
          atoms_stay a.whole.0 a.whole.1 v.structure (value_of v e.root) into (cat ∷ []) g.start (ap (option_and_then atom_of) a.whole.3) in
          let has : has_category v e.root g.start ≡ true =
          ap (is_atom g.start) (ap (λ c. atom_at v.structure (value_of v e.root) (c ∷ [])) (sym is_cat) ∙ there) ∙ eq-eqb g.start g.start refl in
          let ends : nat_eq e.end (length ws) ≡ true = eq-eqb e.end (length ws) (sym of.end ∙ a.end) in
          ap (λ b. b && (nat_eq e.end (length ws) && has_category v e.root g.start)) (start_passes e ((judged k e at).complete a.complete) (sym of.start ∙ a.start))
          ∙ (ap (λ b. b && has_category v e.root g.start) ends ∙ has)
