-- What is promised of a parsed sentence is what its reply is written from.
use Rattle.std.proofs.Common.{◌≡◌, ℕ, suc, ◌≤◌, ltb-true, List, [], ◌∷◌, map, length, Some, slice_get, refl, ap, ◌∙◌, subst, arith}
use Rattle.patr_reply.proofs.Names.{AllByRecursion, AreHeldBy, AreOfLibrary, AreSound, Edge, EdgeKind, Extends, HasNamed, IsAnalysis, IsComplete, IsLeastValue, IsOfItem, IsOfLibrary, IsReady, Rule, Rules, Shown, Stored, Structure, Value, alone, entry_category, entry_word, get_there, length-append, rules_of, solved, tree, tree_alone, value_of}
use Rattle.patr_text.specs.Texts.{first_texts}
use Rattle.patr_chart.specs.declared.edge.EdgeKind.TheVariants.{Entry}
use Rattle.patr_reply.proofs.Naming.{least_values_name_symbols}
use Rattle.patr_reply.proofs.Holding.{below, are_named, categories_held, entry_from, entry_below}

pub table_long : (table : List (List ℕ)) → Extends first_texts table → 38 ≤ length table
unfolding first_texts
table_long table longer = let first : length first_texts ≡ 38 = refl in omega (arith, first, ap length longer.1, length-append first_texts longer.0)

module _ (n : ℕ) (known : 38 ≤ n) (s : Stored) (held : AreHeldBy n s) (v : Shown) (es : List Edge) (sound : AreSound (rules_of s) s v es) where
  abbrev g : Rules
  g = rules_of s

  -- what stands at an edge's root is of the library, where its derivation has a solution
  kind_of : (k : EdgeKind) (e : Edge) (M : Structure) (m : Value) → IsLeastValue g (alone k e) M m → IsOfItem s k → IsOfLibrary n s k
  kind_of (Entry entry variant) e M m least item =
      let solves = least.solution.2.solves in
      let there = entry_from s entry variant solves.0 solves.2 in
      let texts = entry_below n s held entry there.0 there.1 in
      record { entry_is = there.0; there = there.1; category = texts.0; word = texts.1; same_category = ap entry_category solves.2 ∙ there.2.0; same_word = ap entry_word solves.2 ∙ there.2.1 }
  kind_of (Rule rule variant place seen slots) e M m least item =
      let solves = least.solution.2.solves in
      record { item_is = item.0; there = item.1; same_rule = item.2; same_variant = item.3; variant_is = solves.0; is = solves.1; categories = categories_held n known s held rule variant solves.0 solves.1 }

  pub are_of_library : AreOfLibrary n s es
  are_of_library k e at none =
      let one = sound k e at in
      kind_of e.kind e v.structure (value_of v e.root) (subst (λ t. IsLeastValue g t v.structure (value_of v e.root)) (tree_alone es k e at none) one.value) one.item

  -- what paths from the root of an analysis lead to has a number of the table
  pub named_below : (k : ℕ) (e : Edge) → slice_get es k ≡ Some e → IsComplete g (tree es k) → HasNamed (below n) v.structure (value_of v e.root)
  named_below k e at complete = least_values_name_symbols (below n) g (tree es k) v.structure (value_of v e.root) (are_named n known s held) complete (sound k e at).value

  pub all_ready : (ws : List ℕ) (cat : ℕ) (ks : List ℕ) → AllByRecursion (λ k. suc k ≤ length es) ks → AllByRecursion (IsAnalysis (solved g cat) g ws) (map (tree es) ks) → AllByRecursion (IsReady n v es) ks
  all_ready ws cat [] within each = tt
  all_ready ws cat (k ∷ ks) within each =
      let there = get_there es k (omega (arith, within.0)) in
      let named = named_below k there.0 there.1 each.0.complete in (
        record {
          edge = there.0;
          there = there.1;
          held = (sound k there.0 there.1).held;
          spelled = record { atoms = λ p c h. ltb-true c n (named.atoms p c h); attributes = λ p x a y h q. ltb-true a n (named.attributes p x a y h q) };
        },
        all_ready ws cat ks within.1 each.1,
      )
