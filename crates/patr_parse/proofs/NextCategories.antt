-- The category of an edge's next daughter.
use Rattle.std.proofs.Common.{◌≡◌, ℕ, suc, true, false, List, [], ◌∷◌, Option, Some, None, slice_get, sym, ap, ◌∙◌}
use Rattle.patr_parse.proofs.Names.{Atom, some_inj, Shown, value_of, EdgeKind, Edge, is_passive, AreEdges, is_judged, Stored, rules_of, keys, daughters, IsReady, next_of}
use Rattle.patr_model.specs.Structure.{at}
use Rattle.patr_model.specs.Derivation as derivation
use Rattle.patr_arena.specs.declared.value.Value as its
use Rattle.patr_arena.specs.declared.value.Value.TheVariants as value
use Rattle.patr_arena.specs.Paths.{found_of}
use Rattle.patr_chart.specs.Charted.{IsNext, tree}
use Rattle.patr_chart.proofs.Shown.{is_tree}
use Rattle.patr_parse.proofs.Joins.{next_daughter}
use Rattle.patr_parse.proofs.Predicting.{next_there, none_next}

-- an atom was found, and it is this category
abbrev pub HasFound : Option its.Value → Option ℕ → Type 0
HasFound None next = ⊥
HasFound (Some (value.Node a)) next = ⊥
HasFound (Some (value.Atom c)) next = Some c.0 ≡ next

found_atom : (v : Shown) (o : Option its.Value) (d : ℕ) (next : Option ℕ) → next ≡ Some d → found_of v o ≡ Some (Atom d) → HasFound o next
found_atom v None d next n h = cc
found_atom v (Some (value.Node a)) d next n h = cc
found_atom v (Some (value.Atom c)) d next n h = ap (λ x. Some x) (same c.0 d (some_inj (Atom c.0) (Atom d) h)) ∙ sym n
  where
    same : (a b : ℕ) → Atom a ≡ Atom b → a ≡ b
    same a b q = cc

module _ (s : Stored) (v : Shown) (limit words : ℕ) (es : List Edge) (all : AreEdges words es) (ready : IsReady (rules_of s) s v limit es) (k : ℕ) (e : Edge) (at_k : slice_get es k ≡ Some e) where
  -- none where no daughter is missing
  pub passive_none : is_passive e ≡ true → None ≡ next_of (rules_of s) (tree es k)
  passive_none p = sym (none_next s (tree es k) ((is_judged words es all (rules_of s) ready.fit k e at_k).passive p))

  -- the category of the next daughter stands at `cat` of the next slot
  pub category_there : is_passive e ≡ false → (l : EdgeKind) → IsNext e.kind l → (slot : ℕ) → slot ≡ daughters l
      → (c : ℕ) × (next_of (rules_of s) (tree es k) ≡ Some c) × (at v.structure (value_of v e.root) (slot ∷ keys.cat ∷ []) ≡ Some (Atom c))
  category_there p l next slot is =
      let g = rules_of s in
      let one : slot ≡ suc (derivation.seen (tree es k)) = is ∙ next_daughter g (tree es k) e.kind l next ((is_tree words es all k e at_k).kind g) in
      let there = next_there s (tree es k) ((is_judged words es all g ready.fit k e at_k).active p) v.structure (value_of v e.root) (ready.sound k e at_k).value in
      (there.0, there.1, ap (λ i. at v.structure (value_of v e.root) (i ∷ keys.cat ∷ [])) one ∙ there.2)

  -- what is found there is this atom
  pub found_category : is_passive e ≡ false → (l : EdgeKind) → IsNext e.kind l → (slot : ℕ) → slot ≡ daughters l → (o : Option its.Value)
      → found_of v o ≡ at v.structure (value_of v e.root) (slot ∷ keys.cat ∷ []) → HasFound o (next_of (rules_of s) (tree es k))
  found_category p l next slot is o same =
      let there = category_there p l next slot is in found_atom v o there.0 (next_of (rules_of s) (tree es k)) there.1 (same ∙ there.2)
