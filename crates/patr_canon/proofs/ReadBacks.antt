-- A text that some value of a structure has is read back.
use Rattle.std.proofs.Common.{◌≡◌, ℕ, ◌<◌, ◌^◌, Bool, true, false, true≢false, ltb-true, List, [], ◌∷◌, map, length, Some, None, option_map, refl, sym, ap, ◌∙◌, subst, arith, zero-add}
use Rattle.std.specs.Bool.{MatchBool}
use Rattle.patr_canon.proofs.Names.{AreMoved, Atom, Feature, HasBuilt, HasText, IsBelow, IsBlock, IsBuiltOf, IsCanonical, IsMade, IsReadBack, IsStructure, IsValue, IsWritten, Node, NodesAreBelow, OfValue, Outline, RefIsHeld, Target, Value, ValueIsHeld, arc, arcs_from, built, bytes_eq, canonical, is_below, length-map, nodes_seen, nothing, outline, reads, ref_of, ref_seen, some_inj, structure_of, table_look, target_seen, value_of, value_seen, with_block}
use Rattle.std.proofs.lemmas.Slice.Eq.{bytes_eq-Decides}
use Rattle.patr_model.specs.Subsumption.{Same}
use Rattle.patr_model.proofs.Canonical.{one_text, outline_built, below_true}
use Rattle.patr_model.proofs.Local.{local}
use Rattle.patr_model.proofs.Rebuilt.{IsRebuilt}
use Rattle.patr_arena.proofs.RowsShow.{nothing_shown}
use Rattle.patr_arena.proofs.Showing.{blocks_shown}
use Rattle.patr_canon.specs.declared.reader.Reader.{Reader}
use Rattle.patr_canon.specs.declared.reader.Target.TheVariants as target
use Rattle.patr_canon.proofs.Fitting.{outline_fits}
use Rattle.patr_canon.proofs.Renumbered.{moved_length}
use Rattle.patr_canon.proofs.SameNodes.{moved_all, of_block, one_way, ref_below, so_many}
use Rattle.patr_canon.proofs.Spelled.{nodes_own}

-- ---- what a block shows alone

pub block_shown : (n : ℕ) (block : List (List Feature)) → IsBlock block → NodesAreBelow n block → IsStructure (structure_of block)
block_shown n block is own = (blocks_shown nothing nothing_shown (block ∷ []) (is, nodes_own n block own nothing, tt)).structure

root_is : (block : List (List Feature)) (t : Target) → ref_of (with_block nothing block) 0 (ref_seen t) ≡ target_seen t
root_is block (target.Atom c) = refl
root_is block (target.Node k) = ap Node (zero-add k)

root_held : (block : List (List Feature)) (t : Target) → IsBelow (length block) (target_seen t) → RefIsHeld (with_block nothing block) 0 (ref_seen t)
root_held block (target.Atom c) h = tt
root_held block (target.Node k) h = h

pub below_is : (n : ℕ) (x : Value) → true ≡ is_below n x → IsBelow n x
below_is n (Atom c) h = tt
below_is n (Node k) h = ltb-true k n (sym h)

more_places : (block : List (List Feature)) (x : Value) → IsBelow (length block) x → IsValue (structure_of block) x
more_places block (Atom c) h = tt
more_places block (Node k) h = let len : length (map (arcs_from nothing 0) block) ≡ length block = simp length-map in omega (arith, h, len)

-- the block and its root have the text
pub has_text : (table : List (List ℕ)) (order text : List ℕ) (block : List (List Feature)) (t : Target) → IsBlock block → NodesAreBelow (length table) block → OfValue (λ c. c < length table) (target_seen t)
    → IsBelow (length block) (target_seen t) → canonical (table_look table order) (structure_of block) (target_seen t) ≡ text → IsReadBack table order text block (ref_seen t)
has_text table order text block t is own symbol held prints = record {
  has = subst (λ x. HasText (table_look table order) (structure_of block) x text) (sym (root_is block t)) (record { structure = block_shown (length table) block is own; held = more_places block (target_seen t) held; prints = prints });
  held = root_held block t held;
  own = own;
  root_own = ref_below (length table) t symbol;
}

-- ---- a text that some value has

module _ (table : List (List ℕ)) (order text : List ℕ) (short : length text < 2 ^ 32) (c : IsCanonical table order text) where
  tree : Outline ℕ
  tree = outline c.look c.structure c.value

  written : IsWritten table text tree
  unfolding tree
  written = record {
    look = c.look;
    is_look = c.is_look;
    fits = outline_fits c.look c.structure c.value (subst (λ t. length t < 2 ^ 32) (sym c.has.prints) short);
    text_is = sym ((reads c.look).text tree) ∙ c.has.prints;
  }

  rebuilt : IsRebuilt c.structure c.value (built tree [] [])
  unfolding tree
  rebuilt = outline_built c.look c.structure c.value c.has.structure c.has.held

  pub no_reader : HasBuilt table text None → ⊥
  no_reader h = h tree written

  module _ (r : Reader) (h : HasBuilt table text (Some r)) where
    is_built : IsBuiltOf r tree
    is_built = h tree written

    pub no_root : r.root ≡ None → ⊥
    no_root e = let bad : None ≡ Some (built tree [] []).value = sym (ap (option_map target_seen) e) ∙ is_built.0 in cc

    is_structure : IsStructure (nodes_seen r.nodes.items)
    is_structure = subst IsStructure (sym is_built.1) rebuilt.structure

    pub no_block : IsMade r.nodes.items None → ⊥
    no_block k = k is_structure

    module _ (t : Target) (root : r.root ≡ Some t) (block : List (List Feature)) (moved : AreMoved r.nodes.items block) where
      value_is : target_seen t ≡ (built tree [] []).value
      value_is = some_inj (target_seen t) (built tree [] []).value (sym (ap (option_map target_seen) root) ∙ is_built.0)

      is_value : IsValue (nodes_seen r.nodes.items) (target_seen t)
      is_value = subst (λ x. IsValue (nodes_seen r.nodes.items) x) (sym value_is) (subst (λ S. IsValue S (built tree [] []).value) (sym is_built.1) rebuilt.held)

      pub no_node : false ≡ is_below (length block) (target_seen t) → ⊥
      no_node e =
          let len : length (nodes_seen r.nodes.items) ≡ length r.nodes.items = simp length-map in
          let same : length (nodes_seen r.nodes.items) ≡ length block = len ∙ sym (moved_length r.nodes.items block moved) in
          true≢false (sym (below_true (length block) (target_seen t) (subst (λ n. IsBelow n (target_seen t)) same is_value)) ∙ sym e)

      same_arcs : (n a : ℕ) → arc (nodes_seen r.nodes.items) (Node n) a ≡ arc (structure_of block) (Node n) a
      same_arcs = moved_all r.nodes.items block moved is_structure.distinct

      places : length (nodes_seen r.nodes.items) ≡ length (structure_of block)
      places = so_many r.nodes.items block (moved_length r.nodes.items block moved)

      same_tree : Same c.structure c.value (nodes_seen r.nodes.items) (target_seen t)
      same_tree = subst (λ x. Same c.structure c.value (nodes_seen r.nodes.items) x) (sym value_is) (subst (λ S. Same c.structure c.value S (built tree [] []).value) (sym is_built.1) rebuilt.same)

      pub other_text : IsBlock block → NodesAreBelow (length table) block → OfValue (λ c. c < length table) (target_seen t) → (canonical (table_look table order) (structure_of block) (target_seen t) ≡ text → ⊥) → ⊥
      other_text is own symbol differs =
          let x = target_seen t in
          let N = nodes_seen r.nodes.items in
          let B = structure_of block in
          let is_b = block_shown (length table) block is own in
          let in_b : IsValue B x = subst (λ n. IsBelow n x) places is_value in
          let first = one_text c.look c.structure c.value N x c.has.structure c.has.held is_structure is_value same_tree in
          let both : Same N x B x = (one_way N B is_structure places same_arcs x is_value, one_way B N is_b (sym places) (λ n a. sym (same_arcs n a)) x in_b) in
          let second = one_text c.look N x B x is_structure is_value is_b in_b both in
          let third = local c.look (table_look table order) B x is_b in_b c.order_is (of_block table order c.look c.is_look block x own symbol) in
          differs (sym third ∙ (sym second ∙ (sym first ∙ c.has.prints)))

-- ---- the test

pub value_is_held : (block : List (List Feature)) (t : Target) → IsBelow (length block) (target_seen t) → ValueIsHeld (with_block nothing block) (value_seen t)
value_is_held block (target.Atom c) h = tt
value_is_held block (target.Node k) h = h

pub arena_value : (block : List (List Feature)) (t : Target) → value_of (with_block nothing block) (value_seen t) ≡ target_seen t
arena_value block (target.Atom c) = refl
arena_value block (target.Node k) = ap Node (zero-add k)

pub match_text : (r : Bool) (x y z : List ℕ) → r ≡ bytes_eq x y → z ≡ x → MatchBool r (z ≡ y) (z ≡ y → ⊥)
match_text true x y z e h = h ∙ (bytes_eq-Decides x y).0 (sym e)
match_text false x y z e h = λ p. true≢false (sym ((bytes_eq-Decides x y).1 (sym h ∙ p)) ∙ sym e)
