-- Blocks one behind another, cut out of one list of nodes.
use Rattle.std.proofs.Common.{◌≡◌, ℕ, ◌+◌, ◌*◌, ◌<◌, ◌≤◌, ◌^◌, List, [], ◌∷◌, ◌++◌, length, length-append, take, get_or, refl, sym, ap, ◌∙◌, subst, arith}
use Rattle.std.proofs.lemmas.List.Sums.{sum_by-append, sum_by-cons}
use Rattle.std.specs.List.{sum_by}
use Rattle.patr_arena.specs.declared.value.Feature.{Feature}
use Rattle.patr_arena.specs.Cuts.{IsAppended, begin, cut}
use Rattle.patr_arena.specs.Rows.{HasNode, IsRow, Row, appended, blocks_in, blocks_of, node_in, nodes_of, start}
use Rattle.patr_arena.proofs.Cutting.{cut_before, cut_inside, cut_length, cut_push, cut_sum, ends_more}

-- a row that is known by another name is kept in the same lists
pub kept : {old row : Row} {fs : List Feature} {ends node_ends : List ℕ} → old ≡ row → IsRow old fs ends node_ends → IsRow row fs ends node_ends
kept {fs = fs} {ends = ends} {node_ends = node_ends} e r = subst (λ w. IsRow w fs ends node_ends) e r

module _ {row : Row} {fs : List Feature} {ends node_ends : List ℕ} (r : IsRow row fs ends node_ends) where
  -- the row is what its lists show
  pub row_is : row ≡ record { first_block = row.first_block; first_node = row.first_node; blocks = blocks_in fs ends node_ends }
  row_is = λ i. record { first_block = row.first_block; first_node = row.first_node; blocks = r.blocks_are i }

  pub row_blocks_are : blocks_of row ≡ row.first_block + length node_ends
  row_blocks_are =
      let count = ap length r.blocks_are in
      let size = cut_length (cut fs 0 ends) 0 node_ends in
      omega (arith, count, size)

  pub row_nodes_are : nodes_of row ≡ row.first_node + length ends
  row_nodes_are =
      let last = r.nodes.last in
      let all = cut_sum (cut fs 0 ends) 0 node_ends r.nodes.order (omega (arith, last)) in
      let same = ap (λ (bs : List (List (List Feature))). sum_by length bs) r.blocks_are in
      let size = cut_length fs 0 ends in
      omega (arith, all, last, same, size)

  -- where the block of a node begins
  pub row_start : (k o : ℕ) → HasNode row k o → (k < length node_ends) × (row.first_node + begin 0 node_ends k ≡ start row k)
  row_start k o h =
      let count = ap length r.blocks_are in
      let size = cut_length (cut fs 0 ends) 0 node_ends in
      let first = h.0 in
      let inside : k < length node_ends = omega (arith, count, size, first) in
      let last = r.nodes.last in
      let before = cut_before (cut fs 0 ends) 0 node_ends k r.nodes.order (omega (arith, last)) inside in
      let same = ap (λ (bs : List (List (List Feature))). sum_by length (take k bs)) r.blocks_are in
      (inside, omega (arith, before, same))

  -- a node of the row, by its place
  pub row_node : (k o n : ℕ) → HasNode row k o → row.first_node + n ≡ start row k + o → (n < length ends) × (get_or (cut fs 0 ends) n [] ≡ node_in row k o)
  row_node k o n h e =
      let at = row_start k o h in
      let found = cut_inside (cut fs 0 ends) node_ends k o [] r.nodes at.0 (subst (λ bs. o < length (get_or bs k [])) r.blocks_are h.1) in
      let first = at.1 in
      let here : begin 0 node_ends k + o ≡ n = omega (arith, e, first) in
      let below = found.0 in
      let size = cut_length fs 0 ends in
      (omega (arith, here, below, size), ap (λ m. get_or (cut fs 0 ends) m []) (sym here) ∙ (found.1 ∙ ap (λ bs. get_or (get_or bs k []) o []) (sym r.blocks_are)))

  -- one block more
  pub row_more : (block : List (List Feature)) (new_fs : List Feature) (new_ends : List ℕ) → IsAppended block fs ends new_fs new_ends → blocks_of row + 1 < 2 ^ 32
      → IsRow (appended row block) new_fs new_ends (node_ends ++ length new_ends ∷ [])
  row_more block new_fs new_ends a few =
      let long : length new_ends ≡ length (cut fs 0 ends ++ block) = sym (cut_length new_fs 0 new_ends) ∙ ap length a.nodes in
      let blocks = length-append row.blocks (block ∷ []) in
      let old = r.few_nodes in
      let total = sum_by-append (length {A = List Feature}) row.blocks (block ∷ []) in
      let one = sum_by-cons (length {A = List Feature}) block [] in
      let parts = length-append (cut fs 0 ends) block in
      let few_ends = a.few in
      record {
        blocks_are = ap (λ bs. bs ++ block ∷ []) r.blocks_are ∙ sym (rw (a.nodes, long) (cut_push (cut fs 0 ends) block 0 node_ends r.nodes.order r.nodes.last));
        arcs = a.cuts;
        nodes = rw (a.nodes, long) (ends_more (cut fs 0 ends) block node_ends r.nodes);
        few_blocks = omega (arith, blocks, few);
        few_nodes = omega (arith, blocks, old, total, one, long, parts, few_ends);
      }

pub empty_is_row : (b n : ℕ) → b < 2 ^ 32 → n ≤ b * 2 ^ 32 → IsRow (record { first_block = b; first_node = n; blocks = [] }) [] [] []
empty_is_row b n few few_nodes = record {
  blocks_are = refl;
  arcs = record { order = tt; last = refl };
  nodes = record { order = tt; last = refl };
  few_blocks = omega (arith, few);
  few_nodes = omega (arith, few_nodes);
}
