-- What a row of blocks shows behind what stands before it.
use Rattle.std.proofs.Common.{◌≡◌, ◌⊎◌, inl, inr, ℕ, ◌+◌, ◌<◌, List, [], ◌∷◌, ◌++◌, length, length-append, map, take, get_or, refl, sym, ap, ◌∙◌, subst, arith}
use Rattle.std.proofs.lemmas.List.{get_or_append_left, get_or-append-add, length-map, take-map}
use Rattle.std.proofs.lemmas.List.Sums.{fold_push, sum-map, sum_by-append}
use Rattle.std.proofs.Math.ListN.{get_or-map}
use Rattle.std.specs.List.{sum, sum_by}
use Rattle.patr_model.specs.Structure.{Node, arcs_of}
use Rattle.patr_arena.specs.declared.value.Feature.{Feature}
use Rattle.patr_arena.specs.Shown.{Shown, IsShown, IsHeld, AllHeld, arcs_from, number_of}
use Rattle.patr_arena.specs.Blocks.{AreBlocks, IsBlock, OldIsHeld, nothing, with_block, with_blocks}
use Rattle.patr_arena.specs.Rows.{HasNode, Row, appended, blocks_of, node_in, nodes_of, start}
use Rattle.patr_arena.proofs.Showing.{blocks_extend, blocks_shown, blocks_sizes, held_below, node_of_block, old_of_all, same_arcs, same_node, same_number, still_all_held}
use Rattle.patr_arena.proofs.Sizes.{held_front, place_above}

-- one block more
pub blocks_push : (v : Shown) (blocks : List (List (List Feature))) (block : List (List Feature)) → with_blocks v (blocks ++ block ∷ []) ≡ with_block (with_blocks v blocks) block
blocks_push v blocks block = fold_push with_block v blocks block

are_push : (v : Shown) (blocks : List (List (List Feature))) (block : List (List Feature)) → AreBlocks v blocks → IsBlock block → OldIsHeld (with_blocks v blocks) block → AreBlocks v (blocks ++ block ∷ [])
are_push v [] block are b old = (b, old, tt)
are_push v (first ∷ blocks) block are b old = (are.0, are.1, are_push (with_block v first) blocks block are.2 b old)

-- an address is of the row's block k: its node, the place and the arcs
pub record IsInRow (v : Shown) (row : Row) (k b o : ℕ) : Type 0 where
  pub has : HasNode row k o
  pub number : start row k + o ≡ number_of (with_blocks v row.blocks) b o
  pub same : arcs_from (with_blocks v row.blocks) b (node_in row k o) ≡ arcs_of (with_blocks v row.blocks).structure (Node (number_of (with_blocks v row.blocks) b o))
  pub held : AllHeld (with_blocks v row.blocks) b (node_in row k o)

-- what an arena keeps of its row
pub record IsKeptRow (v : Shown) (row : Row) : Type 0 where
  pub first_block : row.first_block ≡ length v.sizes
  pub first_node : row.first_node ≡ length v.structure
  pub blocks : AreBlocks v row.blocks
  pub lawful : IsShown (with_blocks v row.blocks)

module _ (v : Shown) (s : IsShown v) (row : Row) (first_block : row.first_block ≡ length v.sizes) (first_node : row.first_node ≡ length v.structure) (are : AreBlocks v row.blocks) where
  shown : Shown
  shown = with_blocks v row.blocks

  sizes : (with_blocks v row.blocks).sizes ≡ v.sizes ++ map length row.blocks
  sizes = blocks_sizes v row.blocks

  size_of : (b k : ℕ) → b ≡ length v.sizes + k → get_or (with_blocks v row.blocks).sizes b 0 ≡ length (get_or row.blocks k [])
  size_of b k e = ap (λ s. get_or s b 0) sizes ∙ (ap (λ n. get_or (v.sizes ++ map length row.blocks) n 0) e ∙ (get_or-append-add v.sizes (map length row.blocks) k 0 ∙ get_or-map (length {A = List Feature}) row.blocks k []))

  -- a node behind the base is a node of the row
  row_has : (b k o : ℕ) → b ≡ length v.sizes + k → IsHeld (with_blocks v row.blocks) b o → HasNode row k o
  row_has b k o e h =
      let size = size_of b k e in
      let inside : b < length (v.sizes ++ map length row.blocks) = subst (λ xs. b < length xs) sizes (held_front (with_blocks v row.blocks).sizes b o h) in
      let all = length-append v.sizes (map length row.blocks) in
      let few = length-map row.blocks (length {A = List Feature}) in
      (omega (arith, inside, all, few, e), omega (arith, h, size))

  row_node : (b k o : ℕ) → b ≡ length v.sizes + k → HasNode row k o
      → (arcs_from (with_blocks v row.blocks) b (node_in row k o) ≡ arcs_of (with_blocks v row.blocks).structure (Node (number_of (with_blocks v row.blocks) b o))) × AllHeld (with_blocks v row.blocks) b (node_in row k o)
  row_node b k o e h =
      let found = node_of_block v s row.blocks are k o h.1 in
      subst (λ n. (arcs_from (with_blocks v row.blocks) n (node_in row k o) ≡ arcs_of (with_blocks v row.blocks).structure (Node (number_of (with_blocks v row.blocks) n o))) × AllHeld (with_blocks v row.blocks) n (node_in row k o))
      (sym e) (sym found.0, found.1)

  row_number : (b k o : ℕ) → b ≡ length v.sizes + k → start row k + o ≡ number_of (with_blocks v row.blocks) b o
  row_number b k o e =
      let parts : sum (take b (with_blocks v row.blocks).sizes) ≡ sum v.sizes + sum_by length (take k row.blocks) =
      ap (λ s. sum (take b s)) sizes ∙ (ap (λ n. sum (take n (v.sizes ++ map length row.blocks))) e ∙ (place_above v.sizes (map length row.blocks) k
      ∙ ap (λ n. sum v.sizes + n) (ap sum (take-map (length {A = List Feature}) k row.blocks) ∙ sum-map (length {A = List Feature}) (take k row.blocks)))) in
      let whole = s.whole in
      omega (arith, parts, whole, first_node)

  pub row_count : nodes_of row ≡ length (with_blocks v row.blocks).structure
  row_count =
      let all : sum (with_blocks v row.blocks).sizes ≡ sum v.sizes + sum_by length row.blocks =
      ap sum sizes ∙ (sum_by-append (λ x. x) v.sizes (map length row.blocks) ∙ ap (λ n. sum v.sizes + n) (sum-map (length {A = List Feature}) row.blocks)) in
      let whole = s.whole in
      let more = (blocks_shown v s row.blocks are).whole in
      omega (arith, all, whole, more, first_node)

  pub row_blocks : blocks_of row ≡ length (with_blocks v row.blocks).sizes
  row_blocks =
      let all = ap length sizes in
      let both = length-append v.sizes (map length row.blocks) in
      let few = length-map row.blocks (length {A = List Feature}) in
      omega (arith, all, both, few, first_block)

  push_shown : (block : List (List Feature)) → IsBlock block → OldIsHeld (with_blocks v row.blocks) block → IsShown (with_blocks v (row.blocks ++ block ∷ []))
  push_shown block b old = blocks_shown v s (row.blocks ++ block ∷ []) (are_push v row.blocks block are b old)

  pub in_row : (b k o : ℕ) → b ≡ length v.sizes + k → IsHeld (with_blocks v row.blocks) b o → IsInRow v row k b o
  in_row b k o e h =
      let has = row_has b k o e h in
      let node = row_node b k o e has in
      record { has = has; number = row_number b k o e; same = node.0; held = node.1 }

  -- with one block more, or as it was
  pub kept_row : (block : List (List Feature)) → IsBlock block → OldIsHeld (with_blocks v row.blocks) block → (new : Row) → (new ≡ appended row block) ⊎ (new ≡ row) → IsKeptRow v new
  kept_row block b old new (inl e) = subst (IsKeptRow v) (sym e) (record {
    first_block = first_block;
    first_node = first_node;
    blocks = are_push v row.blocks block are b old;
    lawful = push_shown block b old;
  })
  kept_row block b old new (inr e) =
      subst (IsKeptRow v) (sym e) (record { first_block = first_block; first_node = first_node; blocks = are; lawful = blocks_shown v s row.blocks are })

pub nothing_shown : IsShown nothing
nothing_shown = record {
  structure = record { distinct = λ n. tt; lower = λ n a x e. cc };
  whole = refl;
  rising = λ n k h. absurd (omega (arith, h));
}

-- an address is of what stands before the row: its node, the place and the arcs
pub record IsInBase (v : Shown) (blocks : List (List (List Feature))) (b o : ℕ) : Type 0 where
  pub held : IsHeld v b o
  pub number : number_of (with_blocks v blocks) b o ≡ number_of v b o
  pub node : (fs : List Feature) → arcs_from v b fs ≡ arcs_of v.structure (Node (number_of v b o)) → AllHeld v b fs
      → (arcs_from (with_blocks v blocks) b fs ≡ arcs_of (with_blocks v blocks).structure (Node (number_of (with_blocks v blocks) b o))) × AllHeld (with_blocks v blocks) b fs

module _ (v : Shown) (s : IsShown v) (blocks : List (List (List Feature))) (b o : ℕ) (inside : b < length v.sizes) where
  base_held : IsHeld (with_blocks v blocks) b o → IsHeld v b o
  base_held h = subst (λ n. o < n) (ap (λ xs. get_or xs b 0) (blocks_sizes v blocks) ∙ get_or_append_left v.sizes (map length blocks) 0 b inside) h

  base_number : number_of (with_blocks v blocks) b o ≡ number_of v b o
  base_number = same_number v (with_blocks v blocks) (blocks_extend v blocks) b o (omega (arith, inside))

  base_node : (fs : List Feature) → IsHeld v b o → arcs_from v b fs ≡ arcs_of v.structure (Node (number_of v b o)) → AllHeld v b fs
      → (arcs_from (with_blocks v blocks) b fs ≡ arcs_of (with_blocks v blocks).structure (Node (number_of (with_blocks v blocks) b o))) × AllHeld (with_blocks v blocks) b fs
  base_node fs h same held =
      let w = with_blocks v blocks in
      let e = blocks_extend v blocks in (
        same_arcs v w e b (omega (arith, inside)) fs (old_of_all v b fs held)
            ∙ (same ∙ (sym (same_node v w e (number_of v b o) (held_below v s b o h)) ∙ ap (λ n. get_or w.structure n []) (sym base_number))),
        still_all_held v w e b fs held,
      )

  pub in_base : IsHeld (with_blocks v blocks) b o → IsInBase v blocks b o
  in_base h = record { held = base_held h; number = base_number; node = λ fs. base_node fs (base_held h) }

pub empty_row : (b c n m : ℕ) → b ≡ c → n ≡ m → ◌≡◌ {A = Row} (record { first_block = b; first_node = n; blocks = [] }) (record { first_block = c; first_node = m; blocks = [] })
empty_row b c n m e f = λ i. record { first_block = e i; first_node = f i; blocks = [] }
