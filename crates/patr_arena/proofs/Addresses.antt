-- Addresses and values that are held.
use Rattle.std.proofs.Common.{◌≡◌, ℕ, sym, ap, arith}
use Rattle.patr_model.specs.Structure as structure
use Rattle.patr_model.specs.Structure.{IsValue}
use Rattle.patr_arena.specs.declared.value.Addr.{Addr}
use Rattle.patr_arena.specs.declared.value.Value.{Value}
use Rattle.patr_arena.specs.declared.value.Value.TheVariants as value
use Rattle.patr_arena.specs.Shown.{Shown, IsShown, IsHeld, ValueIsHeld, number_of, value_of}
use Rattle.patr_arena.proofs.Showing.{held_below}
use Rattle.patr_arena.proofs.Sizes.{place_tells_block}

-- a held address is told by its place
pub address_tells : (v : Shown) (a b : Addr) → IsHeld v a.block a.offset → IsHeld v b.block b.offset → number_of v a.block a.offset ≡ number_of v b.block b.offset → a ≡ b
address_tells v a b h k e = λ i. record { block = block i; offset = offset i }
  where
    block : a.block ≡ b.block
    block = place_tells_block v.sizes a.block a.offset b.block b.offset h k e

    offset : a.offset ≡ b.offset
    offset = let same = ap (λ n. number_of v n b.offset) block in omega (arith, e, same)

-- a held value is told by what it stands for
pub value_tells : (v : Shown) (x y : Value) → ValueIsHeld v x → ValueIsHeld v y → value_of v x ≡ value_of v y → x ≡ y
value_tells v (value.Atom c) (value.Atom d) h k e = let same = atom_inside c.0 d.0 e in λ i. value.Atom (record { 0 = same i })
  where
    atom_inside : (c d : ℕ) → structure.Atom c ≡ structure.Atom d → c ≡ d
    atom_inside c d e = cc
value_tells v (value.Atom c) (value.Node a) h k e = absurd (apart c.0 (number_of v a.block a.offset) e)
  where
    apart : (c n : ℕ) → structure.Atom c ≡ structure.Node n → ⊥
    apart c n e = cc
value_tells v (value.Node a) (value.Atom c) h k e = absurd (apart c.0 (number_of v a.block a.offset) (sym e))
  where
    apart : (c n : ℕ) → structure.Atom c ≡ structure.Node n → ⊥
    apart c n e = cc
value_tells v (value.Node a) (value.Node b) h k e = ap value.Node (address_tells v a b h k (node_inside (number_of v a.block a.offset) (number_of v b.block b.offset) e))
  where
    node_inside : (n m : ℕ) → structure.Node n ≡ structure.Node m → n ≡ m
    node_inside n m e = cc

pub value_below : (v : Shown) → IsShown v → (x : Value) → ValueIsHeld v x → IsValue v.structure (value_of v x)
value_below v s (value.Atom c) h = tt
value_below v s (value.Node a) h = held_below v s a.block a.offset h
