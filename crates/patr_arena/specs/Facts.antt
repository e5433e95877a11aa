-- The facts that arenas keep have one proof at most, so that they can stand in a ghost field.
use Rattle.std.specs.Prelude.{◌⊎◌, ℕ, List, [], ◌∷◌, slice_index_or, refl}
use mathlib.Core.Logic.{inl, inr}
use Rattle.std.specs.Coded.{Coded, Coded-set, code_by, coded⊎, coded_ℕ, coded_option, ×_prop, Unit-prop, le_prop}
use Rattle.patr_model.specs.Structure.{Value, Atom, Node, Arcs, Structure, HasDistinct, IsBelow, IsStructure}
use Rattle.patr_arena.specs.declared.value.Ref.{Ref}
use Rattle.patr_arena.specs.declared.value.Ref.TheVariants as ref
use Rattle.patr_arena.specs.declared.value.Feature.{Feature}
use Rattle.patr_arena.specs.Shown.{Shown, IsShown}
use Rattle.patr_arena.specs.Blocks.{AllBelow, AllOldHeld, AreBlocks, IsBlock, LeadsBelow, OldIsHeld, OldRefIsHeld, with_block}

LeadsBelow-prop : (offset : ℕ) (r : Ref) → IsProp (LeadsBelow offset r)
LeadsBelow-prop offset (ref.Atom c) = Unit-prop
LeadsBelow-prop offset (ref.Old at) = Unit-prop
LeadsBelow-prop offset (ref.New k) = le_prop

AllBelow-prop : (offset : ℕ) (fs : List Feature) → IsProp (AllBelow offset fs)
AllBelow-prop offset [] = Unit-prop
AllBelow-prop offset (f ∷ fs) = ×_prop (LeadsBelow-prop offset f.to) (AllBelow-prop offset fs)

OldRefIsHeld-prop : (v : Shown) (r : Ref) → IsProp (OldRefIsHeld v r)
OldRefIsHeld-prop v (ref.Atom c) = Unit-prop
OldRefIsHeld-prop v (ref.Old at) = le_prop
OldRefIsHeld-prop v (ref.New k) = Unit-prop

AllOldHeld-prop : (v : Shown) (fs : List Feature) → IsProp (AllOldHeld v fs)
AllOldHeld-prop v [] = Unit-prop
AllOldHeld-prop v (f ∷ fs) = ×_prop (OldRefIsHeld-prop v f.to) (AllOldHeld-prop v fs)

IsBlock-prop : (nodes : List (List Feature)) → IsProp (IsBlock nodes)
IsBlock-prop nodes = λ p q i. record {
  rising = λ n k h. le_prop (p.rising n k h) (q.rising n k h) i;
  below = λ n. AllBelow-prop n (slice_index_or nodes n []) (p.below n) (q.below n) i;
}

OldIsHeld-prop : (v : Shown) (nodes : List (List Feature)) → IsProp (OldIsHeld v nodes)
OldIsHeld-prop v nodes = λ p q i n. AllOldHeld-prop v (slice_index_or nodes n []) (p n) (q n) i

pub AreBlocks-prop : (v : Shown) (blocks : List (List (List Feature))) → IsProp (AreBlocks v blocks)
AreBlocks-prop v [] = Unit-prop
AreBlocks-prop v (nodes ∷ blocks) = λ p q i. (IsBlock-prop nodes p.0 q.0 i, OldIsHeld-prop v nodes p.1 q.1 i, AreBlocks-prop (with_block v nodes) blocks p.2 q.2 i)

value_code : Coded Value
value_code =
    code_by (ℕ ⊎ ℕ) (coded⊎ coded_ℕ coded_ℕ) (elim [ Atom c ↦ inl c | Node n ↦ inr n ]) (elim [ inl c ↦ Atom c | inr n ↦ Node n ]) (elim [ Atom c ↦ refl | Node n ↦ refl ])

HasDistinct-prop : (es : Arcs) → IsProp (HasDistinct es)
HasDistinct-prop [] = Unit-prop
HasDistinct-prop (e ∷ es) = ×_prop (Coded-set (coded_option value_code) _ _) (HasDistinct-prop es)

IsBelow-prop : (n : ℕ) (x : Value) → IsProp (IsBelow n x)
IsBelow-prop n (Atom c) = Unit-prop
IsBelow-prop n (Node k) = le_prop

IsStructure-prop : (S : Structure) → IsProp (IsStructure S)
IsStructure-prop S = λ p q i. record {
  distinct = λ n. HasDistinct-prop (slice_index_or S n []) (p.distinct n) (q.distinct n) i;
  lower = λ n a x e. IsBelow-prop n x (p.lower n a x e) (q.lower n a x e) i;
}

pub IsShown-prop : (v : Shown) → IsProp (IsShown v)
IsShown-prop v = λ p q i. record {
  structure = IsStructure-prop v.structure p.structure q.structure i;
  whole = Coded-set coded_ℕ _ _ p.whole q.whole i;
  rising = λ n k h. le_prop (p.rising n k h) (q.rising n k h) i;
}
