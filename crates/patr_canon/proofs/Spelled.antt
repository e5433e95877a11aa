-- Values whose symbols have texts.
use Rattle.std.proofs.Common.{◌≡◌, ℕ, zero, suc, ◌<◌, ◌≤◌, Bool, true, false, cond, nat_eq, eqb-true, List, [], ◌∷◌, map, Option, Some, None, option_and_then, refl, subst, arith}
use Rattle.patr_lists.proofs.Alls.{all_map}
use Rattle.patr_canon.proofs.Names.{AllByRecursion, AllOldHeld, Arcs, AreSpelled, Atom, Feature, IsRefBelow, Node, NodeIsBelow, NodesAreBelow, OfValue, OldIsHeld, OldRefIsHeld, Ref, Shown, Structure, Value, along, arc, arc_from, arcs_from, arcs_of, at, nothing, ref_of, some_inj, with_block}
use Rattle.patr_arena.specs.declared.value.Ref.TheVariants as ref

arc_all : (P : ℕ → Type 0) (es : Arcs) (a : ℕ) (x : Value) → AllByRecursion (λ e. P e.attribute × OfValue P e.to) es → along es a ≡ Some x → P a × OfValue P x
arc_all P [] a x h e = cc
arc_all P (f ∷ es) a x h e = go (nat_eq f.attribute a) refl e (arc_all P es a x h.1)
  where
    go : (b : Bool) → nat_eq f.attribute a ≡ b → cond b (Some f.to) (along es a) ≡ Some x → (along es a ≡ Some x → P a × OfValue P x) → P a × OfValue P x
    go true q k rest = (subst P (eqb-true f.attribute a q) h.0.0, subst (OfValue P) (some_inj f.to x k) h.0.1)
    go false q k rest = rest k

-- all symbols of a structure
module _ (n : ℕ) (S : Structure) (all : (k : ℕ) → AllByRecursion (λ e. (e.attribute < n) × OfValue (λ c. c < n) e.to) (arcs_of S (Node k))) where
  along_path : (v : Value) (p : List ℕ) (x : Value) → OfValue (λ c. c < n) v → at S v p ≡ Some x → OfValue (λ c. c < n) x
  along_path v [] x h e = subst (OfValue (λ c. c < n)) (some_inj v x e) h
  along_path v (a ∷ p) x h e = go v (arc S v a) refl e (λ y k. along_path y p x k)
    where
      go : (u : Value) (o : Option Value) → arc S u a ≡ o → option_and_then (λ y. at S y p) o ≡ Some x → ((y : Value) → OfValue (λ c. c < n) y → at S y p ≡ Some x → OfValue (λ c. c < n) x) → OfValue (λ c. c < n) x
      go u None q k rest = cc
      go (Atom c) (Some y) q k rest = cc
      go (Node m) (Some y) q k rest = rest y (arc_all (λ c. c < n) (arcs_of S (Node m)) a y (all m) q).1 k

  pub all_spelled : (v : Value) → OfValue (λ c. c < n) v → AreSpelled n S v
  all_spelled v h = record {
    atoms = λ p c e. along_path v p (Atom c) h e;
    attributes = λ p x a y e q. first x a y q;
  }
    where
      first : (x : Value) (a : ℕ) (y : Value) → arc S x a ≡ Some y → a < n
      first (Atom c) a y q = cc
      first (Node m) a y q = (arc_all (λ c. c < n) (arcs_of S (Node m)) a y (all m) q).0

pub spelled_more : (n m : ℕ) (S : Structure) (v : Value) → n ≤ m → AreSpelled n S v → AreSpelled m S v
spelled_more n m S v le h = record { atoms = λ p c e. (let lt = h.atoms p c e in omega (arith, lt, le)); attributes = λ p x a y e q. (let lt = h.attributes p x a y e q in omega (arith, lt, le)) }

-- the symbols of a block's nodes
refs_below : (n : ℕ) (r : Ref) → IsRefBelow n r → OfValue (λ c. c < n) (ref_of nothing 0 r)
refs_below n (ref.Atom c) h = h
refs_below n (ref.Old at) h = absurd h
refs_below n (ref.New k) h = tt

node_below : (n : ℕ) (fs : List Feature) → NodeIsBelow n fs → AllByRecursion (λ e. (e.attribute < n) × OfValue (λ c. c < n) e.to) (arcs_from nothing 0 fs)
node_below n fs h = all_map (λ e. (e.attribute < n) × OfValue (λ c. c < n) e.to) (arc_from nothing 0) (λ (f : Feature). (f.attribute.0 < n) × IsRefBelow n f.to) (λ f k. (k.0, refs_below n f.to k.1)) fs h

pub nodes_below : (n : ℕ) (nodes : List (List Feature)) → NodesAreBelow n nodes → (k : ℕ) → AllByRecursion (λ e. (e.attribute < n) × OfValue (λ c. c < n) e.to) (arcs_of (map (arcs_from nothing 0) nodes) (Node k))
nodes_below n [] h k = tt
nodes_below n (fs ∷ nodes) h zero = node_below n fs h.0
nodes_below n (fs ∷ nodes) h (suc k) = nodes_below n nodes h.1 k

-- a block alone, whose attributes and atoms have texts
pub block_spelled : (n : ℕ) (nodes : List (List Feature)) → NodesAreBelow n nodes → (v : Value) → OfValue (λ c. c < n) v → AreSpelled n (with_block nothing nodes).structure v
block_spelled n nodes h v k = all_spelled n (map (arcs_from nothing 0) nodes) (nodes_below n nodes h) v k

-- and no old address
arcs_own : (n : ℕ) (v : Shown) (fs : List Feature) → NodeIsBelow n fs → AllOldHeld v fs
arcs_own n v [] h = tt
arcs_own n v (f ∷ fs) h = (own f.to h.0.1, arcs_own n v fs h.1)
  where
    own : (r : Ref) → IsRefBelow n r → OldRefIsHeld v r
    own (ref.Atom c) k = tt
    own (ref.Old at) k = absurd k
    own (ref.New i) k = tt

pub nodes_own : (n : ℕ) (nodes : List (List Feature)) → NodesAreBelow n nodes → (v : Shown) → OldIsHeld v nodes
nodes_own n [] h v k = tt
nodes_own n (fs ∷ nodes) h v zero = arcs_own n v fs h.0
nodes_own n (fs ∷ nodes) h v (suc k) = nodes_own n nodes h.1 v k
