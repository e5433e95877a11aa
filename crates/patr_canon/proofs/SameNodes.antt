-- Nodes whose arcs stand in another order are the same structure.
use Rattle.std.proofs.Common.{◌≡◌, ℕ, zero, suc, ◌+◌, ◌<◌, List, [], ◌∷◌, map, length, slice_get, Option, Some, None, Vec, refl, sym, ap, ◌∙◌, arith}
use Rattle.std.proofs.lemmas.Option.{slice_get-get_or}
use Rattle.patr_canon.proofs.Names.{All-from_recursion, All-permutation, AllByRecursion, Arcs, ArcsAreBelow, AreMoved, Atom, Feature, GiveOneText, Global, HasDistinct, IsLookOf, IsRefBelow, IsStructure, IsValue, Link, Look, Node, NodeIsBelow, NodesAreBelow, OfSymbols, OfValue, Structure, Target, Value, arc, arcs_from, arcs_of, feature_seen, length-map, links_seen, nodes_seen, nothing, recursion_from_All, ref_seen, table_look, target_seen, text_or, total, zeros}
use Rattle.patr_model.proofs.Maps.{maps_into_itself}
use Rattle.patr_model.specs.Subsumption.{MapsInto}
use Rattle.patr_canon.specs.declared.reader.Target.TheVariants as target
use Rattle.patr_canon.proofs.Renumbered.{moved_arcs}
use Rattle.patr_canon.proofs.Orders.{moved_along}
use Rattle.patr_canon.proofs.Spelled.{nodes_below}

-- ---- arcs that lead where others lead

pub one_way : (S G : Structure) → IsStructure S → length S ≡ length G → ((n a : ℕ) → arc S (Node n) a ≡ arc G (Node n) a) → (v : Value) → IsValue S v → MapsInto S v G v
one_way S G s len same v h = maps_into_itself S G v s (omega (arith, len)) (λ n a x lt e. sym (same n a) ∙ e) h

-- ---- the block of nodes

pub moved_all : (nodes : List (Vec Link Global)) (block : List (List Feature)) → AreMoved nodes block → ((n : ℕ) → HasDistinct (arcs_of (nodes_seen nodes) (Node n)))
    → (n a : ℕ) → arc (nodes_seen nodes) (Node n) a ≡ arc (map (arcs_from nothing 0) block) (Node n) a
moved_all [] [] h d n a = refl
moved_all [] (fs ∷ block) h d n a = absurd h
moved_all (v ∷ nodes) [] h d n a = absurd h
moved_all (v ∷ nodes) (fs ∷ block) h d zero a = sym (moved_along (links_seen v.items) (arcs_from nothing 0 fs) (moved_arcs v.items fs h.0) (d 0) a)
moved_all (v ∷ nodes) (fs ∷ block) h d (suc n) a = moved_all nodes block h.1 (λ m. d (suc m)) n a

pub so_many : (nodes : List (Vec Link Global)) (block : List (List Feature)) → length block ≡ length nodes → length (nodes_seen nodes) ≡ length (map (arcs_from nothing 0) block)
so_many nodes block h = let a : length (nodes_seen nodes) ≡ length nodes = simp length-map in let b : length (map (arcs_from nothing 0) block) ≡ length block = simp length-map in a ∙ (sym h ∙ sym b)

-- ---- symbols

pub ref_below : (n : ℕ) (t : Target) → OfValue (λ c. c < n) (target_seen t) → IsRefBelow n (ref_seen t)
ref_below n (target.Atom c) h = h
ref_below n (target.Node k) h = tt

features_below : (n : ℕ) (links : List Link) → ArcsAreBelow n (links_seen links) → NodeIsBelow n (map feature_seen links)
features_below n [] h = tt
features_below n (a ∷ links) h = ((h.0.0, ref_below n a.to h.0.1), features_below n links h.1)

pub moved_below : (n : ℕ) (nodes : List (Vec Link Global)) (block : List (List Feature)) → AreMoved nodes block → AllByRecursion (ArcsAreBelow n) (nodes_seen nodes) → NodesAreBelow n block
moved_below n [] [] h k = tt
moved_below n [] (fs ∷ block) h k = absurd h
moved_below n (v ∷ nodes) [] h k = absurd h
moved_below n (v ∷ nodes) (fs ∷ block) h k = (
  recursion_from_All (λ (f : Feature). (f.attribute.0 < n) × IsRefBelow n f.to) fs
      (All-permutation (λ (f : Feature). (f.attribute.0 < n) × IsRefBelow n f.to) (map feature_seen v.items) fs h.0
      (All-from_recursion (λ (f : Feature). (f.attribute.0 < n) × IsRefBelow n f.to) (map feature_seen v.items) (features_below n v.items k.0))),
  moved_below n nodes block h.1 k.1,
)

-- a Look of the table gives the table's symbols the table's texts
one_text : (table : List (List ℕ)) (order : List ℕ) (l : Look) → IsLookOf table l → (c : ℕ) → c < length table → GiveOneText l (table_look table order) c
one_text table order l is c lt = go (slice_get table c) refl
  where
    go : (o : Option (List ℕ)) → slice_get table c ≡ o → l.text c ≡ text_or (slice_get table c) (zeros (suc (total table + c)))
    go None e = let bad = sym e ∙ slice_get-get_or table c [] lt in cc
    go (Some t) e = is.texts c t e ∙ sym (ap (λ o. text_or o (zeros (suc (total table + c)))) e)

module _ (table : List (List ℕ)) (order : List ℕ) (l : Look) (is : IsLookOf table l) where
  of_value : (x : Value) → OfValue (λ c. c < length table) x → OfValue (GiveOneText l (table_look table order)) x
  of_value (Atom c) h = one_text table order l is c h
  of_value (Node k) h = tt

  of_arcs : (es : Arcs) → AllByRecursion (λ e. (e.attribute < length table) × OfValue (λ c. c < length table) e.to) es
      → AllByRecursion (λ e. GiveOneText l (table_look table order) e.attribute × OfValue (GiveOneText l (table_look table order)) e.to) es
  of_arcs [] h = tt
  of_arcs (e ∷ es) h = ((one_text table order l is e.attribute h.0.0, of_value e.to h.0.1), of_arcs es h.1)

  pub of_block : (block : List (List Feature)) (v : Value) → NodesAreBelow (length table) block → OfValue (λ c. c < length table) v → OfSymbols (GiveOneText l (table_look table order)) (map (arcs_from nothing 0) block) v
  of_block block v own root = (of_value v root, λ n. of_arcs (arcs_of (map (arcs_from nothing 0) block) (Node n)) (nodes_below (length table) block own n))
