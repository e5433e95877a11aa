-- The texts of symbols by a table.
use Rattle.std.proofs.Common.{◌≡◌, ℕ, zero, suc, ◌+◌, ◌≤◌, Bool, true, false, cond, List, [], ◌∷◌, length, slice_get, Option, Some, None, refl, ap, ◌∙◌, arith}
use Rattle.patr_model.specs.Bytes.{same_text}
use Rattle.patr_model.specs.Text.{Outline, Branches, Leaf, Again, Begun, Done, Branch, spelled, spelled_all}
use Rattle.patr_model.specs.Table.{total, zeros, text_or, table_text, table_look, table_number, IsTable, IsInTable, AllTexts, AllTextsOf}
use Rattle.patr_model.specs.Laws.{TextsDiffer}
use Rattle.patr_laws.specs.Tables.{TableGives}
use Rattle.patr_model.proofs.Maps.{some_inj}
use Rattle.patr_model.proofs.Canonical.{same_is, same_true}

length_zeros : (n : ℕ) → length (zeros n) ≡ n
length_zeros zero = refl
length_zeros (suc n) = ap suc (length_zeros n)

short : (table : List (List ℕ)) (i : ℕ) (t : List ℕ) → slice_get table i ≡ Some t → length t ≤ total table
short [] i t e = cc
short (u ∷ us) zero t e = let s = ap length (some_inj u t e) in omega (arith, s)
short (u ∷ us) (suc i) t e = omega (arith, short us i t e)

differ : (table : List (List ℕ)) (order : List ℕ) → IsTable table → TextsDiffer (table_look table order)
differ table order is a b e = go (slice_get table a) refl (slice_get table b) refl e
  where
    go : (o : Option (List ℕ)) → slice_get table a ≡ o → (u : Option (List ℕ)) → slice_get table b ≡ u → text_or o (zeros (suc (total table + a))) ≡ text_or u (zeros (suc (total table + b))) → a ≡ b
    go (Some t) p (Some r) q h = is a b r (p ∙ ap Some h) q
    go (Some t) p None q h = let s = ap length h in let z = length_zeros (suc (total table + b)) in absurd (omega (arith, short table a t p, s, z))
    go None p (Some r) q h = let s = ap length h in let z = length_zeros (suc (total table + a)) in absurd (omega (arith, short table b r q, s, z))
    go None p None q h = let s = ap length h in let y = length_zeros (suc (total table + a)) in let z = length_zeros (suc (total table + b)) in omega (arith, s, y, z)

number_at : (table : List (List ℕ)) (text : List ℕ) (i : ℕ) → slice_get table i ≡ Some text → slice_get table (table_number table text) ≡ Some text
number_at [] text i e = cc
number_at (t ∷ ts) text zero e =
    ap (λ b. slice_get (t ∷ ts) (cond b 0 (suc (table_number ts text)))) (ap (λ u. same_text u text) (some_inj t text e) ∙ same_true text) ∙ e
number_at (t ∷ ts) text (suc i) e = go (same_text t text) refl (number_at ts text i e)
  where
    go : (b : Bool) → same_text t text ≡ b → slice_get ts (table_number ts text) ≡ Some text → slice_get (t ∷ ts) (cond (same_text t text) 0 (suc (table_number ts text))) ≡ Some text
    go true q rest = ap (λ b. slice_get (t ∷ ts) (cond b 0 (suc (table_number ts text)))) q ∙ ap Some (same_is t text q)
    go false q rest = ap (λ b. slice_get (t ∷ ts) (cond b 0 (suc (table_number ts text)))) q ∙ rest

module _ (table : List (List ℕ)) where
  known : (text : List ℕ) → IsInTable table text → table_text table (table_number table text) ≡ text
  known text h = ap (λ o. text_or o (zeros (suc (total table + table_number table text)))) (number_at table text h.0 h.1)

  mutual
    known_all : (o : Outline (List ℕ)) → AllTexts (IsInTable table) o → spelled (table_text table) (spelled (table_number table) o) ≡ o
    known_all (Leaf c) h = ap Leaf (known c h)
    known_all (Again i) h = refl
    known_all (Begun i bs) h = ap (Begun i) (known_of bs h)

    known_of : (bs : Branches (List ℕ)) → AllTextsOf (IsInTable table) bs → spelled_all (table_text table) (spelled_all (table_number table) bs) ≡ bs
    known_of Done h = refl
    known_of (Branch a x bs) h =
        ap (λ t. Branch t (spelled (table_text table) (spelled (table_number table) x)) (spelled_all (table_text table) (spelled_all (table_number table) bs))) (known a h.0)
        ∙ (ap (λ o. Branch a o (spelled_all (table_text table) (spelled_all (table_number table) bs))) (known_all x h.1) ∙ ap (Branch a x) (known_of bs h.2))

pub gives : (table : List (List ℕ)) (order : List ℕ) → TableGives table order
gives table order = record { differ = differ table order; symbols = λ text h o e. known_all table o (h o e) }
