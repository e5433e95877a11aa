-- What holds of each member of a list.
use Rattle.std.proofs.Common.{◌≡◌, ℕ, List, [], ◌∷◌, ◌++◌, map, Some, slice_get, Contains}
use Rattle.std.specs.List.{AllByRecursion}
use Rattle.std.proofs.lemmas.Option.{slice_get_within, get_or_from_slice_get}
use Rattle.patr_lists.proofs.Alls.{all_append, all_map, all_flat}
use Rattle.patr_model.specs.Grammar.{Row, Rows, Done, One, OneOf, Optional, None', Or, products, variants, variants_of}

-- a member at a place is in the list
pub at_is_member : {X : Type 0} (xs : List X) (i : ℕ) (x : X) → slice_get xs i ≡ Some x → Contains xs x
at_is_member xs i x e = (i, slice_get_within xs i x e, get_or_from_slice_get xs i x x e)

-- what holds of nothing, and of two lists together, holds of a row's variants
module _ {A Y : Type 0} (P : List Y → Type 0) (nothing : P []) (both : (v w : List Y) → P v → P w → P (v ++ w)) (f : A → List (List Y)) (single : (a : A) → AllByRecursion P (f a)) where
  products_all : (vs ws : List (List Y)) → AllByRecursion P vs → AllByRecursion P ws → AllByRecursion P (products vs ws)
  products_all vs ws h k = all_flat P (λ v. map (λ w. v ++ w) ws) P (λ v p. all_map P (λ w. v ++ w) P (λ w q. both v w p q) ws k) vs h

  mutual
    pub variants_all : (r : Row A) → AllByRecursion P (variants f r)
    variants_all Done = (nothing, tt)
    variants_all (One x r) = products_all (f x) (variants f r) (single x) (variants_all r)
    variants_all (OneOf rs r) = products_all (variants_of f rs) (variants f r) (choices_all rs) (variants_all r)
    variants_all (Optional rs r) =
        products_all (variants_of f rs ++ [] ∷ []) (variants f r) (all_append P (variants_of f rs) ([] ∷ []) (choices_all rs) (nothing, tt)) (variants_all r)

    choices_all : (rs : Rows A) → AllByRecursion P (variants_of f rs)
    choices_all None' = tt
    choices_all (Or r rs) = all_append P (variants f r) (variants_of f rs) (variants_all r) (choices_all rs)
