-- Members of lists, by their places.
use Rattle.std.proofs.Common.{◌≡◌, List, ◌∷◌, ◌++◌, sym, subst}
use Rattle.std.specs.List.{AllByRecursion}
use Rattle.patr_lists.proofs.Alls.{all_right}

pub among : {X : Type 0} (P : X → Type 0) (ys zs : List X) (x : X) (all : List X) → ys ++ x ∷ zs ≡ all → AllByRecursion P all → P x
among P ys zs x all is h = (all_right P ys (x ∷ zs) (subst (AllByRecursion P) (sym is) h)).0
