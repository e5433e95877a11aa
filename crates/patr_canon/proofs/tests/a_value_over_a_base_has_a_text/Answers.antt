use Rattle.std.proofs.Common.{ℕ, zero, suc, ◌<◌, ◌∷◌, [], List, length, lit<, sym, ap, subst, ◌∙◌, arith}
use Rattle.patr_canon.proofs.Names.{AllByRecursion, AreSpelled, Feature, Node, OfValue, Shown, arcs_of, nothing, number_of, with_block}
use Rattle.patr_arena.specs.declared.value.Ref.TheVariants as ref
use Rattle.patr_canon.proofs.Spelled.{all_spelled, spelled_more}
use Rattle.patr_canon.proofs.tests.a_value_over_a_base_has_a_text.Goals as goal

abbrev below : List Feature
below = record { attribute = record { 0 = 39 }; to = ref.Atom (record { 0 = 41 }) } ∷ []

abbrev above : List Feature
above = record { attribute = record { 0 = 38 }; to = ref.Old (record { block = 0; offset = 0 }) } ∷ []

abbrev shown : Shown
shown = with_block (with_block nothing (below ∷ [])) (above ∷ [])

all : (k : ℕ) → AllByRecursion (λ e. (e.attribute < 44) × OfValue (λ c. c < 44) e.to) (arcs_of shown.structure (Node k))
all zero = ((lit< tt, lit< tt), tt)
all (suc zero) = ((lit< tt, tt), tt)
all (suc (suc k)) = tt

pub canonical-requires-clause-spelled : goal.canonical-requires-clause-spelled
canonical-requires-clause-spelled g c =
    let is = c.of-view.ensures ∙ (c.in_ok-push_over.ensures ∙ ap (λ (u : Shown). with_block u (above ∷ [])) (c.over-arena.ensures ∙ c.in_ok-base.ensures)) in
    subst (λ (u : Shown). AreSpelled (length c.in_ok-symbols.symbols) u.structure (Node (number_of u 1 0))) (sym is)
    (spelled_more 44 (length c.in_ok-symbols.symbols) shown.structure (Node 1) (omega arith) (all_spelled 44 shown.structure all (Node 1) tt))
