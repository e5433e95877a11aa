-- Whole analyses by their categories.
use Rattle.std.proofs.Common.{◌≡◌, ℕ, List, [], ◌∷◌, Some, option_and_then, sym, ap, ◌∙◌, subst}
use Rattle.patr_model.specs.Structure.{Value, Atom, Structure, at}
use Rattle.patr_model.specs.Category.{atom_of}
use Rattle.patr_model.specs.Derivation.{Rules, Derivation, IsComplete}
use Rattle.patr_model.specs.Solution.{Solves, IsLeastValue}
use Rattle.patr_model.specs.Chart.{IsDerivation}
use Rattle.patr_model.specs.Solved.{HasStart}
use Rattle.patr_model.specs.Plain.{category_of}
use Rattle.patr_model.specs.Builds.{HasCategories, HasNoChains, SolvedGoByCategory}
use Rattle.patr_model.proofs.Maps.{some_inj, carries}
use Rattle.patr_model.proofs.Steps.{first_slot}
use Rattle.patr_model.proofs.PlainSolved.{complete_has, solved_plain}

module _ (g : Rules) (cat : ℕ) (has : HasCategories g cat) (chains : HasNoChains g) (ws : List ℕ) (t : Derivation) (d : IsDerivation g ws t) (full : IsComplete g t) where
  -- the category of a least value
  least_has : (M : Structure) (m : Value) → IsLeastValue g t M m → (c : ℕ) × (category_of g t ≡ Some c) × (at M m (cat ∷ []) ≡ Some (Atom c))
  least_has M m least =
      let s = least.solution in
      let split = first_slot s.2.slots s.1 (s.2.value.complete full) in
      let c = complete_has g cat has chains ws t d full s.0 s.1 split.0 (subst (λ us. Solves g t s.0 us) split.1 s.2.solves) in
      let far = carries s.0 M s.3.0.by s.3.0.is_map (cat ∷ []) s.1 m s.3.0.root (Atom c.0) c.2 in
      (c.0, c.1, far.2 ∙ sym far.1)

  has_start : HasStart g cat t → category_of g t ≡ Some g.start
  has_start w =
      let c = least_has w.0 w.1 w.2 in
      let same : Some c.0 ≡ Some g.start = ap (option_and_then atom_of) (sym c.2 ∙ w.3) in
      c.1 ∙ same

  starts : (M : Structure) (m : Value) → IsLeastValue g t M m → category_of g t ≡ Some g.start → HasStart g cat t
  starts M m least e =
      let c = least_has M m least in
      let same : c.0 ≡ g.start = some_inj c.0 g.start (sym c.1 ∙ e) in
      (M, m, least, c.2 ∙ ap (λ x. Some (Atom x)) same)

pub solved_go_by_category : SolvedGoByCategory
solved_go_by_category = record {
  daughters = λ g cat has chains ws t d s. solved_plain g cat has chains ws t d s.0 s.2.slots s.2.solves;
  whole = λ g cat has chains ws t d full M m least. (has_start g cat has chains ws t d full, starts g cat has chains ws t d full M m least);
}
