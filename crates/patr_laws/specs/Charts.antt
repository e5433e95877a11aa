-- The closed chart by licensed lists.
use Rattle.std.specs.Prelude.{ℕ, List}
use Rattle.patr_lists.specs.Members.{IsIn}
use Rattle.patr_model.specs.Derivation.{Rules, Derivation}
use Rattle.patr_model.specs.Chart.{Judgement, InChart, IsLicensed}
use Rattle.patr_model.specs.Plain.{plain}
use Rattle.patr_model.specs.Solved.{solved}

-- the closed chart has the edges that stand in some licensed list
pub record IsLicensedSet (j : Judgement) (g : Rules) (ws : List ℕ) (t : Derivation) : Type 0 where
  pub has_list : InChart j g ws t → (ts : List Derivation) × IsLicensed j g ws ts × IsIn ts t
  pub in_list : (ts : List Derivation) → IsLicensed j g ws ts → IsIn ts t → InChart j g ws t

-- the edges of the closed chart, plain or by solutions, are those that stand in licensed lists
pub record ChartIsLicensed : Type 0 where
  pub of_solved : (g : Rules) (cat : ℕ) (ws : List ℕ) (t : Derivation)
      → IsLicensedSet (solved g cat) g ws t
  pub of_plain : (g : Rules) (ws : List ℕ) (t : Derivation) → IsLicensedSet (plain g) g ws t
