-- Which symbols a least value has.
--     AreNamed test g               each attribute and each atom of the equations of g's variants passes the test
--     LeastValuesNameSymbols        so does each attribute and each atom of a least value
use Rattle.std.specs.Prelude.{◌≡◌, ℕ, Bool, true, List, Some}
use Rattle.std.specs.List.{AllByRecursion}
use Rattle.patr_model.specs.Structure.{Value, Atom, Structure, arc, at}
use Rattle.patr_model.specs.Equation.{Term, AtomOf, PathOf, Equation}
use Rattle.patr_model.specs.Derivation.{Rules, RuleVariant, EntryVariant, Derivation, rule_variant, entry_variant, IsComplete}
use Rattle.patr_model.specs.Solution.{IsLeastValue}

module _ (test : ℕ → Bool) where
  -- each symbol of the list passes
  abbrev pub AllPass : List ℕ → Type 0
  AllPass ss = AllByRecursion (λ s. test s ≡ true) ss

  -- the atom, or the attributes of the path, pass
  abbrev pub TermPasses : Term → Type 0
  TermPasses (AtomOf c) = test c ≡ true
  TermPasses (PathOf q) = AllPass q.path

  -- the attributes and the atom of an equation pass
  abbrev pub Passes : Equation → Type 0
  Passes e = AllPass e.left.path × TermPasses e.right

  -- each attribute and each atom of the variants' equations passes
  pub record AreNamed (g : Rules) : Type 0 where
    pub rules : (r k : ℕ) (rule : RuleVariant) → rule_variant g r k ≡ Some rule → AllByRecursion Passes rule.equations
    pub entries : (e k : ℕ) (entry : EntryVariant) → entry_variant g e k ≡ Some entry → AllByRecursion Passes entry.equations
    pub chains : (e k : ℕ) (entry : EntryVariant) → entry_variant g e k ≡ Some entry → AllByRecursion (AllByRecursion Passes) entry.chain

  -- each atom and attribute that paths from the value lead to passes
  pub record HasNamed (S : Structure) (v : Value) : Type 0 where
    pub atoms : (p : List ℕ) (c : ℕ) → at S v p ≡ Some (Atom c) → test c ≡ true
    pub attributes : (p : List ℕ) (x : Value) (a : ℕ) (y : Value) → at S v p ≡ Some x → arc S x a ≡ Some y → test a ≡ true

-- a complete derivation's least value has no other attributes and atoms than those that the equations name
abbrev pub LeastValuesNameSymbols : Type 0
LeastValuesNameSymbols = (test : ℕ → Bool) (g : Rules) (t : Derivation) (M : Structure) (m : Value) → AreNamed test g → IsComplete g t → IsLeastValue g t M m → HasNamed test M m
