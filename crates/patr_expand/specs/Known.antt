-- What is known of the templates of a grammar that was looked through.
use Rattle.std.specs.Prelude.{◌≡◌, ℕ, List, map, false, is_some, get_or, []}
use Rattle.std.specs.Coded.{Coded-set, coded_ℕ, coded_list, coded_bool}
use Rattle.patr_model.specs.Build.{Meaning, templates_fault}
use Rattle.patr_grammar.specs.declared.grammar.Template.{Template}
use Rattle.patr_grammar.specs.Reading.{template_seen}
use Rattle.patr_expand.specs.declared.measured.Measured.{Measured}
use Rattle.patr_expand.specs.Seen.{same, meant}
use Rattle.patr_expand.specs.Written.{IsMeasured}

-- no name in the templates is unknown, and they are found by their names, and their sizes by their numbers
pub record IsKnown (ts : List Template) (m : Measured) : Type 0 where
  pub faultless : is_some (templates_fault same (map template_seen ts)) ≡ false
  pub measured : IsMeasured (meant ts) m

numbers_set : (xs ys : List ℕ) → IsProp (xs ≡ ys)
numbers_set xs ys = Coded-set (coded_list coded_ℕ) xs ys

pub IsKnown-prop : (ts : List Template) (m : Measured) → IsProp (IsKnown ts m)
IsKnown-prop ts m = λ p q i. record {
  faultless = Coded-set coded_bool _ _ p.faultless q.faultless i;
  measured = record {
    names = λ w. numbers_set _ _ (p.measured.names w) (q.measured.names w) i;
    variants = numbers_set _ _ p.measured.variants q.measured.variants i;
    equations = numbers_set _ _ p.measured.equations q.measured.equations i;
  };
}
