-- Which forms of the notations are built: each stage turns some on.
use Rattle.std.specs.Prelude.{Bool, true, false}

-- path equations; templates, options and disjunctions; lexical rules; parameters
pub record Stage : Type 0 where
  pub equations : Bool
  pub groups : Bool
  pub lexical_rules : Bool
  pub parameters : Bool

-- rules of symbols alone
abbrev pub plain_rules : Stage
plain_rules = record { equations = false; groups = false; lexical_rules = false; parameters = false }

-- with path equations
abbrev pub with_equations : Stage
with_equations = record { equations = true; groups = false; lexical_rules = false; parameters = false }

-- with templates, options and disjunctions too
abbrev pub with_groups : Stage
with_groups = record { equations = true; groups = true; lexical_rules = false; parameters = false }

-- with lexical rules too
abbrev pub with_lexical_rules : Stage
with_lexical_rules = record { equations = true; groups = true; lexical_rules = true; parameters = false }

-- all forms
abbrev pub whole : Stage
whole = record { equations = true; groups = true; lexical_rules = true; parameters = true }
