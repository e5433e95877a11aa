-- What the names stand for of templates that were looked through.
use Rattle.std.specs.Prelude.{List}
use Rattle.patr_model.specs.Build.{Meaning}
use Rattle.patr_text.specs.declared.symbols.Id.{Id}
use Rattle.patr_expand.specs.declared.templates.Templates.{Templates}
use Rattle.patr_expand.specs.Seen.{meant}

-- what the names of these templates stand for
abbrev pub meant_by : Templates → List (Meaning Id)
meant_by t = meant t.templates.now
