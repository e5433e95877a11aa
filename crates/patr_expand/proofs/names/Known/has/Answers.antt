use Rattle.std.proofs.Common.{◌≡◌, ◌∙◌, subst}
use Rattle.patr_expand.specs.Written.{Knows}
use Rattle.patr_expand.proofs.Unknown.{among_is}
use Rattle.patr_expand.proofs.names.Known.has.Goals as goal

pub returns-in-Among : goal.returns-in-Among
returns-in-Among c = λ ms h. c.is_among.ensures ∙ among_is ms c.in-Among.templates.now c.args.name (subst (Knows ms) c.in-Among.is h)
