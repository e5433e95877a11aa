use Rattle.std.proofs.lemmas.Str.Pattern.{strip_prefix_char}
use Rattle.patr_canon.proofs.Fronts.{behind_is}
use Rattle.patr_canon.proofs.front.behind.Goals as goal

pub returns : goal.returns
returns c =
    record { rest = behind_is c.args.character c.args.text.now c.strip_prefix.result (strip_prefix_char c.args.character c.args.text.now c.strip_prefix.result c.strip_prefix.ensures.cases c.requires) }
