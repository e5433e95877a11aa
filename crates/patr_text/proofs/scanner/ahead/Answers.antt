use Rattle.std.proofs.Common.{ap, ◌∙◌, arith}
use Rattle.patr_model.specs.Tokens.{front}
use Rattle.patr_text.proofs.Scanning.{cut_is, fits_ahead}
use Rattle.patr_text.proofs.scanner.ahead.Goals as goal

pub returns-clause-front : goal.returns-clause-front
returns-clause-front c =
    c.front_of.ensures ∙ ap front (cut_is c.args.text.now c.as_bytes.result.now c.args.at c.args.end c.as_bytes.ensures.value (omega (arith, c.requires.within)))

pub returns-clause-fits : goal.returns-clause-fits
returns-clause-fits c =
    fits_ahead c.args.text.now c.args.at c.args.end c.front_of.result c.utf8.text c.requires.within c.requires.end
    (c.front_of.ensures ∙ ap front (cut_is c.args.text.now c.as_bytes.result.now c.args.at c.args.end c.as_bytes.ensures.value (omega (arith, c.requires.within))))
