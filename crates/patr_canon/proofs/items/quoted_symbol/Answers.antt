use Rattle.std.proofs.Common.{◌<◌, length, false, arith, ap, ◌∙◌}
use Rattle.std.specs.String.{string_bytes}
use Rattle.patr_canon.specs.Fronts.{unquoted_front}
use Rattle.patr_canon.proofs.ItemFronts.{quoted_shorter}
use Rattle.patr_canon.proofs.items.quoted_symbol.Goals as goal

pub returns-clause-further : goal.returns-clause-further
returns-clause-further c =
    let text = string_bytes c.unquote.new.out in
    let shorter : length c.in-Some.rest.now < length c.args.text.now =
    quoted_shorter c.args.text.now false (record { it = text; rest = c.in-Some.rest.now }) (c.in_ok-rest.ensures ∙ ap (unquoted_front text) c.in-Some.is) in
    (shorter, omega (arith, shorter, c.number_of.ensures.limit))
