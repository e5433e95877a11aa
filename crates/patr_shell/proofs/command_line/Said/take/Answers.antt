use Rattle.std.proofs.Common.{◌∷◌, None, sym, ap, ◌∙◌}
use Rattle.std.specs.Prelude.{option_map}
use Rattle.patr_shell.proofs.Names.{said, flag_seen, said_seen, said_then, said_from}
use Rattle.patr_shell.proofs.CommandLine.{said_value, value_then}
use Rattle.patr_shell.proofs.command_line.Said.take.Goals as goal

pub returns-in_ok-add_value-in-Value : goal.returns-in_ok-add_value-in-Value
returns-in_ok-add_value-in-Value c = λ ws.
    let flag = flag_seen c.in-Value.flag in
    value_then (said_seen c.args.self.now) (said_seen c.add_value.new.self) flag c.args.word.now (said None ws) c.in_ok-add_value-in-Value.ensures
    ∙ ap (option_map (said_then (said_seen c.args.self.now))) (sym (said_value flag c.args.word.now ws) ∙ ap (λ next. said_from next (c.args.word.now ∷ ws)) (sym c.in-Value.is))
