use Rattle.std.proofs.Common.{None, sym, ap, ◌∙◌}
use Rattle.std.specs.Prelude.{option_map}
use Rattle.patr_model.specs.CommandLine.{EndOfOptions, Opens, Holds, NoOption, Name, said}
use Rattle.patr_shell.specs.Words.{flag_seen, said_seen, said_then}
use Rattle.patr_shell.proofs.CommandLine.{said_word, value_then, name_then}
use Rattle.patr_shell.proofs.command_line.Said.take_by_kind.Goals as goal

pub returns-in-EndOfOptions : goal.returns-in-EndOfOptions
returns-in-EndOfOptions c = λ ws. ap (option_map (said_then (said_seen c.args.self.now))) (sym (said_word c.args.word.now ws EndOfOptions c.in-EndOfOptions.ensures))

pub returns-in-Opens : goal.returns-in-Opens
returns-in-Opens c = λ ws. ap (option_map (said_then (said_seen c.args.self.now))) (sym (said_word c.args.word.now ws (Opens (flag_seen c.in-Opens.flag)) c.in-Opens.ensures))

pub returns-in_ok-add_value-in-Holds : goal.returns-in_ok-add_value-in-Holds
returns-in_ok-add_value-in-Holds c = λ ws.
    let flag = flag_seen c.in-Holds.flag in
    let value = c.in-Holds.value.now in
    value_then (said_seen c.args.self.now) (said_seen c.add_value.new.self) flag value (said None ws) c.in_ok-add_value-in-Holds.ensures
    ∙ ap (option_map (said_then (said_seen c.args.self.now))) (sym (said_word c.args.word.now ws (Holds flag value) c.in-Holds.ensures))

pub returns-in-NoOption : goal.returns-in-NoOption
returns-in-NoOption c = λ ws. ap (option_map (said_then (said_seen c.args.self.now))) (sym (said_word c.args.word.now ws NoOption c.in-NoOption.ensures))

pub returns-in_ok-add_name-in-Name : goal.returns-in_ok-add_name-in-Name
returns-in_ok-add_name-in-Name c = λ ws.
    name_then (said_seen c.args.self.now) (said_seen c.add_name.new.self) c.args.word.now (said None ws) c.in_ok-add_name-in-Name.ensures
    ∙ ap (option_map (said_then (said_seen c.args.self.now))) (sym (said_word c.args.word.now ws Name c.in-Name.ensures))
