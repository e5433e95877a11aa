use Rattle.std.proofs.Common.{◌∙◌, ℕ, List, map, Bor, ap}
use Rattle.patr_shell.proofs.Names.{value_or, named, setup_seen, said_seen}
use Rattle.patr_shell.proofs.CommandLine.{setup_of_values}
use Rattle.patr_shell.proofs.command_line.Said.setup.Goals as goal

pub returns-clause-setup : goal.returns-clause-setup
returns-clause-setup c =
    let now : List (Bor (List ℕ)) → List (List ℕ) = λ l. map (λ (w : Bor (List ℕ)). w.now) l in
    setup_of_values (said_seen c.args.self.now) c.in_ok-value_or.field-0 c.in_ok-limit.limit (setup_seen c.named.result)
    (c.in_ok-value_or.ensures ∙ ap (λ l. value_or 16 1 (now l)) c.deref.ensures.value)
    (c.in_ok-limit.ensures ∙ ap (λ l. value_or 200000 20000 (now l)) c.deref-2.ensures.value)
    (c.named.ensures ∙ ap (λ l. named (now l) c.in_ok-limit.limit) c.deref-3.ensures.value)
