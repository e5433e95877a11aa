use Rattle.std.proofs.Common.{◌≡◌, refl}
use Rattle.patr_shell.specs.declared.command.Command.TheVariants.{Show, Quit}
use Rattle.patr_shell.proofs.answer.command_answer.Goals as goal

pub returns-in_ok-show-in-Show-clause-answer : goal.returns-in_ok-show-in-Show-clause-answer
returns-in_ok-show-in-Show-clause-answer c =
    let shown = rw (c.symbols.ensures.texts, c.library.ensures) at c.in_ok-show-in-Show.ensures in
    rw c.in-Show.is ((λ q. let no : Show c.in-Show.word ≡ Quit = q in cc), λ N agrees. (shown N agrees, refl))
