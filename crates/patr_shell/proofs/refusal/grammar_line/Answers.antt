use Rattle.std.proofs.Common.{◌∙◌, ap, sym}
use Rattle.std.proofs.lemmas.Result.{IfOk-weaker}
use Rattle.patr_model.specs.GrammarText.{grammar_fault_line}
use Rattle.patr_shell.proofs.refusal.grammar_line.Goals as goal

pub returns-in-TwiceNamed : goal.returns-in-TwiceNamed
returns-in-TwiceNamed c = λ f h.
    let k = rw c.in-TwiceNamed.is at h in
    IfOk-weaker c.name_line.result _ _ (λ text e. e ∙ ap grammar_fault_line (sym k.2)) (c.name_line.ensures k.0 k.1)

pub returns-in-LaterForm : goal.returns-in-LaterForm
returns-in-LaterForm c = λ f h.
    let k = rw c.in-LaterForm.is at h in
    IfOk-weaker c.line_at_place-in-LaterForm.result _ _ (λ text e. e ∙ ap grammar_fault_line (sym k)) c.line_at_place-in-LaterForm.ensures
