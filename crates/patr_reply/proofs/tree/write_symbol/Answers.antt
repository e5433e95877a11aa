use Rattle.std.proofs.Common.{◌++◌, sym, ap, ◌∙◌}
use Rattle.patr_reply.proofs.Names.{IfOk-weaker, printed, string_bytes}
use Rattle.patr_reply.proofs.TreeText.{text_of}
use Rattle.patr_reply.proofs.tree.write_symbol.Goals as goal

pub returns : goal.returns
returns c =
    IfOk-weaker c.write_printed.result _ _
    (λ _ h names agrees. h ∙ ap (λ t. string_bytes c.args.out.now ++ printed t) (sym (text_of names c.args.symbols.now agrees c.args.symbol.0 c.text.result.now c.text.ensures))) c.write_printed.ensures
