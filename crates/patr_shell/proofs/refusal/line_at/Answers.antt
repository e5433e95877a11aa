use Rattle.std.proofs.Common.{◌≡◌, ◌++◌, codes, rules, append_assoc}
use Rattle.std.specs.Prelude.{decimal, string_bytes}
use Rattle.patr_shell.proofs.refusal.line_at.Goals as goal

pub returns : goal.returns
returns c =
    let begun : string_bytes c.in_ok-begun.begun ≡ codes "error: " ++ c.args.file.now ++ codes " " ++ decimal c.args.line = search (rules, append_assoc) in
    rw begun at c.line_on.ensures
