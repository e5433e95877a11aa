use Rattle.std.proofs.Common.{◌≡◌, ◌++◌, codes, rules, append_assoc}
use Rattle.std.specs.Prelude.{decimal, string_bytes}
use Rattle.patr_shell.proofs.refusal.not_utf8_line.Goals as goal

pub returns : goal.returns
returns c =
    let begun : string_bytes c.in_ok-begun.begun ≡ codes "error: " ++ c.args.file.now = search (rules, append_assoc) in
    let what : c.as_str.result.now ≡ codes "not UTF-8 at byte " ++ decimal c.args.at = search (rules, append_assoc) in
    rw (begun, what) at c.line_on.ensures
