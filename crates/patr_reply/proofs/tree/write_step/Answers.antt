use Rattle.std.proofs.Common.{◌++◌, ◌∷◌, [], refl, arith}
use Rattle.patr_reply.proofs.Names.{IsStep, Mark, rules_of, string_bytes}
use Rattle.patr_reply.proofs.TreeText.{if_ok_made, text_step}
use Rattle.patr_reply.proofs.tree.write_step.Goals as goal

pub returns-in-Mark : goal.returns-in-Mark
returns-in-Mark c =
    let table = c.args.symbols.now in
    let g = rules_of c.args.library.now in
    let es = c.args.chart.now.edges in
    let ss = c.args.left.now.items in
    let old = string_bytes c.args.out.now in
    rw c.in-Mark.is (if_ok_made c.push.result (λ bytes. IsStep table g es (ss ++ Mark c.in-Mark.mark ∷ []) old ss bytes) (string_bytes c.push.new.self) _ _ c.push.ensures.bytes
    (text_step table g es ss c.requires.held (Mark c.in-Mark.mark) old _ (omega arith) (λ names agrees. refl)))
