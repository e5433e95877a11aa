use Rattle.std.proofs.Common.{◌++◌, ◌∷◌, []}
use Rattle.patr_reply.proofs.Names.{IfOk-weaker, IsStep, Tree, rules_of, string_bytes}
use Rattle.patr_reply.proofs.TreeText.{if_ok_made, root_step, parts_step}
use Rattle.patr_reply.proofs.tree.write_next.Goals as goal

pub returns-in_default : goal.returns-in_default
returns-in_default c =
    IfOk-weaker c.write_root.result _ _
    (λ _ h. root_step c.args.symbols.now (rules_of c.args.library.now) c.args.chart.now.edges c.args.left.now.items c.requires.held c.args.number c.edge-edge.result.now c.edge-edge.ensures.there
    c.in_default.is (string_bytes c.args.out.now) (string_bytes c.write_root.new.out) h) c.write_root.ensures

pub returns : goal.returns
returns c =
    let table = c.args.symbols.now in
    let g = rules_of c.args.library.now in
    let es = c.args.chart.now.edges in
    let ss = c.args.left.now.items in
    let old = string_bytes c.args.out.now in
    if_ok_made c.extend_from_slice.result (λ items. IsStep table g es (ss ++ Tree c.args.number ∷ []) old items old) c.extend_from_slice.new.self.items _ _ c.extend_from_slice.ensures.items
    (parts_step table g es ss c.requires.held c.args.number c.edge-edge.result.now c.edge-edge.ensures.there c.args.chart.now.words c.edge-edge.ensures.edges c.in-Some.back c.in-Some.is old)
