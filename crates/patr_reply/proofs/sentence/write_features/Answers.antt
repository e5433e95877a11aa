use Rattle.std.proofs.Common.{◌++◌, ◌∷◌, [], List, ℕ, codes}
use Rattle.patr_reply.proofs.Names.{canonical, if_ok_is, line, string_bytes, table_look, value_of}
use lib.Utf8.{encode}
use Rattle.patr_reply.proofs.TreeText.{line_written}
use Rattle.patr_reply.proofs.sentence.write_features.Goals as goal

pub returns : goal.returns
unfolding encode
returns g c =
    let v = g.N.Nodes.shown c.args.nodes.now in
    let old = string_bytes c.args.out.now in
    let before = string_bytes c.write_canonical.new.out in
    let text : List ℕ = canonical (table_look c.args.symbols.now []) v.structure (value_of v c.args.value) in
    if_ok_is c.push.result (string_bytes c.push.new.self) (before ++ 10 ∷ []) before (old ++ line (codes "  " ++ text)) c.push.ensures.bytes
    (line_written old (string_bytes c.push_str.new.self) before (codes "  ") text c.in_ok-push_str.ensures.bytes c.in_ok-write_canonical.ensures)
