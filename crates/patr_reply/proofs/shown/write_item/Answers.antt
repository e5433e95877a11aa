use Rattle.std.proofs.Common.{◌≡◌, ◌++◌, ◌∷◌, [], List, ℕ, codes, decimal}
use Rattle.patr_reply.proofs.Names.{canonical, if_ok_is, line, string_bytes, table_look, value_of}
use Rattle.patr_arena.specs.Arenas.{shown_of}
use lib.Utf8.{encode}
use Rattle.patr_reply.proofs.TreeText.{line_written}
use Rattle.patr_reply.proofs.shown.write_item.Goals as goal

pub returns : goal.returns
unfolding encode
returns c =
    let v = shown_of c.args.arena.now in
    let old = string_bytes c.args.out.now in
    let before = string_bytes c.write_canonical.new.out in
    let text : List ℕ = canonical (table_look c.args.symbols.now []) v.structure (value_of v c.args.root) in
    let begun : string_bytes c.write.new.self ≡ old ++ (decimal c.args.number ++ codes " ") = c.in_ok-write.ensures.bytes in
    if_ok_is c.push.result (string_bytes c.push.new.self) (before ++ 10 ∷ []) before (old ++ line (decimal c.args.number ++ codes " " ++ text)) c.push.ensures.bytes
    (line_written old (string_bytes c.write.new.self) before (decimal c.args.number ++ codes " ") text begun c.in_ok-write_canonical.ensures)
