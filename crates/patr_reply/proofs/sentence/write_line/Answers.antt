use Rattle.std.proofs.Common.{◌≡◌, ◌++◌, ◌∷◌, [], List, ℕ, codes, decimal}
use Rattle.patr_reply.proofs.Names.{if_ok_is, line, look_by, rules_of, string_bytes, tree, tree_text}
use lib.Utf8.{encode}
use Rattle.patr_reply.proofs.TreeText.{line_written}
use Rattle.patr_reply.proofs.sentence.write_line.Goals as goal

pub returns : goal.returns
unfolding encode
returns c = λ names agrees.
    let old = string_bytes c.args.out.now in
    let before = string_bytes c.write_tree.new.out in
    let text : List ℕ = tree_text (look_by names) (rules_of c.args.library.now) (tree c.args.chart.now.edges c.args.number) in
    let begun : string_bytes c.write.new.self ≡ old ++ (decimal c.args.place ++ codes " ") = c.in_ok-write.ensures.bytes in
    if_ok_is c.push.result (string_bytes c.push.new.self) (before ++ 10 ∷ []) before (old ++ line (decimal c.args.place ++ codes " " ++ text)) c.push.ensures.bytes
    (line_written old (string_bytes c.write.new.self) before (decimal c.args.place ++ codes " ") text begun (c.in_ok-write_tree.ensures names agrees))
