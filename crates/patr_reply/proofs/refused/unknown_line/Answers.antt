use Rattle.std.proofs.Common.{◌≡◌, ◌++◌, ◌∷◌, [], List, ℕ, IfOk, codes, decimal, ◌∙◌}
use Rattle.patr_reply.proofs.Names.{IfOk-weaker, line, string_bytes}
use Rattle.patr_reply.proofs.TreeText.{four}
use Rattle.patr_reply.proofs.refused.unknown_line.Goals as goal

pub returns : goal.returns
returns c =
    let w = c.args.word.now in
    let parts : List ℕ = codes "error: unknown word at " ++ (decimal c.args.position ++ (codes ": " ++ (w ++ 10 ∷ []))) in
    let h : IfOk c.format.result (λ s. string_bytes s ≡ parts) = c.format.ensures.ok in
    let wanted : List ℕ = line (codes "error: unknown word at " ++ decimal c.args.position ++ codes ": " ++ w) in
    IfOk-weaker c.format.result (λ s. string_bytes s ≡ parts) (λ s. string_bytes s ≡ wanted) (λ s is. is ∙ four (codes "error: unknown word at ") (decimal c.args.position) (codes ": ") w (10 ∷ [])) h
