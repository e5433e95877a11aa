use Rattle.std.proofs.Common.{◌≡◌, ◌++◌, ◌∷◌, [], List, ℕ, IfOk, codes, decimal, ◌∙◌}
use Rattle.patr_reply.proofs.Names.{IfOk-weaker, line, string_bytes}
use Rattle.patr_reply.proofs.TreeText.{three}
use Rattle.patr_reply.proofs.refused.many_line.Goals as goal

pub returns : goal.returns
returns c =
    let parts : List ℕ = codes "error: more than " ++ (decimal c.args.limit ++ codes " edges\n") in
    let h : IfOk c.format.result (λ s. string_bytes s ≡ parts) = c.format.ensures.ok in
    let wanted : List ℕ = line (codes "error: more than " ++ decimal c.args.limit ++ codes " edges") in
    IfOk-weaker c.format.result (λ s. string_bytes s ≡ parts) (λ s. string_bytes s ≡ wanted) (λ s is. is ∙ three (codes "error: more than ") (decimal c.args.limit) (codes " edges") (10 ∷ [])) h
