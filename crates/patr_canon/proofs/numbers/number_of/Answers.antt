use Rattle.std.proofs.Common.{◌≡◌, ℕ, suc, ◌+◌, Some, option_map, arith, ap, ◌∙◌}
use Rattle.patr_canon.proofs.Numbering.{placed_at}
use Rattle.patr_canon.proofs.numbers.number_of.Goals as goal

pub returns-in_err-place : goal.returns-in_err-place
returns-in_err-place c = c.from_residual.ensures ∙ ap (option_map (λ place. suc place)) (c.in_err-place.ensures.index ∙ placed_at c.args.numbered.now.keys c.args.node)

next : (n : ℕ) → n + 1 ≡ suc n
next n = omega arith

pub returns : goal.returns
returns c = ap Some (next c.in_ok-place.place) ∙ ap (option_map (λ place. suc place)) (c.in_ok-place.ensures.index ∙ placed_at c.args.numbered.now.keys c.args.node)
