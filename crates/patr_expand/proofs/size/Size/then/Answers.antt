use Rattle.std.proofs.Common.{◌≡◌, ◌*◌, ◌∙◌, ap, arith}
use Rattle.patr_expand.proofs.Rows.{capped_product}
use Rattle.patr_expand.specs.Sizes.{capped, IsSize}
use Rattle.patr_expand.proofs.size.Size.then.Goals as goal

pub returns : goal.returns
returns c a m b n h k = record {
  variants = c.product.ensures ∙ (λ i. capped (h.variants i * k.variants i)) ∙ capped_product a b;
  equations = omega (arith, c.sum.ensures, h.equations, k.equations);
}
