use Rattle.std.proofs.Common.{◌∙◌, ◌++◌, ◌∷◌, [], ap, length}
use Rattle.patr_library.proofs.Names.{facts_at}
use Rattle.patr_library.proofs.Facts.{facts_are_least, slot_feature}
use Rattle.patr_library.proofs.solving.with_facts.Goals as goal

pub returns : goal.returns
returns c =
    let made = c.in_ok-block.ensures.node in
    facts_are_least (facts_at c.args.facts) c.top.new.block c.in_ok-root.ensures.block (c.in_ok-root.ensures.new.1 ∙ ap (λ b. b ++ (slot_feature ∷ []) ∷ []) made) c.in_ok-root.root (c.in_ok-root.ensures.new.0 ∙ ap length made)
