use Rattle.patr_expand.proofs.Rules.{AreBegun}
use Rattle.patr_expand.proofs.rule.expand.Given as goal

abbrev pub invariant-loop-variant : goal.invariant-loop-variant
invariant-loop-variant l = AreBegun l.number l.rule l.variant l.variants.items
