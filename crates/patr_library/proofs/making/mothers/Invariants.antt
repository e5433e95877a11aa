use Rattle.std.proofs.Common.{◌≡◌, map, take}
use Rattle.patr_library.proofs.making.mothers.Given as goal

abbrev pub invariant-loop-item : goal.invariant-loop-item
invariant-loop-item l = l.keys.items ≡ map (λ i. i.mother) (take l.item-index l.rules)
