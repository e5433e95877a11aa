use Rattle.std.proofs.Common.{take}
use Rattle.patr_library.proofs.Names.{shown_of, AreRulesDealt, numbered}
use Rattle.patr_library.proofs.building.keep_variants.Given as goal

abbrev pub invariant-loop-variant : goal.invariant-loop-variant
invariant-loop-variant l = AreRulesDealt (shown_of l.initial.arena) (shown_of l.arena) (numbered (take l.variant-index l.variants)) l.initial.items.items l.items.items
