use Rattle.std.proofs.Common.{take}
use Rattle.patr_library.proofs.Names.{shown_of, numbered_from, AreEntriesDealt, all_variants_of}
use Rattle.patr_library.proofs.entries.keep_variants.Given as goal

abbrev pub invariant-loop-variant : goal.invariant-loop-variant
invariant-loop-variant l = AreEntriesDealt (shown_of l.initial.arena) (shown_of l.arena) (numbered_from l.number 0 (all_variants_of l.entry (take l.variant l.variants))) l.initial.items.items l.items.items
