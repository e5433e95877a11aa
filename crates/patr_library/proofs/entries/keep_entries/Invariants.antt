use Rattle.std.proofs.Common.{◌≡◌, take, map, None}
use Rattle.patr_library.proofs.Names.{entries_fault, entry_seen, shown_of, all_numbered, AreEntriesDealt, entry_variants_of, meant_by, same}
use Rattle.patr_library.proofs.entries.keep_entries.Given as goal

abbrev pub invariant-loop-number : goal.invariant-loop-number
invariant-loop-number l = AreEntriesDealt (shown_of l.initial.arena) (shown_of l.arena) (all_numbered 0 (map (entry_variants_of (meant_by l.templates)) (take l.number l.entries))) l.initial.items.items l.items.items × (entries_fault same (meant_by l.templates) (map entry_seen (take l.number l.entries)) ≡ None)
