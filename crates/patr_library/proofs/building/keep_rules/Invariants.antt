use Rattle.std.proofs.Common.{◌≡◌, take, map, None}
use Rattle.patr_library.proofs.Names.{rules_fault, rule_seen, shown_of, AreRulesDealt, all_numbered, variants_of}
use Rattle.patr_library.proofs.building.keep_rules.Given as goal

abbrev pub invariant-loop-rule : goal.invariant-loop-rule
invariant-loop-rule l = AreRulesDealt (shown_of l.initial.arena) (shown_of l.arena) (all_numbered 0 (map variants_of (take l.rule l.grammar.rules.items))) l.initial.items.items l.items.items × (rules_fault (map rule_seen (take l.rule l.grammar.rules.items)) ≡ None)
