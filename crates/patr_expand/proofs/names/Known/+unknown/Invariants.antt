use Rattle.std.proofs.Common.{◌≡◌, List, None, take, map, ◌*◌, ◌+◌}
use Rattle.patr_model.specs.Build.{Meaning, unknown_name}
use Rattle.patr_model.specs.Productions.{things}
use Rattle.patr_text.specs.declared.symbols.Id.{Id}
use Rattle.patr_grammar.specs.Levels.{features_seen}
use Rattle.patr_expand.specs.Seen.{same}
use Rattle.patr_expand.specs.Written.{Knows, item_unknown}
use Rattle.patr_expand.proofs.Depths.{deepest, depth, most}
use Rattle.patr_expand.proofs.Unknown.{first_of}
use Rattle.patr_expand.proofs.names.Known.+unknown.Given as goal

abbrev pub decreases-unknown_in_element : goal.decreases-unknown_in_element
decreases-unknown_in_element l = 3 * depth l.element.now

abbrev pub decreases-unknown : goal.decreases-unknown
decreases-unknown l = 3 * most (map depth l.elements.now) + 1

abbrev pub decreases-unknown_in_choice : goal.decreases-unknown_in_choice
decreases-unknown_in_choice l = 3 * deepest depth l.alternatives.now + 2

abbrev pub invariant-unknown-loop-element : goal.invariant-unknown-loop-element
invariant-unknown-loop-element l = (ms : List (Meaning Id)) → Knows ms l.self → first_of (item_unknown ms) (take l.element-index l.elements) ≡ None

abbrev pub invariant-unknown_in_choice-loop-alternative : goal.invariant-unknown_in_choice-loop-alternative
invariant-unknown_in_choice-loop-alternative l = (ms : List (Meaning Id)) → Knows ms l.self → first_of (λ v. unknown_name same ms (things (features_seen v.items))) (take l.alternative-index l.alternatives) ≡ None
