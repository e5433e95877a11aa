use Rattle.std.proofs.Common.{◌≡◌, ◌*◌, ◌+◌, length, map, take}
use Rattle.patr_model.specs.Grammar.{single, variants, variants_of}
use Rattle.patr_grammar.specs.Levels.{right_seen}
use Rattle.patr_expand.specs.Seen.{rights_seen}
use Rattle.patr_expand.specs.Sizes.{capped}
use Rattle.patr_expand.proofs.Depths.{deepest, item_depth, most}
use Rattle.patr_expand.proofs.right.+count.Given as goal

abbrev pub decreases-count_of_item : goal.decreases-count_of_item
decreases-count_of_item l = 3 * item_depth l.item.now

abbrev pub decreases-right_count : goal.decreases-right_count
decreases-right_count l = 3 * most (map item_depth l.items.now) + 1

abbrev pub decreases-count_of_choice : goal.decreases-count_of_choice
decreases-count_of_choice l = 3 * deepest item_depth l.alternatives.now + 2

abbrev pub invariant-right_count-loop-item : goal.invariant-right_count-loop-item
invariant-right_count-loop-item l = l.count ≡ capped (length (variants single (right_seen (take l.item-index l.items))))

abbrev pub invariant-count_of_choice-loop-alternative : goal.invariant-count_of_choice-loop-alternative
invariant-count_of_choice-loop-alternative l = l.count ≡ capped (length (variants_of single (rights_seen (take l.alternative-index l.alternatives))))
