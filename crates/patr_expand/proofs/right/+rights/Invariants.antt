use Rattle.std.proofs.Common.{◌≡◌, ◌*◌, ◌+◌, drop, length, map}
use Rattle.patr_expand.specs.Seen.{rights_seen}
use Rattle.patr_expand.proofs.Counted.{IsTail}
use Rattle.patr_expand.proofs.Depths.{deepest, item_depth, most}
use Rattle.patr_expand.proofs.Rests.{IsRest}
use Rattle.patr_expand.proofs.right.+rights.Given as goal

abbrev pub decreases-push_item : goal.decreases-push_item
decreases-push_item l = 3 * item_depth l.item.now

abbrev pub decreases-push_right : goal.decreases-push_right
decreases-push_right l = 3 * most (map item_depth l.items.now) + 1

abbrev pub decreases-push_choice : goal.decreases-push_choice
decreases-push_choice l = 3 * deepest item_depth l.alternatives.now + 2

abbrev pub invariant-push_right-loop-item : goal.invariant-push_right-loop-item
invariant-push_right-loop-item l = IsTail l.items (drop l.item-index l.items) l.fn.found.items l.found.items l.fn.number l.count l.number

abbrev pub invariant-push_choice-loop-alternative : goal.invariant-push_choice-loop-alternative
invariant-push_choice-loop-alternative l = record {
  rest : IsRest (rights_seen l.alternatives) l.fn.number (rights_seen (drop l.alternative-index l.alternatives)) l.number;
  found : l.found.items ≡ l.fn.found.items;
}
