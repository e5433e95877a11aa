use Rattle.std.proofs.Common.{List, take, map, ◌*◌, ◌+◌}
use Rattle.patr_model.specs.Build.{Meaning}
use Rattle.patr_text.specs.declared.symbols.Id.{Id}
use Rattle.patr_expand.specs.Sizes.{IsRowSize, AreSizeOf}
use Rattle.patr_expand.specs.Written.{written, choice_written, IsMeasured}
use Rattle.patr_expand.proofs.Depths.{deepest, depth, most}
use Rattle.patr_expand.proofs.measured.Measured.+sizes.Given as goal

abbrev pub decreases-size_of_element : goal.decreases-size_of_element
decreases-size_of_element l = 3 * depth l.element.now

abbrev pub decreases-size : goal.decreases-size
decreases-size l = 3 * most (map depth l.elements.now) + 1

abbrev pub decreases-size_of_choice : goal.decreases-size_of_choice
decreases-size_of_choice l = 3 * deepest depth l.alternatives.now + 2

abbrev pub invariant-size-loop-element : goal.invariant-size-loop-element
invariant-size-loop-element l = (ms : List (Meaning Id)) → IsMeasured ms l.self → IsRowSize (written ms (take l.element-index l.elements)) l.size

abbrev pub invariant-size_of_choice-loop-alternative : goal.invariant-size_of_choice-loop-alternative
invariant-size_of_choice-loop-alternative l = (ms : List (Meaning Id)) → IsMeasured ms l.self → AreSizeOf (choice_written ms (take l.alternative-index l.alternatives)) l.size
