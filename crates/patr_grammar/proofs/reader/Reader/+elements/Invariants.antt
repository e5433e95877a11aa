use Rattle.std.proofs.Common.{◌+◌, ◌*◌, ◌<◌, ◌≤◌, length, map}
use Rattle.patr_grammar.proofs.Names.{begins_by, element_by, onto, row, seen_by, star}
use Rattle.patr_grammar.proofs.Loops.{IsLeft, reads}
use Rattle.patr_grammar.proofs.Choices.{all, nexts}
use Rattle.patr_grammar.proofs.reader.Reader.+elements.Given as goal

abbrev pub decreases-element : goal.decreases-element
decreases-element l = 4 * l.levels

abbrev pub decreases-more_elements : goal.decreases-more_elements
decreases-more_elements l = 4 * l.levels + 1

abbrev pub decreases-some_elements : goal.decreases-some_elements
decreases-some_elements l = 4 * l.levels + 2

abbrev pub decreases-choices : goal.decreases-choices
decreases-choices l = 4 * l.levels + 3

abbrev pub invariant-choices-loop-self : goal.invariant-choices-loop-self
invariant-choices-loop-self l =
    let starts = begins_by l.head in
    let read = element_by l.head l.levels in
    record {
      read : IsLeft length (nexts starts read) (map (λ v. row (map (seen_by l.head) v.items)) l.found.items) l.self.rest.now (all starts read l.fn.self.rest.now);
      shorter : length l.self.rest.now < length l.fn.self.rest.now;
    }

abbrev pub decreases-choices-loop-self : goal.decreases-choices-loop-self
decreases-choices-loop-self l = length l.self.rest.now

abbrev pub invariant-more_elements-loop-self : goal.invariant-more_elements-loop-self
invariant-more_elements-loop-self l =
    let starts = begins_by l.head in
    let read = element_by l.head l.levels in
    record {
      read : IsLeft length (reads starts read) (map (seen_by l.head) l.found.items) l.self.rest.now (onto (map (seen_by l.head) l.fn.found.items) (star starts read l.fn.self.rest.now));
      shorter : length l.self.rest.now ≤ length l.fn.self.rest.now;
    }

abbrev pub decreases-more_elements-loop-self : goal.decreases-more_elements-loop-self
decreases-more_elements-loop-self l = length l.self.rest.now
