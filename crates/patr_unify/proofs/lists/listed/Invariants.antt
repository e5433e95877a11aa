use Rattle.std.proofs.Common.{◌≡◌, length}
use Rattle.patr_scratch.specs.Contents.{EndsOrHas, after, marks}
use Rattle.patr_unify.specs.Reading.{has_link}
use Rattle.patr_unify.proofs.lists.listed.Given as goal

abbrev pub invariant-loop-next : goal.invariant-loop-next
invariant-loop-next l = record {
  cell : EndsOrHas (marks l.scratch l.fn.side l.fn.number).added l.next;
  rest : has_link (after (marks l.scratch l.fn.side l.fn.number).added l.next) l.attribute ≡ has_link (after (marks l.scratch l.fn.side l.fn.number).added l.fn.cell) l.attribute;
}

abbrev pub decreases-loop-next : goal.decreases-loop-next
decreases-loop-next l = length (after (marks l.scratch l.fn.side l.fn.number).added l.next)
