use Rattle.std.proofs.Common.{length}
use Rattle.patr_scratch.specs.Contents.{EndsOrHas, after, marks}
use Rattle.patr_scratch.proofs.tests.attributes.Given as goal

abbrev pub invariant-loop-next : goal.invariant-loop-next
invariant-loop-next l = EndsOrHas (marks l.scratch l.fn.side l.fn.number).added l.next

abbrev pub decreases-loop-next : goal.decreases-loop-next
decreases-loop-next l = length (after (marks l.scratch l.fn.side l.fn.number).added l.next)
