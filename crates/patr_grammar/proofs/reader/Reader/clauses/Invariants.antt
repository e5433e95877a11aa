use Rattle.std.proofs.Common.{◌+◌, ◌≤◌, length, List, []}
use Rattle.patr_grammar.proofs.Names.{AreRead, Clause, Id, by_id, clauses, stage}
use Rattle.patr_grammar.proofs.Behind.{IsBehind}
use Rattle.patr_grammar.proofs.reader.Reader.clauses.Given as goal

abbrev pub invariant-loop-self : goal.invariant-loop-self
invariant-loop-self l = record {
  read : (cs : List (Clause Id)) × AreRead l.found cs × IsBehind cs l.self.rest.now (clauses by_id stage (length l.fn.self.rest.now) [] l.fn.self.rest.now);
  few : length l.found.rules.items + length l.self.rest.now ≤ length l.fn.self.rest.now;
}

abbrev pub decreases-loop-self : goal.decreases-loop-self
decreases-loop-self l = length l.self.rest.now
