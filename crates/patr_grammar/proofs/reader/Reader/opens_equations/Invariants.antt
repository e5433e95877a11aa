use Rattle.std.proofs.Common.{◌≡◌, drop}
use Rattle.patr_grammar.proofs.Names.{by_id, opens_equations}
use Rattle.patr_grammar.proofs.reader.Reader.opens_equations.Given as goal

abbrev pub invariant-loop-lexeme : goal.invariant-loop-lexeme
invariant-loop-lexeme l = opens_equations by_id (drop l.lexeme-index l.self.rest.now) ≡ opens_equations by_id l.self.rest.now
