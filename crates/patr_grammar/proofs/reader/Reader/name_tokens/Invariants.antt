use Rattle.std.proofs.Common.{◌≡◌, ◌≤◌, length}
use Rattle.patr_grammar.proofs.Names.{by_id, name_tokens}
use Rattle.patr_grammar.specs.Views.{onto}
use Rattle.patr_grammar.proofs.reader.Reader.name_tokens.Given as goal

abbrev pub invariant-tokens : goal.invariant-tokens
invariant-tokens l = record {
  read : onto l.name.items (name_tokens by_id l.self.rest.now) ≡ name_tokens by_id l.fn.self.rest.now;
  shorter : length l.self.rest.now ≤ length l.fn.self.rest.now;
}

abbrev pub decreases-tokens : goal.decreases-tokens
decreases-tokens l = length l.self.rest.now
