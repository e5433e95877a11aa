use Rattle.std.proofs.Common.{◌+◌, ◌≤◌, length, map, take}
use Rattle.patr_grammar.proofs.Names.{Each, Extends, IsLexeme, bytes_of, seen}
use Rattle.patr_grammar.proofs.numbering.lexemes.Given as goal

-- the lexemes so far are the tokens so far
abbrev pub invariant-loop-token : goal.invariant-loop-token
invariant-loop-token l = record {
  read : Each (IsLexeme l.symbols) l.lexemes.items (map (seen l.text) (take l.token-index l.tokens));
  extends : Extends l.fn.symbols l.symbols;
  growth : length l.symbols ≤ length l.fn.symbols + bytes_of (take l.token-index l.tokens);
}
