use Rattle.std.proofs.Common.{List, map, sym, subst}
use Rattle.patr_grammar.proofs.Names.{Each, IsLexeme, Lexeme, seen}
use Rattle.patr_grammar.proofs.FeatureMeanings.{features_answered}
use Rattle.patr_grammar.proofs.reading.read_elements.Goals as goal

-- the lexemes are the tokens
each : (c : goal.After-drop-lexemes) → Each (IsLexeme c.lexemes.new.symbols) c.deref.result.now (map (seen c.args.text.now) c.args.tokens.now)
each c = subst (λ (ls : List Lexeme). Each (IsLexeme c.lexemes.new.symbols) ls (map (seen c.args.text.now) c.args.tokens.now)) (sym c.deref.ensures.value) c.in_ok-lexemes.ensures.numbers

pub returns-clause-reads : goal.returns-clause-reads
returns-clause-reads c = (features_answered c.lexemes.new.symbols c.args.text.now c.args.tokens.now c.deref.result.now c.features.result c.recall.ensures.one_to_one (each c) c.features.ensures.answers).0

pub returns-clause-refused : goal.returns-clause-refused
returns-clause-refused c = (features_answered c.lexemes.new.symbols c.args.text.now c.args.tokens.now c.deref.result.now c.features.result c.recall.ensures.one_to_one (each c) c.features.ensures.answers).1
