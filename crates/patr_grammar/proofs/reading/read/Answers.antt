use Rattle.patr_model.specs.Tokens.{after, start_place}
use Rattle.patr_grammar.proofs.reading.read.Goals as goal

pub returns-in-Ok-clause-answers : goal.returns-in-Ok-clause-answers
returns-in-Ok-clause-answers c = c.grammar_of.ensures.answers (after start_place c.args.text.now) c.args.lexemes.now c.clauses.new.self.rest.now c.in-Ok.ensures.reads
