use Rattle.patr_shell.proofs.Meanings.{grammar_told, lexicon_told, library_held}
use Rattle.patr_shell.proofs.opening.build.Goals as goal

pub new-requires-clause-held : goal.new-requires-clause-held
new-requires-clause-held c = library_held c.args.symbols c.args.grammar c.args.lexicon _ _ c.requires.grammar.1 c.requires.lexicon.1 c.in-Ok.library c.in-Ok.ensures.built

pub expand_line-requires : goal.expand_line-requires
expand_line-requires c = grammar_told c.args.symbols c.requires.table c.args.grammar c.args.lexicon _ _ c.requires.grammar.1 c.requires.lexicon.1 c.in-Err-InGrammar.cause (rw c.in-Err-InGrammar.field-0-is at c.in-Err-InGrammar.ensures.refused)

pub returns-in-Err-InGrammar-clause-fault : goal.returns-in-Err-InGrammar-clause-fault
returns-in-Err-InGrammar-clause-fault c =
    let told = grammar_told c.args.symbols c.requires.table c.args.grammar c.args.lexicon _ _ c.requires.grammar.1 c.requires.lexicon.1 c.in-Err-InGrammar.cause (rw c.in-Err-InGrammar.field-0-is at c.in-Err-InGrammar.ensures.refused) in
    (rw c.in-Err-InGrammar.field-0-is at c.in-Err-InGrammar.ensures.refused, told.0, (told.1, c.in_ok-line-in-Err-InGrammar.ensures told.0 told.1))

pub expand_line-requires-in-Err-InLexicon : goal.expand_line-requires-in-Err-InLexicon
expand_line-requires-in-Err-InLexicon c = lexicon_told c.args.symbols c.requires.table c.args.grammar c.args.lexicon _ _ c.requires.grammar.1 c.requires.lexicon.1 c.in-Err-InLexicon.cause (rw c.in-Err-InLexicon.field-0-is at c.in-Err-InLexicon.ensures.refused)

pub returns-clause-fault : goal.returns-clause-fault
returns-clause-fault c =
    let told = lexicon_told c.args.symbols c.requires.table c.args.grammar c.args.lexicon _ _ c.requires.grammar.1 c.requires.lexicon.1 c.in-Err-InLexicon.cause (rw c.in-Err-InLexicon.field-0-is at c.in-Err-InLexicon.ensures.refused) in
    (rw c.in-Err-InLexicon.field-0-is at c.in-Err-InLexicon.ensures.refused, told.0, (told.1, c.in_ok-line-in-Err-InLexicon.ensures told.0 told.1))
