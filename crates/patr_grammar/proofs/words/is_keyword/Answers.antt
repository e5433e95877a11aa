use Rattle.patr_grammar.proofs.Texts.{keyword_by, other_length}
use Rattle.patr_grammar.proofs.words.is_keyword.Goals as goal

pub returns : goal.returns
returns c = keyword_by c.eq_ignore_ascii_case.result c.args.word.now c.args.text.now c.requires c.eq_ignore_ascii_case.ensures.test

pub returns-then-text-word : goal.returns-then-text-word
returns-then-text-word c = other_length c.args.word.now c.args.text.now c.requires c.if-text-word.true
