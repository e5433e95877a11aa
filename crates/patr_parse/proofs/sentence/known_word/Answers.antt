use Rattle.std.proofs.Common.{length, sym, ap, ◌∙◌, eqb-true, eq-eqb}
use Rattle.patr_lists.specs.Numbers.{places}
use Rattle.patr_lexicon.specs.Entries.{is_of}
use Rattle.patr_parse.proofs.KnownWords.{not_held, no_entries, some_entries}
use Rattle.patr_parse.proofs.sentence.known_word.Goals as goal

pub returns-in_default : goal.returns-in_default
returns-in_default c = not_held c.args.library.now c.args.symbols.now c.args.word.now c.in_default.ensures.none

pub returns-then-is_empty : goal.returns-then-is_empty
returns-then-is_empty c =
    no_entries c.args.library.now c.args.symbols.now c.args.word.now c.in-Some.id.0 c.in-Some.ensures.some c.entries_of.result.now (c.entries_of.ensures ∙ ap (places (is_of c.in-Some.id.0) 0) c.lexicon.ensures) c.requires
    (eqb-true (length c.entries_of.result.now) 0 (sym c.if-is_empty.ensures))

pub returns-else-is_empty : goal.returns-else-is_empty
returns-else-is_empty c = (
  some_entries c.args.library.now c.args.symbols.now c.args.word.now c.in-Some.id.0 c.in-Some.ensures.some c.entries_of.result.now (c.entries_of.ensures ∙ ap (places (is_of c.in-Some.id.0) 0) c.lexicon.ensures)
      (λ none. let e = eq-eqb (length c.entries_of.result.now) 0 none in cc),
  c.in-Some.ensures.some,
)
