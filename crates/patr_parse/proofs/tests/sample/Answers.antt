use Rattle.std.proofs.Common.{◌≡◌, ℕ, List, length, ap, arith}
use Rattle.patr_text.specs.Texts.{first_texts}
use Rattle.patr_parse.proofs.tests.sample.Goals as goal

first_few : (texts : List (List ℕ)) → texts ≡ first_texts → length texts ≡ 38
unfolding first_texts
first_few texts e = ap length e

pub read_grammar-requires : goal.read_grammar-requires
read_grammar-requires c = omega (arith, first_few c.in_ok-symbols.symbols c.in_ok-symbols.ensures)

pub read_lexicon-requires : goal.read_lexicon-requires
read_lexicon-requires c = omega (arith, first_few c.in_ok-symbols.symbols c.in_ok-symbols.ensures, c.in-Ok.ensures.growth)
