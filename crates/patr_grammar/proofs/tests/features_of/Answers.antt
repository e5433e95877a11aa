use Rattle.std.proofs.Common.{◌≡◌, ℕ, List, length, sym, subst, arith}
use Rattle.patr_grammar.proofs.Names.{All, InOrder, IsCut, IsSpelled}
use Rattle.std.proofs.lemmas.Str.{IsCharBoundary-start}
use Rattle.patr_text.specs.declared.token.Token.{Token}
use Rattle.patr_grammar.proofs.Spelled.{spelled_in_order, bytes_within_text}
use Rattle.patr_grammar.proofs.tests.features_of.Goals as goal

spelled : (text : List ℕ) (ts items : List Token) → ts ≡ items → All (IsCut text) items → InOrder 0 (length text) items → All (IsSpelled text) ts
spelled text ts items e cut order = subst (λ (ts : List Token). All (IsSpelled text) ts) (sym e) (spelled_in_order text items 0 (length text) cut order)

pub tokens-requires-clause-start : goal.tokens-requires-clause-start
tokens-requires-clause-start c = IsCharBoundary-start c.args.text.now c.utf8.text

pub read_elements-requires-clause-spelled : goal.read_elements-requires-clause-spelled
read_elements-requires-clause-spelled c = spelled c.args.text.now c.deref.result.now c.in-Ok.tokens.items c.deref.ensures.value c.in-Ok.ensures.cut c.in-Ok.ensures.order

pub read_elements-requires-clause-room : goal.read_elements-requires-clause-room
read_elements-requires-clause-room c = omega (arith, c.requires, bytes_within_text c.args.text.now c.deref.result.now c.in-Ok.tokens.items c.deref.ensures.value c.in-Ok.ensures.order)
