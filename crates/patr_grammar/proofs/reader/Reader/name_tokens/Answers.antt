use Rattle.std.proofs.Common.{List, sym, ap, ◌∙◌, arith}
use Rattle.patr_model.specs.declared.notation.What.TheVariants as what
use Rattle.patr_grammar.proofs.Names.{Expected, Lexeme, Stops, by_id, name_tokens}
use Rattle.patr_grammar.proofs.Cells.{first, others, cell, no_cell, shorter_others}
use Rattle.patr_grammar.proofs.Forms.{name_goes_on, name_ends, name_stops, name_missing}
use Rattle.patr_grammar.specs.Views.{onto}
use Rattle.patr_grammar.proofs.reader.Reader.name_tokens.Goals as goal

pub returns-then-is_kind-clause-gives : goal.returns-then-is_kind-clause-gives
returns-then-is_kind-clause-gives c =
    let ts = c.tokens.self.rest.now in
    sym c.tokens.invariant.read ∙ ap (λ (u : List Lexeme). onto c.tokens.name.items (name_tokens by_id u)) (cell ts c.in-len1-up.len_at_least) ∙ name_ends by_id c.tokens.name.items (first ts) (others ts) (sym c.if-is_kind.ensures)

pub tokens-preserved : goal.tokens-preserved
tokens-preserved c =
    let ts = c.tokens.self.rest.now in
    record {
      read = rw c.in_ok-push-in-len1-up.ensures.items (sym (ap (λ (u : List Lexeme). onto c.tokens.name.items (name_tokens by_id u)) (cell ts c.in-len1-up.len_at_least) ∙ name_goes_on by_id c.tokens.name.items (first ts) (others ts) (sym c.if-is_kind.ensures) (sym c.if-is_kind-2.ensures)) ∙ c.tokens.invariant.read);
      shorter = omega (arith, shorter_others ts c.in-len1-up.len_at_least, c.tokens.invariant.shorter);
    }

pub returns-in-empty-clause-gives : goal.returns-in-empty-clause-gives
returns-in-empty-clause-gives c =
    let e = no_cell c.tokens.self.rest.now c.in-empty.len_below in
    sym c.tokens.invariant.read ∙ ap (λ (u : List Lexeme). onto c.tokens.name.items (name_tokens by_id u)) e ∙ name_missing by_id c.tokens.name.items ∙ ap (λ (u : List Lexeme). Stops (Expected what.CloseBrace) u) (sym e)

pub returns-then-is_kind-2-clause-gives : goal.returns-then-is_kind-2-clause-gives
returns-then-is_kind-2-clause-gives c =
    let ts = c.tokens.self.rest.now in
    let e = cell ts c.in-len1-up.len_at_least in
    sym c.tokens.invariant.read ∙ ap (λ (u : List Lexeme). onto c.tokens.name.items (name_tokens by_id u)) e
    ∙ name_stops by_id c.tokens.name.items (first ts) (others ts) (sym c.if-is_kind.ensures) (sym c.if-is_kind-2.ensures)
    ∙ ap (λ (u : List Lexeme). Stops (Expected what.CloseBrace) u) (sym e)
