-- Tokens in order, and the bytes that they have.
use Rattle.std.proofs.Common.{◌≡◌, ℕ, ◌+◌, ◌≤◌, List, [], ◌∷◌, length, ap, arith}
use Rattle.patr_grammar.proofs.Names.{All, InOrder, IsCut, IsSpelled, bytes_of}
use Rattle.std.proofs.lemmas.List.Elements.{All-nil, All-cons, All-head, All-tail}
use Rattle.patr_text.specs.declared.token.Token.{Token}

pub spelled_in_order : (text : List ℕ) (ts : List Token) (at end : ℕ) → All (IsCut text) ts → InOrder at end ts → All (IsSpelled text) ts
spelled_in_order text [] at end cut order = All-nil (IsSpelled text)
spelled_in_order text (t ∷ ts) at end cut order =
    All-cons (IsSpelled text) t ts (record { some = order.1; cut = All-head (IsCut text) t ts cut }) (spelled_in_order text ts t.end end (All-tail (IsCut text) t ts cut) order.3)

pub bytes_in_order : (ts : List Token) (at end : ℕ) → at ≤ end → InOrder at end ts → bytes_of ts + at ≤ end
bytes_in_order [] at end le order = omega arith
bytes_in_order (t ∷ ts) at end le order = omega (arith, bytes_in_order ts t.end end order.2 order.3)

-- each token has a byte of its own
pub count_in_order : (ts : List Token) (at end : ℕ) → at ≤ end → InOrder at end ts → length ts + at ≤ end
count_in_order [] at end le order = omega arith
count_in_order (t ∷ ts) at end le order = omega (arith, count_in_order ts t.end end order.2 order.3)

-- tokens of a text have no more bytes than it
pub bytes_within_text : (text : List ℕ) (ts items : List Token) → ts ≡ items → InOrder 0 (length text) items → bytes_of ts ≤ length text
bytes_within_text text ts items e order = omega (arith, ap bytes_of e, bytes_in_order items 0 (length text) (omega arith) order)
