use Rattle.std.proofs.Common.{◌≡◌, ℕ, ◌≤◌, List, length, map, Ok, IfOk, IfErr, IsUtf8, refl, sym, ap, ◌∙◌, subst, arith}
use Rattle.patr_grammar.proofs.Names.{All, Each, IfOk-weaker, InOrder, IsLexeme, IsRefusedFor, IsSpelled, Lexeme, StandsFor, length-map, scan, seen, start_place, tokens_of}
use Rattle.std.specs.Str.{IsValidUpTo}
use Rattle.std.proofs.Math.Seq.{take-length}
use Rattle.std.proofs.lemmas.Str.{IsCharBoundary-start}
use Rattle.patr_model.proofs.Renaming.{each_length}
use Rattle.patr_model.specs.Faults.{NotText, StopsUtf8}
use Rattle.patr_text.specs.declared.token.Token.{Token}
use Rattle.patr_grammar.proofs.Meanings.{answered}
use Rattle.patr_grammar.proofs.Spelled.{spelled_in_order, bytes_within_text, count_in_order}
use Rattle.patr_grammar.proofs.reading.read_grammar.Goals as goal

stops : (bytes : List ℕ) (n : ℕ) → IsValidUpTo bytes n → StopsUtf8 bytes n
stops bytes n h = (h.short, h.front, λ k lt le is. h.longest k lt is)

pub returns-in-Err-clause-refused : goal.returns-in-Err-clause-refused
returns-in-Err-clause-refused c = (NotText c.valid_up_to-at.result, stops c.args.bytes.now c.valid_up_to-at.result (subst (IsValidUpTo c.args.bytes.now) (sym c.valid_up_to-at.ensures) c.in-Err.ensures.cases.1), refl)

pub tokens-requires-clause-start : goal.tokens-requires-clause-start
tokens-requires-clause-start c = IsCharBoundary-start c.in-Ok.text.now (subst IsUtf8 (sym c.in-Ok.ensures.cases.0) c.in-Ok.ensures.cases.1)

pub lexemes-requires-clause-spelled : goal.lexemes-requires-clause-spelled
lexemes-requires-clause-spelled c =
    let text = c.in-Ok.text.now in
    subst (λ (ts : List Token). All (IsSpelled text) ts) (sym c.deref.ensures.value) (spelled_in_order text c.in-Ok-tokens.tokens.items 0 (length text) c.in-Ok-tokens.ensures.cut c.in-Ok-tokens.ensures.order)

pub lexemes-requires-clause-room : goal.lexemes-requires-clause-room
lexemes-requires-clause-room c = omega (arith, c.requires, ap length c.in-Ok.ensures.cases.0, bytes_within_text c.in-Ok.text.now c.deref.result.now c.in-Ok-tokens.tokens.items c.deref.ensures.value c.in-Ok-tokens.ensures.order)

pub returns-in_err-lexemes-clause-growth : goal.returns-in_err-lexemes-clause-growth
returns-in_err-lexemes-clause-growth c =
    omega (arith, c.lexemes.ensures.growth, ap length c.in-Ok.ensures.cases.0, bytes_within_text c.in-Ok.text.now c.deref.result.now c.in-Ok-tokens.tokens.items c.deref.ensures.value c.in-Ok-tokens.ensures.order)

pub returns-clause-growth : goal.returns-clause-growth
returns-clause-growth c =
    omega (arith, c.lexemes.ensures.growth, ap length c.in-Ok.ensures.cases.0, bytes_within_text c.in-Ok.text.now c.deref.result.now c.in-Ok-tokens.tokens.items c.deref.ensures.value c.in-Ok-tokens.ensures.order)

-- the lexemes are the tokens of the text
each_of : (table : List (List ℕ)) (text : List ℕ) (ts us : List Token) (ls ms : List Lexeme) → us ≡ ts → ms ≡ ls → Each (IsLexeme table) ls (map (seen text) us) → Each (IsLexeme table) ms (map (seen text) ts)
each_of table text ts us ls ms same as_read h =
    subst (λ (ks : List Lexeme). Each (IsLexeme table) ks (map (seen text) ts)) (sym as_read) (subst (λ (ks : List Token). Each (IsLexeme table) ls (map (seen text) ks)) same h)

-- so there are no more than bytes
few_of : (table : List (List ℕ)) (text : List ℕ) (ts : List Token) (ls : List Lexeme) → InOrder 0 (length text) ts → Each (IsLexeme table) ls (map (seen text) ts) → length ls ≤ length text
few_of table text ts ls order h = omega (arith, each_length (IsLexeme table) ls (map (seen text) ts) h, length-map ts (seen text), count_in_order ts 0 (length text) (omega arith) order)

pub read-requires-clause-lexemes : goal.read-requires-clause-lexemes
read-requires-clause-lexemes c =
    let text = c.in-Ok.text.now in
    let ts = c.in-Ok-tokens.tokens.items in
    let h = each_of c.lexemes.new.symbols text ts c.deref.result.now c.in_ok-lexemes.lexemes.items c.deref-2.result.now c.deref.ensures.value c.deref-2.ensures.value c.in_ok-lexemes.ensures.numbers in
    omega (arith, c.requires, ap length c.in-Ok.ensures.cases.0, few_of c.lexemes.new.symbols text ts c.deref-2.result.now c.in-Ok-tokens.ensures.order h)

each : (c : goal.After-drop-tokens-2) → Each (IsLexeme c.lexemes.new.symbols) c.deref-2.result.now (map (seen c.in-Ok.text.now) c.in-Ok-tokens.tokens.items)
each c =
    each_of c.lexemes.new.symbols c.in-Ok.text.now c.in-Ok-tokens.tokens.items c.deref.result.now c.in_ok-lexemes.lexemes.items c.deref-2.result.now c.deref.ensures.value c.deref-2.ensures.value c.in_ok-lexemes.ensures.numbers

scanned : (c : goal.After-drop-tokens-2) → tokens_of c.in-Ok.text.now ≡ Ok (map (seen c.in-Ok.text.now) c.in-Ok-tokens.tokens.items)
scanned c = ap (λ (bytes : List ℕ). scan 0 0 start_place bytes) (sym (take-length c.in-Ok.text.now)) ∙ c.in-Ok-tokens.ensures.read

-- what was answered of the lexemes is so of the text
answered_of : (c : goal.After-drop-tokens-2) → IfOk c.read.result (λ g. StandsFor c.lexemes.new.symbols c.in-Ok.text.now g) × IfErr c.read.result (λ fault. IsRefusedFor c.lexemes.new.symbols c.in-Ok.text.now fault)
answered_of c =
    let text = c.in-Ok.text.now in
    let utf8 = subst IsUtf8 (sym c.in-Ok.ensures.cases.0) c.in-Ok.ensures.cases.1 in
    answered c.lexemes.new.symbols text (map (seen text) c.in-Ok-tokens.tokens.items) utf8 (scanned c) c.deref-2.result.now c.read.result c.recall.ensures.one_to_one c.recall.ensures.first (each c) c.read.ensures.answers

pub returns-clause-reads : goal.returns-clause-reads
returns-clause-reads c = rw (← c.in-Ok.ensures.cases.0) (answered_of c).0

pub returns-clause-refused : goal.returns-clause-refused
returns-clause-refused c = rw (← c.in-Ok.ensures.cases.0) (answered_of c).1

pub returns-clause-few : goal.returns-clause-few
returns-clause-few c =
    IfOk-weaker c.read.result (λ g. length g.rules.items ≤ length c.deref-2.result.now) (λ g. length g.rules.items ≤ length c.args.bytes.now)
    (λ g h. omega (arith, h, ap length c.in-Ok.ensures.cases.0, few_of c.lexemes.new.symbols c.in-Ok.text.now c.in-Ok-tokens.tokens.items c.deref-2.result.now c.in-Ok-tokens.ensures.order (each c))) c.read.ensures.few
