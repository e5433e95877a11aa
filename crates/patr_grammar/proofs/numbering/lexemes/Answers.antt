use Rattle.std.proofs.Common.{◌∷◌, [], ◌++◌, List, map, take, subst, arith}
use Rattle.patr_grammar.proofs.Names.{Each, IsLexeme, Token, extends_trans, seen, take_all}
use Rattle.patr_grammar.proofs.Bytes.{bytes_more, bytes_within, map_more}
use Rattle.patr_grammar.proofs.Tables.{each_push, lexemes_still}
use Rattle.patr_grammar.proofs.numbering.lexemes.Goals as goal

pub lexeme-requires-clause-room : goal.lexeme-requires-clause-room
lexeme-requires-clause-room c = omega (arith, c.loop-token.invariant.growth, bytes_within c.args.tokens.now c.loop-token.token-index c.loop-token-test.true)

pub returns-in_err-lexeme-clause-growth : goal.returns-in_err-lexeme-clause-growth
returns-in_err-lexeme-clause-growth c = omega (arith, c.loop-token.invariant.growth, c.lexeme.ensures.growth, bytes_within c.args.tokens.now c.loop-token.token-index c.loop-token-test.true)

pub returns-in_err-push-clause-growth : goal.returns-in_err-push-clause-growth
returns-in_err-push-clause-growth c = omega (arith, c.loop-token.invariant.growth, c.lexeme.ensures.growth, bytes_within c.args.tokens.now c.loop-token.token-index c.loop-token-test.true)

pub loop-token-preserved : goal.loop-token-preserved
loop-token-preserved c =
    let i = c.loop-token.invariant in
    let text = c.args.text.now in
    let ts = c.args.tokens.now in
    let n = c.loop-token.token-index in
    let new = c.lexeme.new.symbols in
    let l = c.in_ok-lexeme.lexeme in
    let before = map (seen text) (take n ts) in
    let items = c.loop-token.lexemes.items in
    let more = lexemes_still c.loop-token.symbols new c.lexeme.ensures.extends items before i.read in
    record {
      read = rw c.in_ok-push.ensures.items
          (subst (λ (us : List Token). Each (IsLexeme new) (items ++ l ∷ []) us) (map_more (seen text) ts n c.loop-token-test.true) (each_push (IsLexeme new) items before l _ more c.in_ok-lexeme.ensures.numbers));
      extends = extends_trans c.args.symbols.now c.loop-token.symbols new i.extends c.lexeme.ensures.extends;
      growth = omega (arith, i.growth, c.lexeme.ensures.growth, bytes_more ts n c.loop-token-test.true);
    }

pub returns-clause-numbers : goal.returns-clause-numbers
returns-clause-numbers c =
    subst (λ ts. Each (IsLexeme c.loop-token.symbols) c.loop-token.lexemes.items (map (seen c.args.text.now) ts)) (take_all c.loop-token.token-index c.args.tokens.now c.loop-token-test.false) c.loop-token.invariant.read
