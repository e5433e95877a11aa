use Rattle.std.proofs.Common.{◌≡◌, ℕ, List, Bor, length, sym, ap, ◌∙◌, arith, eq-eqb, vec_len}
use Rattle.std.proofs.lemmas.List.{length-map}
use Rattle.patr_model.specs.Session.{words_of}
use Rattle.patr_parse.proofs.tests.outcome.Goals as goal

pub parse_alone-requires-clause-words : goal.parse_alone-requires-clause-words
parse_alone-requires-clause-words g c =
    let items = c.in_ok-words.words.items in
    let filled : vec_len c.in_ok-words.words ≡ 0 → ⊥ = λ none. let e = eq-eqb (vec_len c.in_ok-words.words) 0 none in let f = c.is_empty.ensures in let h = c.if-is_empty.false in cc in
    let same : length (words_of c.args.sentence.text.now) ≡ length items = ap length (sym c.in_ok-words.ensures) ∙ length-map items (λ (w : Bor (List ℕ)). w.now) in
    omega (arith, same, filled, c.in_ok-words.words.ok)
