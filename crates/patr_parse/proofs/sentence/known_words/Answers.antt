use Rattle.std.proofs.Common.{◌≡◌, ◌+◌, ◌++◌, ◌∷◌, [], ℕ, suc, List, map, take, get_or, Bor, sym, ap, ◌∙◌, subst, arith}
use Rattle.std.specs.List.{AllByRecursion}
use Rattle.std.proofs.lemmas.List.{length-map}
use Rattle.std.proofs.Math.Seq.{take-length}
use Rattle.patr_parse.proofs.Names.{Id, ids, AreKnownTo}
use Rattle.patr_parse.specs.Sentences.{AreNumbers, IsKnown, IsFirstUnknown}
use Rattle.patr_parse.proofs.KnownWords.{known_more, first_unknown, word_at}
use Rattle.patr_parse.proofs.sentence.known_words.Goals as goal

pub loop-place-preserved : goal.loop-place-preserved
loop-place-preserved c =
    let s = c.args.library.now in
    let table = c.args.symbols.now in
    let ws : List (List ℕ) = map (λ (w : Bor (List ℕ)). w.now) c.args.words.now in
    let d : Bor (List ℕ) = record { ref_ptr = (0, 0); now = [] } in
    let n = c.loop-place.place in
    let items : c.push.new.self.items ≡ c.loop-place.numbers.items ++ c.in-Some.id ∷ [] = c.in_ok-push.ensures.items in
    subst (λ (l : List Id). AreKnownTo s table ws (n + 1) (ids l)) (sym items)
    (known_more s table ws n (get_or c.args.words.now n d).now c.loop-place.numbers.items c.in-Some.id (word_at c.args.words.now n d c.loop-place-test.true) c.loop-place.invariant c.in-Some.ensures)

pub returns-in_default-clause-refused : goal.returns-in_default-clause-refused
returns-in_default-clause-refused c = λ limit.
    let s = c.args.library.now in
    let table = c.args.symbols.now in
    let ws : List (List ℕ) = map (λ (w : Bor (List ℕ)). w.now) c.args.words.now in
    let d : Bor (List ℕ) = record { ref_ptr = (0, 0); now = [] } in
    let n = c.loop-place.place in
    let next : suc n ≡ n + 1 = omega arith in (
      omega (arith, length-map c.args.words.now (λ (w : Bor (List ℕ)). w.now), c.requires.short),
      subst (λ p. IsFirstUnknown s table ws p) next
          (first_unknown s table ws n (get_or c.args.words.now n d).now (ids c.loop-place.numbers.items) (word_at c.args.words.now n d c.loop-place-test.true) c.loop-place.invariant c.in_default.ensures),
    )

pub returns-clause-numbers : goal.returns-clause-numbers
returns-clause-numbers c =
    let s = c.args.library.now in
    let table = c.args.symbols.now in
    let ws : List (List ℕ) = map (λ (w : Bor (List ℕ)). w.now) c.args.words.now in
    let whole : take c.loop-place.place ws ≡ ws = ap (λ n. take n ws) (omega (arith, length-map c.args.words.now (λ (w : Bor (List ℕ)). w.now), c.loop-place-test.false, c.loop-place.auto.place-end)) ∙ take-length ws in
    record {
      short = omega (arith, length-map c.args.words.now (λ (w : Bor (List ℕ)). w.now), c.requires.short);
      known = subst (AllByRecursion (IsKnown s table)) whole c.loop-place.invariant.known;
      are = subst (λ l. AreNumbers table l (ids c.loop-place.numbers.items)) whole c.loop-place.invariant.are;
    }
