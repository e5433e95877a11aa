use Rattle.std.proofs.Common.{◌++◌, ◌∷◌, [], List, ℕ, length, map, Bor, sym, ap, ◌∙◌, lit<, eqb-true, eq-eqb}
use Rattle.std.proofs.lemmas.List.{map-append}
use Rattle.std.proofs.lemmas.Iterator.Consumers.{YieldsList-end}
use Rattle.std.proofs.lemmas.Iterator.Splits.{YieldsList-from_str_split}
use Rattle.patr_model.specs.Session.{without_empty}
use Rattle.patr_parse.proofs.Splits.{word_more, word_same}
use Rattle.patr_parse.proofs.sentence.push_words.Goals as goal

pub loop-word-preserved : goal.loop-word-preserved
loop-word-preserved c =
    let now : List (Bor (List ℕ)) → List (List ℕ) = λ l. map (λ (w : Bor (List ℕ)). w.now) l in
    word_more (now c.args.words.now.items) (now c.loop-word.words.items) (now c.push.new.self.items) (now c.loop-word.yielded) c.in-Some.word.now (λ none. let e = eq-eqb (length c.in-Some.word.now) 0 none in cc) c.loop-word.invariant
    (ap now c.in_ok-push.ensures.items ∙ map-append (λ (w : Bor (List ℕ)). w.now) c.loop-word.words.items (c.in-Some.word ∷ []))
    ∙ ap (λ l. now c.args.words.now.items ++ without_empty l) (sym (map-append (λ (w : Bor (List ℕ)). w.now) c.loop-word.yielded (c.in-Some.word ∷ [])))

pub loop-word-preserved-then-is_empty : goal.loop-word-preserved-then-is_empty
loop-word-preserved-then-is_empty c =
    let now : List (Bor (List ℕ)) → List (List ℕ) = λ l. map (λ (w : Bor (List ℕ)). w.now) l in
    word_same (now c.args.words.now.items) (now c.loop-word.words.items) (now c.loop-word.yielded) c.in-Some.word.now (eqb-true (length c.in-Some.word.now) 0 (sym c.if-is_empty.ensures)) c.loop-word.invariant
    ∙ ap (λ l. now c.args.words.now.items ++ without_empty l) (sym (map-append (λ (w : Bor (List ℕ)). w.now) c.loop-word.yielded (c.in-Some.word ∷ [])))

pub returns : goal.returns
returns c =
    let e = YieldsList-end (YieldsList-from_str_split 9 c.args.text.now (lit< tt) (cc) (cc) (cc)) c.loop-word.yielded _ c.loop-word.yielded_by _ _ c.in-None.is c.next.ensures.steps in
    let now : List (Bor (List ℕ)) → List (List ℕ) = λ l. map (λ (w : Bor (List ℕ)). w.now) l in
    c.loop-word.invariant ∙ ap (λ l. now c.args.words.now.items ++ without_empty l) e.0
