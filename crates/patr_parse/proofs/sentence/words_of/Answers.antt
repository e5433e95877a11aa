use Rattle.std.proofs.Common.{◌∷◌, [], List, ℕ, map, flat_map, Bor, sym, ap, ◌∙◌, lit<}
use Rattle.std.proofs.lemmas.List.{map-append}
use Rattle.std.proofs.lemmas.Iterator.Consumers.{YieldsList-end}
use Rattle.std.proofs.lemmas.Iterator.Splits.{YieldsList-from_str_split}
use Rattle.patr_parse.specs.Words.{between_tabs}
use Rattle.patr_parse.proofs.Splits.{words_by_parts, parts_more}
use Rattle.patr_parse.proofs.sentence.words_of.Goals as goal

pub loop-text-preserved : goal.loop-text-preserved
loop-text-preserved c =
    let now : List (Bor (List ℕ)) → List (List ℕ) = λ l. map (λ (w : Bor (List ℕ)). w.now) l in
    parts_more (now c.loop-text.yielded) (now c.push_words.new.words.items) (now c.loop-text.words.items) c.in-Some.text.now c.loop-text.invariant c.in_ok-push_words.ensures
    ∙ ap (flat_map between_tabs) (sym (map-append (λ (w : Bor (List ℕ)). w.now) c.loop-text.yielded (c.in-Some.text ∷ [])))

pub returns : goal.returns
returns c =
    let e = YieldsList-end (YieldsList-from_str_split 32 c.args.sentence.now (lit< tt) (cc) (cc) (cc)) c.loop-text.yielded _ c.loop-text.yielded_by _ _ c.in-None.is c.next.ensures.steps in
    c.loop-text.invariant ∙ (ap (flat_map between_tabs) e.0 ∙ words_by_parts c.args.sentence.now)
