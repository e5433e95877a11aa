-- The numbers of entries by their words, entry by entry.
use Rattle.std.proofs.Common.{◌≡◌, ℕ, ◌+◌, ◌<◌, List, [], ◌∷◌, ◌++◌, length, take, get_or, refl, sym, ap, ◌∙◌, arith}
use Rattle.patr_lexicon.proofs.Names.{length-take-le, take_more, is_of}
use Rattle.patr_lists.proofs.Tables.{index_added}
use Rattle.patr_lists.specs.Numbers.{places}
use Rattle.patr_lists.specs.Tables.{Table, with_number}
use Rattle.patr_lexicon.specs.declared.lexicon.Entry.{Entry}

-- the list of a word, with the next entry's number behind that of its word
pub list_more : (w n : ℕ) (es : List Entry) (e : Entry) (L M : Table) → n < length es → e ≡ get_or es n e → e.word.0 < length L → M ≡ with_number L e.word.0 n
    → get_or L w [] ≡ places (is_of w) 0 (take n es) → get_or M w [] ≡ places (is_of w) 0 (take (n + 1) es)
list_more w n es e L M h at below more is =
    let long : length (take n es) ≡ n = length-take-le n es (omega (arith, h)) in
    ap (λ N. get_or N w []) (more ∙ ap (λ k. with_number L e.word.0 k) (sym long))
    ∙ (index_added (is_of w) (take n es) e L e.word.0 w below refl is ∙ ap (λ l. places (is_of w) 0 l) (ap (λ x. take n es ++ x ∷ []) at ∙ sym (take_more es n e h)))
