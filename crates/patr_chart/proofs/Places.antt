-- The lists by which partners are found.
use Rattle.std.proofs.Common.{◌≡◌, ℕ, ◌+◌, ◌<◌, List, [], ◌∷◌, ◌++◌, length, take, Option, Some, None, slice_get, refl, sym, ap, ◌∙◌, arith}
use Rattle.patr_chart.proofs.Names.{Edge, front, get_before, get_last, is_partner, partners, partners_in, partners_of, places, take-append-le, take-append_seam}

pub partners_last : (es : List Edge) (e : Edge) → partners (es ++ e ∷ []) (length es) ≡ partners_in es e
partners_last es e = ap (λ o. partners_of (es ++ e ∷ []) (length es) o) (get_last es e) ∙ ap (λ l. partners_in l e) (take-append_seam es (e ∷ []))

pub partners_before : (es : List Edge) (e : Edge) (k : ℕ) → k < length es → partners (es ++ e ∷ []) k ≡ partners es k
partners_before es e k h = ap (λ o. partners_of (es ++ e ∷ []) k o) (get_before es e k h) ∙ go (slice_get es k)
  where
    go : (o : Option Edge) → partners_of (es ++ e ∷ []) k o ≡ partners_of es k o
    go None = refl
    go (Some f) = ap (λ l. partners_in l f) (take-append-le k es (e ∷ []) (omega (arith, h)))

-- of the edges that pass the test as many as were counted are the partners
pub found : (es : List Edge) (k : ℕ) (e : Edge) (list : List ℕ) (count : ℕ) → slice_get es k ≡ Some e → list ≡ places (is_partner e) 0 es → count ≡ length (partners es k) → take count list ≡ partners es k
found es k e list count at is n =
    let here : partners es k ≡ places (is_partner e) 0 (take k es) = ap (λ o. partners_of es k o) at in
    ap (λ m. take m list) (n ∙ ap length here) ∙ (ap (λ l. take (length (places (is_partner e) 0 (take k es))) l) is ∙ (front (is_partner e) k es ∙ sym here))
