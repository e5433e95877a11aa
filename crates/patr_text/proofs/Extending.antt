-- Tables of texts that grow.
use Rattle.std.proofs.Common.{◌≡◌, ℕ, Bool, true, false, cond, List, [], ◌∷◌, ◌++◌, slice_get, Some, refl, sym, ap, ◌∙◌, subst, append_assoc, append-nil}
use Rattle.patr_lists.proofs.Places.{get_left}
use Rattle.patr_text.specs.Texts.{Extends, holds, with_text}

extends_by : (b : Bool) (texts : List (List ℕ)) (t : List ℕ) → Extends texts (cond b texts (texts ++ t ∷ []))
extends_by true texts t = ([], sym (append-nil texts))
extends_by false texts t = (t ∷ [], refl)

pub extends_with : (texts : List (List ℕ)) (t : List ℕ) → Extends texts (with_text texts t)
extends_with texts t = extends_by (holds texts t) texts t

pub extends_trans : (a b c : List (List ℕ)) → Extends a b → Extends b c → Extends a c
extends_trans a b c p q = (p.0 ++ q.0, q.1 ∙ ap (λ (u : List (List ℕ)). u ++ q.0) p.1 ∙ append_assoc a p.0 q.0)

-- a text keeps its number
pub text_still : (old new : List (List ℕ)) → Extends old new → (i : ℕ) (t : List ℕ) → slice_get old i ≡ Some t → slice_get new i ≡ Some t
text_still old new e i t is = subst (λ (u : List (List ℕ)). slice_get u i ≡ Some t) (sym e.1) (get_left old e.0 i t is)
