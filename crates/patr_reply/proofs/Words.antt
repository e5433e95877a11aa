-- The text of a word of a slice.
use Rattle.std.proofs.Common.{◌≡◌, ℕ, zero, suc, ◌<◌, List, [], ◌∷◌, length, map, Some, slice_get, slice_index_or, Bor, subst}
use Rattle.patr_reply.proofs.Names.{length-map, slice_get_within, some_inj}

abbrev pub texts : List (Bor (List ℕ)) → List (List ℕ)
texts ws = map (λ (w : Bor (List ℕ)). w.now) ws

pub word_there : (ws : List (Bor (List ℕ))) (i : ℕ) (d : Bor (List ℕ)) (w : List ℕ) → slice_get (texts ws) i ≡ Some w → (slice_index_or ws i d).now ≡ w
word_there [] i d w h = cc
word_there (x ∷ ws) zero d w h = some_inj x.now w h
word_there (x ∷ ws) (suc i) d w h = word_there ws i d w h

pub word_within : (ws : List (Bor (List ℕ))) (i : ℕ) (w : List ℕ) → slice_get (texts ws) i ≡ Some w → i < length ws
word_within ws i w h = subst (λ n. i < n) (length-map ws (λ (w : Bor (List ℕ)). w.now)) (slice_get_within (texts ws) i w h)
