-- A scan from another byte finds the same tokens, each with another start.
use Rattle.std.proofs.Common.{◌≡◌, ℕ, zero, suc, ◌+◌, ◌-◌, List, [], ◌∷◌, map, Ok, Err, refl}
use Rattle.patr_model.specs.declared.lookahead.Lookahead.{Lookahead}
use Rattle.patr_model.specs.declared.lookahead.Lookahead.TheVariants.{Blank, Piece, Control}
use Rattle.patr_lexicon.proofs.Names.{Place, Token, Scanned, front, step, with_token, read_front, scan, scanned_tokens, anywhere}

-- what a scan gives, wherever the tokens start
abbrev pub scanned_anywhere : Scanned → Scanned
scanned_anywhere (Ok ts) = Ok (map anywhere ts)
scanned_anywhere (Err p) = Err p

token_anywhere : (t u : Token) (r s : Scanned) → anywhere t ≡ anywhere u → scanned_anywhere r ≡ scanned_anywhere s → scanned_anywhere (with_token t r) ≡ scanned_anywhere (with_token u s)
token_anywhere t u (Ok ts) (Ok us) e f = cc
token_anywhere t u (Err p) (Err q) e f = f
token_anywhere t u _ _ e f = absurd cc

pub scan_anywhere : (skip at at' : ℕ) (p : Place) (bs : List ℕ) → scanned_anywhere (scan skip at p bs) ≡ scanned_anywhere (scan skip at' p bs)
unfolding scan
scan_anywhere zero at at' p [] = refl
scan_anywhere (suc n) at at' p [] = refl
scan_anywhere (suc n) at at' p (b ∷ bs) = scan_anywhere n (at + 1) (at' + 1) (step p b) bs
scan_anywhere zero at at' p (b ∷ bs) = by (front (b ∷ bs)) (λ n. scan_anywhere n (at + 1) (at' + 1) (step p b) bs)
  where
    by : (f : Lookahead) → ((n : ℕ) → scanned_anywhere (scan n (at + 1) (step p b) bs) ≡ scanned_anywhere (scan n (at' + 1) (step p b) bs))
        → scanned_anywhere (read_front f at p (b ∷ bs) (λ n. scan n (at + 1) (step p b) bs)) ≡ scanned_anywhere (read_front f at' p (b ∷ bs) (λ n. scan n (at' + 1) (step p b) bs))
    by (Blank n) h = h (n - 1)
    by (Piece k n) h = token_anywhere _ _ (scan (n - 1) (at + 1) (step p b) bs) (scan (n - 1) (at' + 1) (step p b) bs) refl (h (n - 1))
    by Control h = refl

-- the tokens of two scans that give the same
pub tokens_anywhere : (r s : Scanned) → scanned_anywhere r ≡ scanned_anywhere s → map anywhere (scanned_tokens r) ≡ map anywhere (scanned_tokens s)
tokens_anywhere (Ok ts) (Ok us) e = cc
tokens_anywhere (Err p) (Err q) e = refl
tokens_anywhere _ _ e = absurd cc
