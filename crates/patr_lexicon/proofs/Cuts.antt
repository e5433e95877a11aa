-- The tokens of pieces, cut from a text, and the features that they stand for.
use Rattle.std.proofs.Common.{◌≡◌, ℕ, ◌+◌, ◌-◌, ◌<◌, List, [], ◌∷◌, ◌++◌, length, get_or, map, take, drop, Ok, Err, refl, sym, ap, ◌∙◌, subst, arith, append-nil, flat_map}
use Rattle.patr_lexicon.proofs.Names.{All, flat_map-append, map-append, map_more, All-nil, All-append, Place, after, start_place, scan, by_text, elements, piece_tokens, end_of, as_features, features_of, stage, piece_seen, pieces_seen, bytes_in, StandsAt, AreLaid, anywhere, AreCutFrom}
use Rattle.patr_model.specs.LexiconLines.{Piece}
use Rattle.patr_text.specs.declared.token.Token as code
use Rattle.patr_text.specs.Tokens.{seen, IsCut, InOrder}
use Rattle.patr_grammar.specs.Views.{IsSpelled, bytes_of}
use Rattle.patr_grammar.specs.Features.{features_in}
use Rattle.patr_grammar.proofs.Spelled.{spelled_in_order, bytes_in_order}
use Rattle.patr_lexicon.specs.declared.line.Piece as code_piece
use Rattle.patr_lexicon.specs.declared.features.Features as code_features
use Rattle.patr_lexicon.proofs.Scans.{scanned_anywhere, scan_anywhere, tokens_anywhere}
use Rattle.patr_lexicon.proofs.SameFeatures.{features_alike}

bytes_two : (ts us : List code.Token) → bytes_of (ts ++ us) ≡ bytes_of ts + bytes_of us
bytes_two [] us = omega arith
bytes_two (t ∷ ts) us = omega (arith, bytes_two ts us)

bytes_in_two : (ps qs : List Piece) → bytes_in (ps ++ qs) ≡ bytes_in ps + bytes_in qs
bytes_in_two [] qs = omega arith
bytes_in_two (p ∷ ps) qs = omega (arith, bytes_in_two ps qs)

module _ (text : List ℕ) where
  pub none_cut : AreCutFrom text [] []
  none_cut = record { spelled = All-nil (IsSpelled text); same = refl; few = omega arith }

  -- the tokens of more pieces
  pub more_cut : (ps qs : List Piece) (ts us : List code.Token) → AreCutFrom text ps ts → AreCutFrom text qs us → AreCutFrom text (ps ++ qs) (ts ++ us)
  more_cut ps qs ts us h k = record {
    spelled = All-append (IsSpelled text) ts us h.spelled k.spelled;
    same = ap (map anywhere) (map-append (seen text) ts us) ∙ map-append anywhere (map (seen text) ts) (map (seen text) us)
        ∙ ap (λ l. l ++ map anywhere (map (seen text) us)) h.same ∙ ap (λ l. map anywhere (flat_map piece_tokens ps) ++ l) k.same
        ∙ sym (ap (map anywhere) (flat_map-append piece_tokens ps qs) ∙ map-append anywhere (flat_map piece_tokens ps) (flat_map piece_tokens qs));
    few = omega (arith, bytes_two ts us, bytes_in_two ps qs, h.few, k.few);
  }

  -- the tokens of one piece more of a list
  pub next_cut : (ps : List code_piece.Piece) (i : ℕ) (p : code_piece.Piece) (old new ts : List code.Token) → i < length ps → AreCutFrom text (pieces_seen (take i ps)) old
      → AreCutFrom text (piece_seen (get_or ps i p) ∷ []) ts → new ≡ old ++ ts → AreCutFrom text (pieces_seen (take (i + 1) ps)) new
  next_cut ps i p old new ts lt h k more =
      subst (AreCutFrom text (pieces_seen (take (i + 1) ps))) (sym more)
      (subst (λ qs. AreCutFrom text qs (old ++ ts)) (sym (map_more piece_seen ps i p lt)) (more_cut (pieces_seen (take i ps)) (piece_seen (get_or ps i p) ∷ []) old ts h k))

  module _ (start : ℕ) (p : Piece) (stands : StandsAt text start p) where
    -- the tokens of one piece
    pub piece_cut : (ts : List code.Token) → scan 0 start p.place (drop start (take (start + length p.text) text)) ≡ Ok (map (seen text) ts)
        → All (IsCut text) ts → InOrder start (start + length p.text) ts → AreCutFrom text (p ∷ []) ts
    piece_cut ts read cut order =
        let same : scan 0 start p.place p.text ≡ Ok (map (seen text) ts) = ap (scan 0 start p.place) (sym stands.slice) ∙ read in
        record {
          spelled = spelled_in_order text ts start (start + length p.text) cut order;
          same = tokens_anywhere (Ok (map (seen text) ts)) (scan 0 0 p.place p.text) (ap scanned_anywhere (sym same) ∙ scan_anywhere 0 start 0 p.place p.text) ∙ ap (map anywhere) (sym (append-nil (piece_tokens p)));
          few = omega (arith, bytes_in_order ts start (start + length p.text) (omega arith) order);
        }

    -- and of one with a bad character
    pub bad_cut : (place : Place) (ts : List code.Token) → scan 0 start p.place (drop start (take (start + length p.text) text)) ≡ Err place → ts ≡ [] → AreCutFrom text (p ∷ []) ts
    bad_cut place ts read none =
        let same : scan 0 start p.place p.text ≡ Err place = ap (scan 0 start p.place) (sym stands.slice) ∙ read in
        let tokens = tokens_anywhere (Err place) (scan 0 0 p.place p.text) (ap scanned_anywhere (sym same) ∙ scan_anywhere 0 start 0 p.place p.text) ∙ ap (map anywhere) (sym (append-nil (piece_tokens p))) in
        subst (AreCutFrom text (p ∷ [])) (sym none) (record { spelled = All-nil (IsSpelled text); same = tokens; few = omega arith })

  -- what the tokens stand for is what the pieces do
  pub features_cut : (ps : List Piece) (ts : List code.Token) → AreCutFrom text ps ts → end_of start_place ps ≡ after start_place text → features_in stage text ts ≡ features_of stage ps
  features_cut ps ts h end =
      ap (λ (p : Place). as_features p (elements by_text stage (map (seen text) ts))) (sym end)
      ∙ features_alike stage (end_of start_place ps) (map (seen text) ts) (flat_map piece_tokens ps) h.same

-- and so of the front of a text that ends with the features
pub elements_cut : (text front : List ℕ) (f : code_features.Features) (ts us : List code.Token) → AreLaid text f → front ≡ take (f.end - 0) text → AreCutFrom front (pieces_seen f.pieces.items) ts → us ≡ ts
    → features_in stage front us ≡ features_of stage (pieces_seen f.pieces.items)
elements_cut text front f ts us laid is cut same =
    let n : f.end - 0 ≡ f.end = omega arith in
    features_cut front (pieces_seen f.pieces.items) us (subst (AreCutFrom front (pieces_seen f.pieces.items)) (sym same) cut) (laid.end ∙ ap (λ k. after start_place (take k text)) (sym n) ∙ ap (after start_place) (sym is))
