-- What a loop has read, and what is still read.
use Rattle.std.proofs.Common.{◌≡◌, ℕ, zero, suc, ◌-◌, ◌<◌, ◌≤◌, Bool, true, false, cond, List, [], ◌∷◌, ◌++◌, length, Result, Ok, Err, refl, sym, ap, ◌∙◌, arith, append_assoc, append-nil}
use Rattle.std.proofs.lemmas.Bool.{true≢false}
use Rattle.patr_model.specs.Parsing as parsing
use Rattle.patr_model.specs.Productions.{RightReads}
use Rattle.patr_grammar.proofs.Names.{Fails, Fault, GivesAt, Got, Id, Left, Lexeme, Memory, Parse, Reads, Refused, Stops, ◌>>=◌, by_id, many, many_right, onto, refusal_seen}
use Rattle.patr_grammar.specs.declared.reader.Refusal.{Refusal}

pub onto_one : {T W S X : Type 0} (front : List X) (x : X) (p : Parse T W S (List X)) → onto front (p >>= λ xs s. Got (x ∷ xs) s) ≡ onto (front ++ x ∷ []) p
onto_one {X = X} front x (Got xs s) = ap (λ (ys : List X). Got ys s) (sym (append_assoc front (x ∷ []) xs))
onto_one front x (Stops r ts) = refl

pub onto_none : {T W S X : Type 0} (p : Parse T W S (List X)) → onto [] p ≡ p
onto_none (Got xs s) = refl
onto_none (Stops r ts) = refl

-- what fails at first fails
pub fails_at_first : {S R X Y : Type 0} (f : Fault Refusal) (rest : List Lexeme) (p : Parse Lexeme Id S X) (k : X → S → Parse Lexeme Id R Y) → Fails f rest p → Fails f rest (p >>= k)
fails_at_first Memory rest p k g = tt
fails_at_first (Refused r) rest p k g = ap (λ p. p >>= k) g

-- things are read while one may begin, at most so many
pub record IsMany {T W S X : Type 0} (size : S → ℕ) (starts : S → Bool) (read : S → Parse T W S X) (reads : ℕ → S → Parse T W S (List X)) : Type 0 where
  pub none : (s : S) → reads 0 s ≡ Got [] s
  pub more : (n : ℕ) (s : S) → reads (suc n) s ≡ cond (starts s) (read s >>= λ x s. reads n s >>= λ xs s. Got (x ∷ xs) s) (Got [] s)
  pub some : (s : S) → starts s ≡ true → 1 ≤ size s

-- behind the front, what is left gives the whole
pub record IsLeft {T W S X : Type 0} (size : S → ℕ) (reads : ℕ → S → Parse T W S (List X)) (front : List X) (s : S) (total : Parse T W S (List X)) : Type 0 where
  pub most : ℕ
  pub enough : size s ≤ most
  pub is : onto front (reads most s) ≡ total

one_more : (n m : ℕ) → 1 ≤ m → m ≤ n → n ≡ suc (n - 1)
one_more n m h le = omega arith

module _ {T W S X : Type 0} {size : S → ℕ} {starts : S → Bool} {read : S → Parse T W S X} {reads : ℕ → S → Parse T W S (List X)} (m : IsMany size starts read reads) where
  -- one more turn
  turn : (front : List X) (s : S) (total : Parse T W S (List X)) (h : IsLeft size reads front s total) → starts s ≡ true → onto front (read s >>= λ x s. reads (h.most - 1) s >>= λ xs s. Got (x ∷ xs) s) ≡ total
  turn front s total h e =
      ap (λ b. onto front (cond b (read s >>= λ x s. reads (h.most - 1) s >>= λ xs s. Got (x ∷ xs) s) (Got [] s))) (sym e)
      ∙ ap (onto front) (sym (m.more (h.most - 1) s)) ∙ ap (λ n. onto front (reads n s)) (sym (one_more h.most (size s) (m.some s e) h.enough)) ∙ h.is

  pub goes_on : (front : List X) (s t : S) (x : X) (total : Parse T W S (List X)) → starts s ≡ true → read s ≡ Got x t → size t < size s → IsLeft size reads front s total → IsLeft size reads (front ++ x ∷ []) t total
  goes_on front s t x total e g less h = record {
    most = h.most - 1;
    enough = omega (arith, h.enough);
    is = sym (onto_one front x (reads (h.most - 1) t)) ∙ ap (λ p. onto front (p >>= λ x s. reads (h.most - 1) s >>= λ xs s. Got (x ∷ xs) s)) (sym g) ∙ turn front s total h e;
  }

  pub stops : (front : List X) (s : S) (r : parsing.Refusal W) (rest : List T) (total : Parse T W S (List X)) → starts s ≡ true → read s ≡ Stops r rest → IsLeft size reads front s total → total ≡ Stops r rest
  stops front s r rest total e g h = sym (turn front s total h e) ∙ ap (λ p. onto front (p >>= λ x s. reads (h.most - 1) s >>= λ xs s. Got (x ∷ xs) s)) g

  pub ends : (front : List X) (s : S) (total : Parse T W S (List X)) → starts s ≡ false → IsLeft size reads front s total → total ≡ Got front s
  ends front s total e h = sym h.is ∙ none_left h.most
    where
      none_left : (n : ℕ) → onto front (reads n s) ≡ Got front s
      none_left zero = ap (onto front) (m.none s) ∙ ap (λ xs. Got xs s) (append-nil front)
      none_left (suc n) = ap (onto front) (m.more n s ∙ ap (λ b. cond b (read s >>= λ x s. reads n s >>= λ xs s. Got (x ∷ xs) s) (Got [] s)) e) ∙ ap (λ xs. Got xs s) (append-nil front)

-- what fails in a turn fails
pub fails_in : {S X : Type 0} {size : S → ℕ} {starts : S → Bool} {read : S → Parse Lexeme Id S X} {reads : ℕ → S → Parse Lexeme Id S (List X)} (m : IsMany size starts read reads)
    (f : Fault Refusal) (front : List X) (s : S) (rest : List Lexeme) (total : Parse Lexeme Id S (List X)) → starts s ≡ true → IsLeft size reads front s total → Fails f rest (read s) → Fails f rest total
fails_in m Memory front s rest total e h g = tt
fails_in m (Refused r) front s rest total e h g = stops m front s (refusal_seen r) rest total e g h

-- what is read as v, and then changed by f
pub gives_changed : {S A X Y : Type 0} (v : A → X) (f : X → Y) (result : Result A (Fault Refusal)) (s : S) (rest : List Lexeme) (p : Parse Lexeme Id S X) (q : Parse Lexeme Id S Y)
    → q ≡ (p >>= λ x s. Got (f x) s) → GivesAt v result s rest p → GivesAt (λ a. f (v a)) result s rest q
gives_changed v f (Ok a) s rest p q e g = e ∙ ap (λ p. p >>= λ x s. Got (f x) s) g
gives_changed v f (Err Memory) s rest p q e g = tt
gives_changed v f (Err (Refused r)) s rest p q e g = e ∙ ap (λ p. p >>= λ x s. Got (f x) s) g

not_empty_by : (starts : List Lexeme → Bool) → starts [] ≡ false → (ts : List Lexeme) → starts ts ≡ true → 1 ≤ length ts
not_empty_by starts none [] h = absurd (true≢false (sym h ∙ none))
not_empty_by starts none (t ∷ ts) h = omega arith

-- ---- things read from lexemes

abbrev pub reads : {X : Type 0} → (List Lexeme → Bool) → Reads Lexeme Id X → ℕ → Reads Lexeme Id (List X)
reads starts read n ts = many n starts read ts

pub many_things : {X : Type 0} (starts : List Lexeme → Bool) (read : Reads Lexeme Id X) → starts [] ≡ false → IsMany length starts read (reads starts read)
unfolding many
many_things starts read h = record { none = λ s. refl; more = λ n s. refl; some = not_empty_by starts h }

-- ---- items of a right side

abbrev pub size : Left Lexeme → ℕ
size s = length s.tokens

abbrev pub reads_right : {X : Type 0} → (List Lexeme → Bool) → RightReads by_id X → ℕ → RightReads by_id (List X)
reads_right starts read n s = many_right by_id n starts read s

pub many_items : {X : Type 0} (starts : List Lexeme → Bool) (read : RightReads by_id X) → starts [] ≡ false → IsMany size (λ s. starts s.tokens) read (reads_right starts read)
unfolding many_right
many_items starts read h = record { none = λ s. refl; more = λ n s. refl; some = λ s. not_empty_by starts h s.tokens }
