-- Parses by words of two types: what is read belongs together, and so does what is left, or the refusals and the tokens from their place on.
use Rattle.std.proofs.Common.{◌≡◌, ℕ, zero, suc, Bool, true, false, cond, ◌&&◌, ◌||◌, List, [], ◌∷◌, ◌++◌, map, length, refl, sym, ap, ◌∙◌, subst, true≢false}
use Rattle.patr_model.specs.declared.notation.What.{What}
use Rattle.patr_model.specs.Grammar.{Row, Rows, Done, One, OneOf, Optional, None', Or}
use Rattle.patr_model.specs.Renaming.{Each, SameRow, SameRows'}
use Rattle.patr_model.specs.Lexemes.{begins}
use Rattle.patr_model.specs.Parsing.{Refusal, Parse, Got, Stops, ◌>>=◌, Reads, one, maybe, many, star, plus}
use Rattle.patr_model.specs.Productions.{Item, Single, Choice, Option', in_front, row, rows, things, things_of}
use Rattle.patr_model.specs.Agreeing.{SameRefusal}
use Rattle.patr_model.proofs.Renaming.{each_length}

-- ---- lists and rows

module _ {X Y : Type 0} (B : X → Y → Type 0) where
  pub each_append : (xs xs' : List X) (ys ys' : List Y) → Each B xs ys → Each B xs' ys' → Each B (xs ++ xs') (ys ++ ys')
  each_append [] xs' [] ys' h k = k
  each_append [] xs' (y ∷ ys) ys' h k = absurd h
  each_append (x ∷ xs) xs' [] ys' h k = absurd h
  each_append (x ∷ xs) xs' (y ∷ ys) ys' h k = (h.0, each_append xs xs' ys ys' h.1 k)

  pub each_map : {A A' : Type 0} (C : A → A' → Type 0) (f : A → X) (g : A' → Y) → ((a : A) (b : A') → C a b → B (f a) (g b)) → (xs : List A) (ys : List A') → Each C xs ys → Each B (map f xs) (map g ys)
  each_map C f g k [] [] h = tt
  each_map C f g k [] (y ∷ ys) h = absurd h
  each_map C f g k (x ∷ xs) [] h = absurd h
  each_map C f g k (x ∷ xs) (y ∷ ys) h = (k x y h.0, each_map C f g k xs ys h.1)

  -- items of one form, whose parts belong together
  abbrev pub SameItem : Item X → Item Y → Type 0
  SameItem (Single x) (Single y) = B x y
  SameItem (Choice rs) (Choice ss) = SameRows' B rs ss
  SameItem (Option' rs) (Option' ss) = SameRows' B rs ss
  SameItem _ _ = ⊥

  pub in_front_agrees : (x : Item X) (y : Item Y) (r : Row X) (s : Row Y) → SameItem x y → SameRow B r s → SameRow B (in_front x r) (in_front y s)
  in_front_agrees (Single x) (Single y) r s h k = (h, k)
  in_front_agrees (Choice rs) (Choice ss) r s h k = (h, k)
  in_front_agrees (Option' rs) (Option' ss) r s h k = (h, k)
  in_front_agrees _ _ r s h k = absurd h

  pub row_agrees : (xs : List (Item X)) (ys : List (Item Y)) → Each SameItem xs ys → SameRow B (row xs) (row ys)
  row_agrees [] [] h = tt
  row_agrees [] (y ∷ ys) h = absurd h
  row_agrees (x ∷ xs) [] h = absurd h
  row_agrees (x ∷ xs) (y ∷ ys) h = in_front_agrees x y (row xs) (row ys) h.0 (row_agrees xs ys h.1)

  pub rows_agree : (rs : List (Row X)) (ss : List (Row Y)) → Each (SameRow B) rs ss → SameRows' B (rows rs) (rows ss)
  rows_agree [] [] h = tt
  rows_agree [] (s ∷ ss) h = absurd h
  rows_agree (r ∷ rs) [] h = absurd h
  rows_agree (r ∷ rs) (s ∷ ss) h = (h.0, rows_agree rs ss h.1)

  mutual
    -- the single things of rows that belong together do so
    pub things_agree : (r : Row X) (s : Row Y) → SameRow B r s → Each B (things r) (things s)
    things_agree Done Done h = tt
    things_agree (One x r) (One y s) h = (h.0, things_agree r s h.1)
    things_agree (OneOf rs r) (OneOf ss s) h = each_append (things_of rs) (things r) (things_of ss) (things s) (things_of_agree rs ss h.0) (things_agree r s h.1)
    things_agree (Optional rs r) (Optional ss s) h = each_append (things_of rs) (things r) (things_of ss) (things s) (things_of_agree rs ss h.0) (things_agree r s h.1)
    things_agree _ _ h = absurd h

    pub things_of_agree : (rs : Rows X) (ss : Rows Y) → SameRows' B rs ss → Each B (things_of rs) (things_of ss)
    things_of_agree None' None' h = tt
    things_of_agree (Or r rs) (Or s ss) h = each_append (things r) (things_of rs) (things s) (things_of ss) (things_agree r s h.0) (things_of_agree rs ss h.1)
    things_of_agree _ _ h = absurd h

-- a row of single things has these things
pub things_single : {X : Type 0} (xs : List X) → things (row (map Single xs)) ≡ xs
things_single [] = refl
things_single (x ∷ xs) = ap (λ ys. x ∷ ys) (things_single xs)

-- tests that answer the same, joined
pub either_agrees : {a b c d : Bool} → a ≡ b → c ≡ d → (a || c) ≡ (b || d)
either_agrees {b = b} {c = c} e f = ap (λ x. x || c) e ∙ ap (λ x. b || x) f

pub both_agree : {a b c d : Bool} → a ≡ b → c ≡ d → (a && c) ≡ (b && d)
both_agree {b = b} {c = c} e f = ap (λ x. x && c) e ∙ ap (λ x. b && x) f

-- ---- tests

module _ {T U : Type 0} (R : T → U → Type 0) where
  -- a test of tokens answers the same of those that belong together
  abbrev pub SameTest : (T → Bool) → (U → Bool) → Type 0
  SameTest f g = (t : T) (u : U) → R t u → f t ≡ g u

  -- and a test of what stands at the front
  abbrev pub SameStart : (List T → Bool) → (List U → Bool) → Type 0
  SameStart f g = (ts : List T) (us : List U) → Each R ts us → f ts ≡ g us

module _ {T U : Type 0} {R : T → U → Type 0} where
  pub maybe_agrees : {f : T → Bool} {g : U → Bool} → SameTest R f g → (ts : List T) (us : List U) → Each R ts us → Each R (maybe f ts) (maybe g us)
  maybe_agrees test [] [] e = tt
  maybe_agrees test [] (u ∷ us) e = absurd e
  maybe_agrees test (t ∷ ts) [] e = absurd e
  maybe_agrees {f = f} {g = g} test (t ∷ ts) (u ∷ us) e = subst (λ d. Each R (cond (f t) ts (t ∷ ts)) (cond d us (u ∷ us))) (test t u e.0) (go (f t))
    where
      go : (b : Bool) → Each R (cond b ts (t ∷ ts)) (cond b us (u ∷ us))
      go true = e.1
      go false = e

  pub begins_agrees : {f : T → Bool} {g : U → Bool} → SameTest R f g → SameStart R (begins f) (begins g)
  begins_agrees test [] [] e = refl
  begins_agrees test [] (u ∷ us) e = absurd e
  begins_agrees test (t ∷ ts) [] e = absurd e
  begins_agrees test (t ∷ ts) (u ∷ us) e = test t u e.0

-- ---- parses

module _ {T U W V : Type 0} (R : T → U → Type 0) (S : W → V → Type 0) where
  abbrev pub Together : {P Q X Y : Type 0} → (P → Q → Type 0) → (X → Y → Type 0) → Parse T W P X → Parse U V Q Y → Type 0
  Together Z B (Got x s) (Got y t) = B x y × Z s t
  Together Z B (Got x s) (Stops r us) = ⊥
  Together Z B (Stops r ts) (Got y t) = ⊥
  Together Z B (Stops r ts) (Stops r' us) = SameRefusal S r r' × Each R ts us

  -- what is got belongs together, and what is left; or the refusals do, and the tokens from their place on
  pub record SameParse {P Q X Y : Type 0} (Z : P → Q → Type 0) (B : X → Y → Type 0) (p : Parse T W P X) (q : Parse U V Q Y) : Type 0 where
    pub together : Together Z B p q

  -- a production reads what belongs together from tokens that do
  abbrev pub SameReads : {X Y : Type 0} → (X → Y → Type 0) → Reads T W X → Reads U V Y → Type 0
  SameReads B f g = (ts : List T) (us : List U) → Each R ts us → SameParse (Each R) B (f ts) (g us)

module _ {T U W V : Type 0} {R : T → U → Type 0} {S : W → V → Type 0} where
  pub got : {P Q X Y : Type 0} {Z : P → Q → Type 0} {B : X → Y → Type 0} {x : X} {y : Y} {s : P} {t : Q} → B x y → Z s t → SameParse R S Z B (Got x s) (Got y t)
  got b z = record { together = (b, z) }

  pub stops : {P Q X Y : Type 0} {Z : P → Q → Type 0} {B : X → Y → Type 0} {r : Refusal W} {r' : Refusal V} {ts : List T} {us : List U} → SameRefusal S r r' → Each R ts us → SameParse R S Z B (Stops r ts) (Stops r' us)
  stops r e = record { together = (r, e) }

  pub bind_agrees : {P Q P' Q' X Y X' Y' : Type 0} {Z : P → Q → Type 0} {B : X → Y → Type 0} {Z' : P' → Q' → Type 0} {B' : X' → Y' → Type 0}
      {p : Parse T W P X} {q : Parse U V Q Y} {f : X → P → Parse T W P' X'} {g : Y → Q → Parse U V Q' Y'}
      → SameParse R S Z B p q → ((x : X) (y : Y) → B x y → (s : P) (t : Q) → Z s t → SameParse R S Z' B' (f x s) (g y t)) → SameParse R S Z' B' (p >>= f) (q >>= g)
  bind_agrees {p = Got x s} {q = Got y t} h k = k x y h.together.0 s t h.together.1
  bind_agrees {p = Got x s} {q = Stops r us} h k = absurd h.together
  bind_agrees {p = Stops r ts} {q = Got y t} h k = absurd h.together
  bind_agrees {p = Stops r ts} {q = Stops r' us} h k = record { together = h.together }

  pub cond_agrees : {P Q X Y : Type 0} {Z : P → Q → Type 0} {B : X → Y → Type 0} {b c : Bool} {p p' : Parse T W P X} {q q' : Parse U V Q Y}
      → b ≡ c → SameParse R S Z B p q → SameParse R S Z B p' q' → SameParse R S Z B (cond b p p') (cond c q q')
  cond_agrees {b = true} {c = true} e h k = h
  cond_agrees {b = false} {c = false} e h k = k
  cond_agrees {b = true} {c = false} e h k = absurd (true≢false e)
  cond_agrees {b = false} {c = true} e h k = absurd (true≢false (sym e))

  pub one_at : {f : T → Bool} {g : U → Bool} {w w' : What} → SameTest R f g → w ≡ w' → SameReads R S R (one f w) (one g w')
  one_at test same [] [] e = stops same e
  one_at test same [] (u ∷ us) e = absurd e
  one_at test same (t ∷ ts) [] e = absurd e
  one_at test same (t ∷ ts) (u ∷ us) e = cond_agrees (test t u e.0) (got e.0 e.1) (stops same e)

  pub one_agrees : {f : T → Bool} {g : U → Bool} → SameTest R f g → (w : What) → SameReads R S R (one f w) (one g w)
  one_agrees test w = one_at test refl

  pub many_agrees : {X Y : Type 0} {B : X → Y → Type 0} {starts : List T → Bool} {starts' : List U → Bool} {read : Reads T W X} {read' : Reads U V Y}
      → SameStart R starts starts' → SameReads R S B read read' → (n : ℕ) → SameReads R S (Each B) (many n starts read) (many n starts' read')
  unfolding many
  many_agrees start reads zero ts us e = got tt e
  many_agrees start reads (suc n) ts us e = cond_agrees (start ts us e)
      (bind_agrees (reads ts us e) (λ x y b ts us e. bind_agrees (many_agrees start reads n ts us e) (λ xs ys bs ts us e. got (b, bs) e)))
      (got tt e)

  pub star_agrees : {X Y : Type 0} {B : X → Y → Type 0} {starts : List T → Bool} {starts' : List U → Bool} {read : Reads T W X} {read' : Reads U V Y}
      → SameStart R starts starts' → SameReads R S B read read' → SameReads R S (Each B) (star starts read) (star starts' read')
  star_agrees {B = B} {starts = starts} {starts' = starts'} {read = read} {read' = read'} start reads ts us e =
      subst (λ n. SameParse R S (Each R) (Each B) (many (length ts) starts read ts) (many n starts' read' us)) (each_length R ts us e) (many_agrees start reads (length ts) ts us e)

  pub plus_agrees : {X Y : Type 0} {B : X → Y → Type 0} {starts : List T → Bool} {starts' : List U → Bool} {read : Reads T W X} {read' : Reads U V Y}
      → SameStart R starts starts' → SameReads R S B read read' → SameReads R S (Each B) (plus starts read) (plus starts' read')
  plus_agrees start reads ts us e = bind_agrees (reads ts us e) (λ x y b ts us e. bind_agrees (star_agrees start reads ts us e) (λ xs ys bs ts us e. got (b, bs) e))
