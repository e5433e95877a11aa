-- Why features are refused: something else is expected, a path is too long, or choices are too deep.
use Rattle.std.proofs.Common.{ℕ, zero, suc, Bool, true, false, cond, List, [], ◌∷◌, length, sym, subst}
use Rattle.patr_grammar.proofs.Names.{AnyAttribute, CloseBrace, Equal, Expected, FeatureText, Got, Greater, Item, Less, OpenBrace, Parse, PathTooLong, Reads, Refusal, Stops, Word, Words, ◌>>=◌, begins, begins_feature, braced, elements, equation, feature, is_kind, is_symbol, many, one, path, single_feature, stage, star, term, word_list}
use Rattle.patr_model.specs.declared.notation.What.{What}
use Rattle.patr_model.specs.declared.notation.What.TheVariants as what
use Rattle.patr_model.specs.declared.lookahead.Kind.TheVariants.{Slash}
use Rattle.patr_model.specs.Parsing.{TooDeep}
use Rattle.patr_model.specs.Productions.{alternative, choices}
use Rattle.patr_grammar.proofs.Features.{closed, elements_is}

-- such a refusal
abbrev pub IsOfFeatures : {W : Type 0} → Refusal W → Type 0
IsOfFeatures (Expected w) = Unit {0}
IsOfFeatures PathTooLong = Unit {0}
IsOfFeatures TooDeep = Unit {0}
IsOfFeatures _ = ⊥

abbrev pub StopsSo : {T W S X : Type 0} → Parse T W S X → Type 0
StopsSo (Got x s) = Unit {0}
StopsSo (Stops r ts) = IsOfFeatures r

-- what is read is refused so, if at all
pub record IsRefusedSo {T W S X : Type 0} (p : Parse T W S X) : Type 0 where
  pub is : StopsSo p

got : {T W S X : Type 0} {x : X} {s : S} → IsRefusedSo {T = T} {W = W} (Got x s)
got = record { is = tt }

stops : {T W S X : Type 0} {r : Refusal W} {ts : List T} → IsOfFeatures r → IsRefusedSo {T = T} {W = W} {S = S} {X = X} (Stops r ts)
stops h = record { is = h }

binds : {T W S R X Y : Type 0} {p : Parse T W S X} {f : X → S → Parse T W R Y} → IsRefusedSo p → ((x : X) (s : S) → IsRefusedSo (f x s)) → IsRefusedSo (p >>= f)
binds {p = Got x s} h k = k x s
binds {p = Stops r ts} h k = record { is = h.is }

chooses : {T W S X : Type 0} (b : Bool) {p q : Parse T W S X} → IsRefusedSo p → IsRefusedSo q → IsRefusedSo (cond b p q)
chooses true h k = h
chooses false h k = k

ones : {T W : Type 0} (test : T → Bool) (w : What) (ts : List T) → IsRefusedSo (one {T = T} {W = W} test w ts)
ones test w [] = stops tt
ones test w (t ∷ ts) = chooses (test t) got (stops tt)

manys : {T W X : Type 0} (n : ℕ) (starts : List T → Bool) (read : Reads T W X) → ((ts : List T) → IsRefusedSo (read ts)) → (ts : List T) → IsRefusedSo (many n starts read ts)
unfolding many
manys zero starts read h ts = got
manys (suc n) starts read h ts = chooses (starts ts) (binds (h ts) (λ x rest. binds (manys n starts read h rest) (λ xs rest. got))) got

module _ {T W : Type 0} (words : Words T W) where
  word_lists : (left n : ℕ) (ts : List T) → IsRefusedSo (word_list words left n ts)
  unfolding word_list
  word_lists left zero ts = got
  word_lists left (suc n) [] = got
  word_lists zero (suc n) (t ∷ ts) = chooses (is_kind words Word t) (stops tt) got
  word_lists (suc left) (suc n) (t ∷ ts) = chooses (is_kind words Word t) (binds (word_lists left n ts) (λ ws rest. got)) got

  paths : (w : What) (ts : List T) → IsRefusedSo (path words AnyAttribute w ts)
  unfolding path
  paths w ts =
      binds (ones (is_kind words Less) w ts) (λ _ ts.
      binds (binds (ones (is_kind words Word) what.Attribute ts) (λ w rest. got)) (λ w ts.
      binds (word_lists 31 (length ts) ts) (λ ws ts.
      binds (ones (is_kind words Greater) what.Greater ts) (λ _ ts. got))))

  terms : (ts : List T) → IsRefusedSo (term words AnyAttribute ts)
  unfolding term
  terms ts = chooses (begins (is_kind words Less) ts) (binds (paths what.PathOrAtom ts) (λ p ts. got)) (binds (ones (is_kind words Word) what.PathOrAtom ts) (λ w ts. got))

  equations : (ts : List T) → IsRefusedSo (equation words AnyAttribute what.EquationOrName ts)
  unfolding equation
  equations ts = binds (paths what.EquationOrName ts) (λ l ts. binds (ones (is_kind words Equal) what.Equal ts) (λ _ ts. binds (terms ts) (λ r ts. got)))

  singles : (ts : List T) → IsRefusedSo (single_feature words stage ts)
  singles ts = chooses (begins (is_kind words Less) ts) (binds (equations ts) (λ e ts. got)) (binds (ones (is_symbol words) what.EquationOrName ts) (λ t rest. got))

  module _ {X : Type 0} (starts : List T → Bool) where
    -- one alternative
    alternatives : (read : Reads T W (Item X)) → ((ts : List T) → IsRefusedSo (read ts)) → (ts : List T) → IsRefusedSo (alternative words starts read ts)
    alternatives read h ts = binds (binds (h ts) (λ x ts. binds (manys (length ts) starts read h ts) (λ xs ts. got))) (λ xs ts. got)

    -- all of them, and what closes them
    all_choices : (read : Reads T W (Item X)) → ((ts : List T) → IsRefusedSo (read ts)) → (test : T → Bool) (w : What) (ts : List T) → IsRefusedSo (choices words starts read test w ts)
    all_choices read h test w ts =
        binds (alternatives read h ts) (λ r ts.
        binds (manys (length ts) (begins (is_kind words Slash)) (λ ts. one (is_kind words Slash) w ts >>= λ _ ts. alternative words starts read ts) (λ ts. binds (ones (is_kind words Slash) w ts) (λ _ ts. alternatives read h ts)) ts) (λ rs ts.
        binds (ones test w ts) (λ _ ts. got)))

    in_braces : (n : ℕ) (single : Reads T W X) → ((ts : List T) → IsRefusedSo (single ts)) → (ts : List T) → IsRefusedSo (braced words n true starts single ts)
    unfolding braced
    in_braces zero single h ts = chooses (begins (is_kind words OpenBrace) ts) (stops tt) (binds (h ts) (λ x ts. got))
    in_braces (suc n) single h ts = chooses (begins (is_kind words OpenBrace) ts)
        (binds (ones (is_kind words OpenBrace) what.Equation ts) (λ _ ts. binds (all_choices (braced words n true starts single) (in_braces n single h) (is_kind words CloseBrace) what.CloseBrace ts) (λ rs ts. got)))
        (binds (h ts) (λ x ts. got))

  lists : (ts : List T) → IsRefusedSo (star (begins_feature words) (feature words stage) ts)
  lists ts = manys (length ts) (begins_feature words) (feature words stage) (in_braces (begins_feature words) 16 (single_feature words stage) singles) ts

  pub refused_so : (ts : List T) → IsRefusedSo (elements words stage ts)
  refused_so ts = subst (λ p. IsRefusedSo p) (sym (elements_is words stage ts)) (binds (lists ts) ends)
    where
      ends : (xs : List (Item (FeatureText W))) (rest : List T) → IsRefusedSo (closed words stage xs rest)
      ends xs [] = got
      ends xs (t ∷ rest) = stops tt
