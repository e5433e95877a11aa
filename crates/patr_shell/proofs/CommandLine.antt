-- Words of the command line, one after another.
use Rattle.std.proofs.Common.{◌≡◌, ℕ, ◌+◌, ◌<◌, ◌≤◌, List, [], ◌∷◌, map, drop, length, get_or, Option, Some, None, refl, sym, ap, ◌∙◌, append_assoc, append-nil, arith}
use Rattle.std.specs.Prelude.{option_map, option_and_then, codes, false}
use Rattle.patr_shell.proofs.Names.{drop_more, length-map, get_or-map, same_text, Setup, same_is, flag_seen, other_kind, said_seen, said_then, said_in_all}
use Rattle.std.proofs.lemmas.Bool.{false_from_ne_true}
use Rattle.std.proofs.Math.ListN.{drop_of_length-le}
use Rattle.patr_model.specs.CommandLine.{Flag, Workers, Limit, WordKind, Said, only, with_value, with_name, word_kind, by_kind, said, value_or, named, setup_of}
use Rattle.patr_shell.specs.declared.command_line.Flag.{Flag as OptionRead}
use Rattle.patr_shell.specs.declared.command_line.NextWord.{NextWord}
use Rattle.patr_shell.specs.declared.command_line.NextWord.TheVariants.{Any, Value, Name}
use Rattle.patr_shell.specs.declared.command_line.Said.{Said as SaidRead}

-- what words say, by what the first is
pub said_word : (w : List ℕ) (ws : List (List ℕ)) (k : WordKind) → k ≡ word_kind w → said None (w ∷ ws) ≡ by_kind k w ws (λ o. said o ws)
unfolding said
said_word w ws k e = ap (λ (x : WordKind). by_kind x w ws (λ o. said o ws)) (sym e)

-- behind an option the first is its value
pub said_value : (f : Flag) (w : List ℕ) (ws : List (List ℕ)) → said (Some f) (w ∷ ws) ≡ option_map (with_value f w) (said None ws)
unfolding said
said_value f w ws = refl

-- no words say nothing, and leave out a value
pub said_none : said None [] ≡ Some (only [])
unfolding said
said_none = refl

pub said_no_value : (f : Flag) → said (Some f) [] ≡ None
unfolding said
said_no_value f = refl

-- a value that is said first
pub value_then : (s t : Said) (f : Flag) (v : List ℕ) (rest : Option Said) → t ≡ said_then s (with_value f v (only []))
    → option_map (said_then t) rest ≡ option_map (said_then s) (option_map (with_value f v) rest)
value_then s t f v None e = refl
value_then s t Workers v (Some u) e = ap (λ x. Some (said_then x u)) e ∙ simp (append_assoc, append-nil)
value_then s t Limit v (Some u) e = ap (λ x. Some (said_then x u)) e ∙ simp (append_assoc, append-nil)

-- a name that is said first
pub name_then : (s t : Said) (w : List ℕ) (rest : Option Said) → t ≡ said_then s (only (w ∷ []))
    → option_map (said_then t) rest ≡ option_map (said_then s) (option_map (with_name w) rest)
name_then s t w None e = refl
name_then s t w (Some u) e = ap (λ x. Some (said_then x u)) e ∙ simp (append_assoc, append-nil)

-- nothing is said behind what is said
pub then_nothing : (s : Said) → said_then s (only []) ≡ s
then_nothing s = simp append-nil

-- behind the last word all is said, unless an option has no value
pub ends : (s : SaidRead) (next : NextWord) → ((flag : OptionRead) → next ≡ Value flag → ⊥) → said_in_all s (Some next) [] ≡ Some (said_seen s)
ends s Any whole = ap (option_map (said_then (said_seen s))) said_none ∙ ap (λ x. Some x) (then_nothing (said_seen s))
ends s (Value flag) whole = absurd (whole flag refl)
ends s Name whole = ap (λ x. Some x) (then_nothing (said_seen s))

pub ends_without_value : (s : SaidRead) (flag : OptionRead) → said_in_all s (Some (Value flag)) [] ≡ None
ends_without_value s flag = ap (option_map (said_then (said_seen s))) (said_no_value (flag_seen flag))

-- the words that are left, of which the first is this one
words_left : {X : Type 0} (f : X → List ℕ) (xs : List X) (i : ℕ) (x : X) (w : List ℕ) → i < length xs → x ≡ get_or xs i x → w ≡ f x → drop i (map f xs) ≡ w ∷ drop (i + 1) (map f xs)
words_left f xs i x w h e g =
    let at : get_or (map f xs) i (f x) ≡ w = get_or-map f xs i x (f x) h ∙ (ap f (sym e) ∙ sym g) in
    drop_more (map f xs) i (f x) (omega (arith, length-map xs f)) ∙ ap (λ y. y ∷ drop (i + 1) (map f xs)) at

-- a word of them is taken, and what is said behind it is what was said of all
pub takes : {X : Type 0} (f : X → List ℕ) (xs : List X) (i : ℕ) (x : X) (w : List ℕ) → i < length xs → x ≡ get_or xs i x → w ≡ f x
    → (s t : SaidRead) (next : NextWord) (got after : Option NextWord) (all : Option Said) → got ≡ after → ((ws : List (List ℕ)) → said_in_all t got ws ≡ said_in_all s (Some next) (w ∷ ws))
    → said_in_all s (Some next) (drop i (map f xs)) ≡ all → said_in_all t after (drop (i + 1) (map f xs)) ≡ all
takes f xs i x w h e g s t next got after all is step whole =
    let rest = drop (i + 1) (map f xs) in
    ap (λ a. said_in_all t a rest) (sym is) ∙ (step rest ∙ (ap (said_in_all s (Some next)) (sym (words_left f xs i x w h e g)) ∙ whole))

pub no_words_left : {X : Type 0} (f : X → List ℕ) (xs : List X) (i : ℕ) → length xs ≤ i → drop i (map f xs) ≡ []
no_words_left f xs i h = drop_of_length-le (map f xs) (omega (arith, length-map xs f))

-- a setup, by the values and the names
pub setup_of_values : (s : Said) (workers limit : ℕ) (found : Option Setup) → Some workers ≡ value_or 16 1 s.workers → Some limit ≡ value_or 200000 20000 s.limits → found ≡ named s.names limit → found ≡ setup_of s
setup_of_values s workers limit found e f g =
    g ∙ (ap (option_and_then (named s.names)) f ∙ ap (option_and_then (λ (w : ℕ). option_and_then (named s.names) (value_or 200000 20000 s.limits))) e)

-- texts that are not one are told apart
pub not_same : (s t : List ℕ) → (s ≡ t → ⊥) → same_text s t ≡ false
not_same s t other = false_from_ne_true (same_text s t) (λ e. other (same_is s t e))

-- what a word is that is none of three
pub kind_of_others : (w : List ℕ) → (w ≡ codes "--" → ⊥) → (w ≡ codes "--workers" → ⊥) → (w ≡ codes "--limit" → ⊥) → other_kind w ≡ word_kind w
kind_of_others w e f g = rw (not_same w (codes "--") e, not_same w (codes "--workers") f, not_same w (codes "--limit") g) refl
