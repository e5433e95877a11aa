-- Replies to the generated sentence.
use Rattle.std.proofs.Common.{cond, not, ◌&&◌, nat_eq, ◌^◌, ne_eqb, flat_map, append_assoc, ◌-◌, ◌≡◌, ℕ, zero, suc, ◌+◌, ◌<◌, ◌≤◌, inl, inr, Bool, true, false, append-nil, List, [], ◌∷◌, ◌++◌, length, Some, slice_get, codes, decimal, refl, sym, ap, ◌∙◌, arith, subst}
use Rattle.std.proofs.lemmas.Bool.{lt-ltb}
use Rattle.std.specs.Fmt.{digits}
use Rattle.std.specs.List.{AllByRecursion}
use Rattle.patr_lists.proofs.Alls.{all_in}
use Rattle.patr_lists.specs.Members.{IsIn}
use Rattle.patr_model.specs.Derivation.{Rules, Derivation, entry_variant, key}
use Rattle.patr_model.specs.Solved.{solved}
use Rattle.patr_model.specs.Session.{Numbering, Grounds, State, look_of, line, IsKnown, number_before, numbers, Rises, AreAnalyses, ListsAnalyses, CountsEdges, ListsAll, IsSentenceReply, too_long, unknown, too_many, analyses}
use Rattle.patr_model.specs.Text.{tree_text, open_tree, entry_category, entry_word, printed, is_bare, goes_on, begins_with_greater, escaped}
use Rattle.patr_model.specs.Bytes.{same_text}
use Rattle.patr_model.specs.Build.{keys_of}
use Rattle.patr_model.proofs.StatedCategories.{are_built}
use Rattle.patr_totality.specs.Laws.{AreReady}
use Rattle.patr_totality.proofs.Ready.{builds_are_ready}
use Rattle.patr_totality.proofs.Analyses.{sentence_reply}
use Rattle.patr_model.proofs.Maps.{some_inj}
use Rattle.patr_model.proofs.Replies.{not_before_itself}
use Rattle.patr_consequences.specs.Edges.{leaf, rule, tree}
use Rattle.patr_consequences.proofs.GeneratedReading.{IsDigit, all_digits}
use Rattle.patr_consequences.specs.Generator as generator
use Rattle.patr_consequences.specs.Generator.{generated_grounds, generated_rules, generated_words, generated_sentence, numbered, cat_in, edge_count, bracketed, three_lines, generated_entries, IsGenerated, IsReplied, GeneratedReplies}
use Rattle.patr_consequences.proofs.Generated.{entry_of, entry_there}
use Rattle.patr_consequences.proofs.GeneratedTexts.{symbols, apart, same_rules, generated_counted}

-- the words of a sentence
from_get : (word : ℕ → List ℕ) (k n i : ℕ) (w : List ℕ) → slice_get (generator.from word k n) i ≡ Some w → (i < n) × (w ≡ word (k + i))
from_get word k zero i w h = cc
from_get word k (suc n) zero w h = let same : k ≡ k + 0 = omega arith in (omega arith, sym (some_inj (word k) w h) ∙ ap word same)
from_get word k (suc n) (suc i) w h = let r = from_get word (suc k) n i w h in let same : suc k + i ≡ k + suc i = omega arith in (omega (arith, r.0), r.1 ∙ ap word same)

from_length : {X : Type 0} (f : ℕ → X) (k n : ℕ) → length (generator.from f k n) ≡ n
from_length f k zero = refl
from_length f k (suc n) = ap suc (from_length f (suc k) n)

-- a rising list of things that are one has one member
only_one : (t : Derivation) (ts : List Derivation) → IsIn ts t → ((u : Derivation) → IsIn ts u → u ≡ t) → Rises ts → (ts ≡ t ∷ [])
only_one t [] h all r = absurd h
only_one t (u ∷ []) h all r = ap (λ x. x ∷ []) (all u (inl refl))
only_one t (u ∷ v ∷ ts) h all r =
    let same : u ≡ v = all u (inl refl) ∙ sym (all v (inr (inl refl))) in
    absurd (not_before_itself (numbers (key v)) (subst (λ x. number_before (numbers (key x)) (numbers (key v))) same r.0))

-- ---- how the tree is printed

digit_bare : (b : ℕ) → IsDigit b → is_bare b ≡ true
digit_bare b h = rw (lt-ltb 32 b (omega (arith, h.0)), ne_eqb b 127 (λ e. omega (arith, h.0, h.1, e)), ne_eqb b 60 (λ e. omega (arith, h.0, h.1, e)), ne_eqb b 62 (λ e. omega (arith, h.0, h.1, e)), ne_eqb b 61 (λ e. omega (arith, h.0, h.1, e)), ne_eqb b 123 (λ e. omega (arith, h.0, h.1, e)), ne_eqb b 125 (λ e. omega (arith, h.0, h.1, e)), ne_eqb b 40 (λ e. omega (arith, h.0, h.1, e)), ne_eqb b 41 (λ e. omega (arith, h.0, h.1, e)), ne_eqb b 91 (λ e. omega (arith, h.0, h.1, e)), ne_eqb b 93 (λ e. omega (arith, h.0, h.1, e)), ne_eqb b 47 (λ e. omega (arith, h.0, h.1, e)), ne_eqb b 58 (λ e. omega (arith, h.0, h.1, e)), ne_eqb b 46 (λ e. omega (arith, h.0, h.1, e)), ne_eqb b 59 (λ e. omega (arith, h.0, h.1, e)), ne_eqb b 34 (λ e. omega (arith, h.0, h.1, e)), ne_eqb b 92 (λ e. omega (arith, h.0, h.1, e)), ne_eqb b 35 (λ e. omega (arith, h.0, h.1, e))) refl

digits_go_on : (bs : List ℕ) → AllByRecursion IsDigit bs → goes_on true bs ≡ true
digits_go_on [] a = refl
digits_go_on (b ∷ bs) a =
    ap (λ c. cond c (goes_on false bs) (is_bare b && not (nat_eq b 45 && begins_with_greater bs) && goes_on true bs)) (ne_eqb b 46 (λ e. omega (arith, a.0.0, a.0.1, e)))
    ∙ (ap (λ c. c && not (nat_eq b 45 && begins_with_greater bs) && goes_on true bs) (digit_bare b a.0)
    ∙ (ap (λ c. not (c && begins_with_greater bs) && goes_on true bs) (ne_eqb b 45 (λ e. omega (arith, a.0.0, a.0.1, e))) ∙ digits_go_on bs a.1))

numbered_printed : (k : ℕ) → k < 2 ^ 64 → printed (numbered k) ≡ numbered k
numbered_printed k h = ap (λ b. cond b (numbered k) (34 ∷ (flat_map escaped (numbered k) ++ 34 ∷ []))) (digits_go_on (decimal k) (all_digits k h))

module _ (N : Numbering) (n : ℕ) (few : n < 2 ^ 64) where
  abbrev s : Grounds
  s = generated_grounds N numbered n

  there : (i : ℕ) → i < n → entry_variant s.rules i 0 ≡ Some (entry_of (symbols N numbered) i)
  there i h = subst (λ (x : Rules). entry_variant x i 0 ≡ Some (entry_of (symbols N numbered) i)) (sym (same_rules N numbered n)) (entry_there (symbols N numbered) (apart N numbered) n i h)

  leaf_open : (i : ℕ) → i < n → open_tree (look_of s) s.rules (leaf i) ≡ codes "(W " ++ numbered i
  leaf_open i h =
      let e = there i h in
      ap (λ o. codes "(" ++ printed (N.text (entry_category o)) ++ codes " " ++ printed (N.text (entry_word o))) e
      ∙ (ap (λ x. codes "(" ++ printed x ++ codes " " ++ printed (N.text (N.number (numbered i)))) (N.back (codes "W"))
      ∙ (ap (λ x. codes "(W " ++ printed x) (N.back (numbered i)) ∙ ap (λ x. codes "(W " ++ x) (numbered_printed i (omega (arith, few, h)))))

  rule_open : (r i : ℕ) → r < 2 → open_tree (look_of s) s.rules (rule r i) ≡ codes "(S"
  rule_open zero i h = ap (λ x. codes "(" ++ printed x) (N.back (codes "S"))
  rule_open (suc zero) i h = ap (λ x. codes "(" ++ printed x) (N.back (codes "S"))
  rule_open (suc (suc r)) i h = absurd (omega (arith, h))

  tree_printed : (d i : ℕ) → i + d < n → tree_text (look_of s) s.rules (tree d i) ≡ bracketed (generator.from numbered i (suc d))
  tree_printed zero i h =
      ap (λ u. u ++ codes " " ++ open_tree (look_of s) s.rules (leaf i) ++ codes ")" ++ codes ")") (rule_open 1 i (omega arith))
      ∙ (ap (λ u. codes "(S" ++ codes " " ++ u ++ codes ")" ++ codes ")") (leaf_open i (omega (arith, h)))
      ∙ ap (λ u. codes "(S (W " ++ u) (append_assoc (numbered i) (codes ")") (codes ")")))
  tree_printed (suc d) i h =
      let O = open_tree (look_of s) s.rules (tree d (suc i)) in
      let w = numbered i in
      ap (λ u. u ++ codes " " ++ open_tree (look_of s) s.rules (leaf i) ++ codes ")" ++ codes " " ++ O ++ codes ")" ++ codes ")") (rule_open 0 i (omega arith))
      ∙ (ap (λ u. codes "(S" ++ codes " " ++ u ++ codes ")" ++ codes " " ++ O ++ codes ")" ++ codes ")") (leaf_open i (omega (arith, h)))
      ∙ (ap (λ u. codes "(S (W " ++ u ++ O ++ codes ")" ++ codes ")") (append_assoc w (codes ")") (codes " "))
      ∙ (ap (λ u. u ++ codes ")") (append_assoc (codes "(S (W " ++ w ++ codes ") ") O (codes ")"))
      ∙ ap (λ u. codes "(S (W " ++ w ++ codes ") " ++ u ++ codes ")") (tree_printed d (suc i) (omega (arith, h))))))

module _ (N : Numbering) (n : ℕ) (some : 0 < n) (small : n < 2 ^ 64) (st : State) (g : IsGenerated N n) where
  abbrev s' : Grounds
  s' = generated_grounds N numbered n

  abbrev ws : List ℕ
  ws = generated_words N numbered n

  one : (ts : List Derivation) → AreAnalyses solved s' ws ts → ts ≡ tree (n - 1) 0 ∷ []
  one ts a = only_one (tree (n - 1) 0) ts (a.every (tree (n - 1) 0) g.one_analysis.0) (λ u h. g.one_analysis.1 u (all_in _ ts u a.each h)) a.rises

  known : (i : ℕ) (w : List ℕ) → slice_get (generated_sentence numbered n) i ≡ Some w → IsKnown s' w
  known i w h =
      let r = from_get numbered 0 n i w h in
      let here : 0 + i ≡ i = omega arith in
      (i, 0, entry_of (symbols N numbered) i, there N n small i r.0, ap N.number (sym (r.1 ∙ ap numbered here)))

  listed : n ≤ 256 → edge_count n ≤ st.limit → (text : List ℕ) → IsSentenceReply solved s' st (generated_sentence numbered n) text → ListsAll solved s' st ws text
  listed few room text (too_long l e) = absurd (omega (arith, few, l, from_length numbered 0 n))
  listed few room text (unknown p w l u e) = absurd (u.3 (known u.0 w u.2))
  listed few room text (too_many l all more e) = absurd (g.counted.keeps st.limit room more)
  listed few room text (analyses l all less e) = e

  one_digit : decimal 1 ≡ codes "1"
  unfolding digits
  one_digit = refl

  in_lines : (f c : Bool) (ts : List Derivation) (body tail : List ℕ) → f ≡ false → c ≡ true → ts ≡ tree (n - 1) 0 ∷ [] → ListsAnalyses solved s' f 1 ts body → CountsEdges solved s' ws c tail
      → (body ≡ line (codes "1 " ++ tree_text (look_of s') s'.rules (tree (n - 1) 0))) × (tail ≡ line (codes "edges " ++ decimal (edge_count n)))
  in_lines f c ts body tail ef ec et b t =
      let shown = tree_text (look_of s') s'.rules (tree (n - 1) 0) in
      let b' : ListsAnalyses solved s' false 1 (tree (n - 1) 0 ∷ []) body = subst (λ us. ListsAnalyses solved s' false 1 us body) et (subst (λ x. ListsAnalyses solved s' x 1 ts body) ef b) in
      let t' : CountsEdges solved s' ws true tail = subst (λ x. CountsEdges solved s' ws x tail) ec t in (
        b'.2 ∙ (ap (λ r. line (decimal 1 ++ codes " " ++ shown) ++ r) b'.1 ∙ (append-nil (line (decimal 1 ++ codes " " ++ shown)) ∙ ap (λ d. line (d ++ codes " " ++ shown)) one_digit)),
        t'.2 ∙ ap (λ k. line (codes "edges " ++ decimal k)) (g.counted.each_chart t'.0 t'.1),
      )

  only : n ≤ 256 → edge_count n ≤ st.limit → st.features ≡ false → st.count ≡ true → (text : List ℕ) → IsSentenceReply solved s' st (generated_sentence numbered n) text → text ≡ three_lines n
  only few room off on text r =
      let l = listed few room text r in
      let lines = in_lines st.features st.count l.0 l.1 l.2 off on (one l.0 l.3) l.4 l.5 in
      let size : suc (n - 1) ≡ n = omega (arith, some) in
      let printed_tree : tree_text (look_of s') s'.rules (tree (n - 1) 0) ≡ bracketed (generated_sentence numbered n) =
      tree_printed N n small (n - 1) 0 (omega (arith, some)) ∙ ap (λ m. bracketed (generator.from numbered 0 m)) size in
      l.6 ∙ (ap (λ d. line (codes "analyses " ++ d) ++ l.1 ++ l.2) (ap (λ us. decimal (length us)) (one l.0 l.3) ∙ one_digit)
      ∙ (ap (λ b. line (codes "analyses 1") ++ b ++ l.2) (lines.0 ∙ ap (λ u. line (codes "1 " ++ u)) printed_tree)
      ∙ ap (λ e. line (codes "analyses 1") ++ line (codes "1 " ++ bracketed (generated_sentence numbered n)) ++ e) lines.1))

  ready : AreReady s'.rules (cat_in N)
  ready = builds_are_ready s'.rules (cat_in N) (are_built N.number same_text (keys_of N) generator.generated_grammar (generated_entries numbered n))

  pub replied : IsReplied N n st
  replied = record {
    one = one;
    listed = listed;
    has = λ few room off on.
        let r = sentence_reply s' ready st (generated_sentence numbered n) in
        subst (IsSentenceReply solved s' st (generated_sentence numbered n)) (only few room off on r.0 r.1) r.1;
    only = only;
  }

pub replies : GeneratedReplies
replies N n st some few = replied N n some few st (generated_counted N n some few)
