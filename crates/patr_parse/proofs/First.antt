-- The first edges: the entries of the words, and the rules of the start symbol.
use Rattle.std.proofs.Common.{◌≡◌, ◌⊎◌, inl, inr, ℕ, suc, ◌+◌, ◌<◌, List, [], ◌++◌, length, Some, slice_get, refl, sym, ap, ◌∙◌, arith, subst, zero-add}
use Rattle.patr_lists.specs.Members.{IsIn}
use Rattle.patr_lists.proofs.Members.{in_cases, in_left, in_right, once_append}
use Rattle.patr_parse.proofs.Names.{Rules, Derivation, Leaf, Begin, InChart, HasMoreThan, Each, IsNoPair, rounds, Shown, Edge, derivations, Stored, IsStored, rules_of, Mark, judge, Stands, begun_at, leaves_from, HasMark, IsAloneEdge, ArePredicted, IsMarked}
use Rattle.patr_parse.proofs.Added.{AreNew, derivations_new, stands_new, passes_new}
use Rattle.patr_parse.proofs.Items.{rule_item, entry_item, begun_solvable, leaf_solvable, IsBegun, in_begun, begun_in, once_begun, IsLeafOf, in_words, words_in, once_words}
use Rattle.patr_parse.proofs.Predicting.{mark_there, mark_is, begun_mother, word_is}

module _ (s : Stored) (stored : IsStored s) (ws : List ℕ) where
  abbrev g : Rules
  g = rules_of s

  abbrev pub first_trees : List Derivation
  first_trees = leaves_from s 0 ws ++ begun_at s g.start 0

  leaf_licensed : (t : Derivation) → IsLeafOf s stored 0 ws t → InChart (judge s) g ws t
  leaf_licensed t l =
      let item = entry_item s stored l.leaf.number l.leaf.item l.leaf.there in
      let i = 0 + l.place in
      let word : l.word ≡ item.variant.word = word_is s l.leaf.item item.variant item.is l.word l.leaf.word in
      subst (λ x. InChart (judge s) g ws x) (sym l.leaf.is)
      (InChart.word l.leaf.item.entry l.leaf.item.variant i (suc i) item.variant item.is (ap (λ n. slice_get ws n) (zero-add l.place) ∙ (l.said ∙ ap (λ w. Some w) word)) refl (leaf_solvable s stored l.leaf.item item i (suc i)))

  start_licensed : (t : Derivation) → IsBegun s stored g.start 0 t → InChart (judge s) g ws t
  start_licensed t b =
      let item = rule_item s stored b.number b.item b.there in
      subst (λ x. InChart (judge s) g ws x) (sym b.is)
      (InChart.first b.item.rule b.item.variant item.variant item.is (item.mother ∙ ap (λ c. Some c) b.mother) (begun_solvable s stored b.item item 0))

  leaf_or_start : (t : Derivation) → IsIn first_trees t → IsLeafOf s stored 0 ws t ⊎ IsBegun s stored g.start 0 t
  leaf_or_start t h = elim (in_cases (leaves_from s 0 ws) (begun_at s g.start 0) t h) [ inl k ↦ inl (in_words s stored 0 ws t k) | inr k ↦ inr (in_begun s stored g.start 0 t k) ]

  no_leaf : (t : Derivation) → IsLeafOf s stored 0 ws t → IsBegun s stored g.start 0 t → ⊥
  no_leaf t l b = let e = sym l.leaf.is ∙ b.is in cc

  first_new : AreNew (judge s) g ws [] first_trees
  first_new = record {
    edges = λ t h. elim (leaf_or_start t h) [ inl l ↦ leaf_licensed t l | inr b ↦ start_licensed t b ];
    once = once_append (leaves_from s 0 ws) (begun_at s g.start 0) (once_words s stored 0 ws) (once_begun s stored g.start 0) (λ t h k. no_leaf t (in_words s stored 0 ws t h) (in_begun s stored g.start 0 t k));
    new = λ t h k. k;
  }

  no_pair_first : (t : Derivation) → IsIn first_trees t → IsNoPair t
  no_pair_first t h = elim (leaf_or_start t h) [ inl l ↦ subst IsNoPair (sym l.leaf.is) tt | inr b ↦ subst IsNoPair (sym b.is) tt ]

  stands_none : Stands (judge s) g ws [] 0 []
  stands_none = record { worked = (rounds (judge s) g ws).begins; within = omega arith; fit = λ k e h. cc }

  pub first_passed : (limit : ℕ) → limit < length first_trees → HasMoreThan (judge s) g ws limit
  first_passed limit h = passes_new (judge s) g ws [] first_trees 0 limit stands_none first_new no_pair_first (omega (arith, h))

  module _ (v : Shown) (ys : List Edge) (each : Each (IsAloneEdge g s v) first_trees ys) where
    trees : derivations ys ≡ first_trees
    trees = derivations_new g s v [] ys first_trees each

    pub stands_first : Stands (judge s) g ws ys 0 []
    stands_first = stands_new g s v [] ys first_trees each (judge s) ws 0 stands_none first_new

    pub first_predicted : (new : List Mark) → HasMark [] new g.start 0 → ArePredicted s ws (IsMarked new) 0 ys
    first_predicted new h = record {
      within = omega arith;
      word = λ n i w item at said t. to_first (Leaf item.entry item.variant i (suc i)) (in_left (leaves_from s 0 ws) (begun_at s g.start 0) (Leaf item.entry item.variant i (suc i))
          (subst (λ k. IsIn (leaves_from s 0 ws) (Leaf item.entry item.variant k (suc k))) (zero-add i) (words_in s stored 0 ws i w n item said at t)));
      first = mark_there [] new g.start 0 h;
      marked = λ n i item at m. elim (mark_is [] new g.start 0 h item.mother.0 i m) [
        | inl k ↦ absurd (no_mark item.mother.0 i k)
        | inr k ↦ to_first (Begin item.rule item.variant i) (in_right (leaves_from s 0 ws) (begun_at s g.start 0) (Begin item.rule item.variant i)
            (subst (λ x. IsIn (begun_at s g.start 0) (Begin item.rule item.variant x)) k.1 (begun_in s stored g.start 0 n item at (sym k.0))))
      ];
      begun = λ n i item at b. elim (in_cases (leaves_from s 0 ws) (begun_at s g.start 0) (Begin item.rule item.variant i) (subst (λ l. IsIn l (Begin item.rule item.variant i)) trees b)) [
        | inl k ↦ absurd (not_leaf item.rule item.variant i (in_words s stored 0 ws (Begin item.rule item.variant i) k))
        | inr k ↦ (let same = begun_mother s stored g.start 0 n i item at k in
            subst (λ x. IsMarked new x i) same.0 (subst (λ x. IsMarked new g.start x) same.1 (mark_there [] new g.start 0 h)))
      ];
      followed = λ k c b. absurd (omega (arith, b));
    }
      where
        to_first : (t : Derivation) → IsIn first_trees t → IsIn (derivations ys) t
        to_first t k = subst (λ l. IsIn l t) (sym trees) k

        no_mark : (c i : ℕ) → IsMarked [] c i → ⊥
        no_mark c i k = cc

        not_leaf : (r k i : ℕ) → IsLeafOf s stored 0 ws (Begin r k i) → ⊥
        not_leaf r k i l = let e = l.leaf.is in cc
