-- What the first edges come to, under a limit.
use Rattle.std.proofs.Common.{◌≡◌, ℕ, true, false, ◌≤◌, List, [], ◌++◌, length, length-append, sym, ap, arith, subst}
use Rattle.patr_parse.proofs.Names.{HasMoreThan, Shown, Edge, Stored, IsStored, rules_of, AreSound, judge, Stands, leaves_from, begun_at, HasMark, ArePushed, ArePredicted, IsMarked}
use Rattle.patr_parse.specs.declared.prediction.Prediction.{Prediction}
use Rattle.patr_parse.specs.Predicting.{IsInitialized}
use Rattle.patr_parse.proofs.Added.{sound_new}
use Rattle.patr_parse.proofs.Pushed.{Behind, behind_append, behind_length}
use Rattle.patr_parse.proofs.First.{first_trees, first_passed, stands_first, first_predicted}

module _ (s : Stored) (stored : IsStored s) (ws : List ℕ) (v : Shown) (limit : ℕ) (old mid : List Edge) (empty : old ≡ []) where
  -- there is no room for the leaves
  pub words_passed : ArePushed (rules_of s) s v limit old (leaves_from s 0 ws) mid false → HasMoreThan (judge s) (rules_of s) ws limit
  words_passed h = first_passed s stored ws limit (omega (arith, h, ap length empty, length-append (leaves_from s 0 ws) (begun_at s (rules_of s).start 0)))

  module _ (words : ArePushed (rules_of s) s v limit old (leaves_from s 0 ws) mid true) (c : ℕ) (is : c ≡ (rules_of s).start) (new : List Edge) where
    -- there is no room for the rules
    pub start_passed : ArePushed (rules_of s) s v limit mid (begun_at s c 0) new false → HasMoreThan (judge s) (rules_of s) ws limit
    start_passed h =
        let before = behind_length (rules_of s) s v old mid (leaves_from s 0 ws) (words.0, words.1, words.2) in
        first_passed s stored ws limit (omega (arith, h, before, ap length empty, ap (λ x. length (begun_at s x 0)) is, length-append (leaves_from s 0 ws) (begun_at s (rules_of s).start 0)))

    module _ (rules : ArePushed (rules_of s) s v limit mid (begun_at s c 0) new true) where
      both : Behind (rules_of s) s v [] (first_trees s stored ws) new
      both = subst (λ l. Behind (rules_of s) s v l (first_trees s stored ws) new) empty
          (subst (λ x. Behind (rules_of s) s v old (leaves_from s 0 ws ++ begun_at s x 0) new) is
          (behind_append (rules_of s) s v old mid (leaves_from s 0 ws) (begun_at s c 0) rules.0 new (words.0, words.1, words.2) rules.1 rules.2))

      -- the first edges are there
      pub initialized : length new ≤ limit → (p : Prediction) → p.seen ≡ 0 → HasMark [] p.marks.keys (rules_of s).start 0 → IsInitialized s ws v limit p new
      initialized few p seen h =
          let back : [] ++ both.0 ≡ new = sym both.1 in
          record {
            stands = subst (λ l. Stands (judge s) (rules_of s) ws l 0 []) back (stands_first s stored ws v both.0 both.2);
            sound = subst (λ l. AreSound (rules_of s) s v l) back (sound_new (rules_of s) s v [] both.0 (first_trees s stored ws) both.2 (λ k e h. cc));
            predicted = subst (λ l. ArePredicted s ws (IsMarked p.marks.keys) p.seen l) back (subst (λ n. ArePredicted s ws (IsMarked p.marks.keys) n both.0) (sym seen) (first_predicted s stored ws v both.0 both.2 p.marks.keys h));
            few = few;
          }
