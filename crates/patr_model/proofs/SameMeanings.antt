-- What names stand for does not depend on what stands for the words, where these are equal together.
use Rattle.std.proofs.Common.{◌≡◌, Bool, true, false, cond, List, [], ◌∷◌, Option, Some, None, is_some, refl, subst}
use Rattle.patr_model.specs.Grammar.{Row, Rows, Done, One, OneOf, Optional, None', Or}
use Rattle.patr_model.specs.Productions.{EquationText, FeatureText, Equates, Names, Template, things}
use Rattle.patr_model.specs.Renaming.{Each, Both, SameRow, SameRows'}
use Rattle.patr_model.specs.Agreeing.{SameEquationText, SameFeatureText, SameTemplate, SameMeaning, SameExpandFault}
use Rattle.patr_model.specs.Build.{Meaning, chosen, meaning_of, written_out, all_written_out, with_template, meanings_from, meanings, ExpandFault, UnknownName, first_fault, unknown_name, templates_fault_from, templates_fault}
use Rattle.patr_model.proofs.RenamedVariants.{each_append}
use Rattle.patr_model.proofs.SameParses.{things_agree}

module _ {X Y : Type 0} (R : X → Y → Type 0) where
  both_cond : (b : Bool) (o p : Option X) (u t : Option Y) → Both R o u → Both R p t → Both R (cond b o p) (cond b u t)
  both_cond true o p u t h k = h
  both_cond false o p u t h k = k

  both_there : (o : Option X) (u : Option Y) → Both R o u → is_some o ≡ is_some u
  both_there None None h = refl
  both_there (Some x) (Some y) h = refl
  both_there _ _ h = absurd h

module _ {W V : Type 0} (S : W → V → Type 0) where
  pub first_same : (o p : Option (ExpandFault W)) (u t : Option (ExpandFault V)) → Both (SameExpandFault S) o u → Both (SameExpandFault S) p t → Both (SameExpandFault S) (first_fault o p) (first_fault u t)
  first_same None p None t h k = k
  first_same (Some e) p (Some f) t h k = h
  first_same _ p _ t h k = absurd h

  chosen_same : (o : Option (Row (EquationText W))) (u : Option (Row (EquationText V))) → Both (SameRow (SameEquationText S)) o u → SameRows' (SameEquationText S) (chosen o) (chosen u)
  chosen_same None None h = tt
  chosen_same (Some r) (Some s) h = (h, tt)
  chosen_same _ _ h = absurd h

  module _ (same : W → W → Bool) (others : V → V → Bool) (alike : (a b : W) (c d : V) → S a c → S b d → same a b ≡ others c d) where
    meaning_same : (ms : List (Meaning W)) (ns : List (Meaning V)) → Each (SameMeaning S) ms ns → (w : W) (v : V) → S w v
        → Both (SameRow (SameEquationText S)) (meaning_of same ms w) (meaning_of others ns v)
    meaning_same [] [] h w v k = tt
    meaning_same (m ∷ ms) (n ∷ ns) h w v k =
        let R : Row (EquationText W) → Row (EquationText V) → Type 0 = SameRow (SameEquationText S) in
        subst (λ b. Both R (cond (same m.name w) (Some m.body) (meaning_of same ms w)) (cond b (Some n.body) (meaning_of others ns v))) (alike m.name w n.name v h.0.name k)
        (both_cond R (same m.name w) (Some m.body) (meaning_of same ms w) (Some n.body) (meaning_of others ns v) h.0.body (meaning_same ms ns h.1 w v k))
    meaning_same _ _ h w v k = absurd h

    module _ (ms : List (Meaning W)) (ns : List (Meaning V)) (h : Each (SameMeaning S) ms ns) where
      mutual
        -- a body written out by meanings that agree is the same row
        pub written_same : (r : Row (FeatureText W)) (s : Row (FeatureText V)) → SameRow (SameFeatureText S) r s → SameRow (SameEquationText S) (written_out same ms r) (written_out others ns s)
        written_same Done Done k = tt
        written_same (One (Equates e) r) (One (Equates f) s) k = (k.0, written_same r s k.1)
        written_same (One (Names a p) r) (One (Names b q) s) k = (chosen_same (meaning_of same ms a) (meaning_of others ns b) (meaning_same ms ns h a b k.0.0), written_same r s k.1)
        written_same (One (Equates e) r) (One (Names b q) s) k = absurd k.0
        written_same (One (Names a p) r) (One (Equates f) s) k = absurd k.0
        written_same (OneOf rs r) (OneOf ss s) k = (all_written_same rs ss k.0, written_same r s k.1)
        written_same (Optional rs r) (Optional ss s) k = (all_written_same rs ss k.0, written_same r s k.1)
        written_same _ _ k = absurd k

        all_written_same : (rs : Rows (FeatureText W)) (ss : Rows (FeatureText V)) → SameRows' (SameFeatureText S) rs ss
            → SameRows' (SameEquationText S) (all_written_out same ms rs) (all_written_out others ns ss)
        all_written_same None' None' k = tt
        all_written_same (Or r rs) (Or s ss) k = (written_same r s k.0, all_written_same rs ss k.1)
        all_written_same _ _ k = absurd k

      -- the same unknown name is the first, or none is
      pub unknown_same : (fs : List (FeatureText W)) (gs : List (FeatureText V)) → Each (SameFeatureText S) fs gs → Both (SameExpandFault S) (unknown_name same ms fs) (unknown_name others ns gs)
      unknown_same [] [] k = tt
      unknown_same (Equates e ∷ fs) (Equates f ∷ gs) k = unknown_same fs gs k.1
      unknown_same (Names a p ∷ fs) (Names b q ∷ gs) k =
          let there = both_there (SameRow (SameEquationText S)) (meaning_of same ms a) (meaning_of others ns b) (meaning_same ms ns h a b k.0.0) in
          subst (λ t. Both (SameExpandFault S) (cond (is_some (meaning_of same ms a)) (unknown_name same ms fs) (Some (UnknownName a p))) (cond t (unknown_name others ns gs) (Some (UnknownName b q)))) there
          (both_cond (SameExpandFault S) (is_some (meaning_of same ms a)) (unknown_name same ms fs) (Some (UnknownName a p)) (unknown_name others ns gs) (Some (UnknownName b q)) (unknown_same fs gs k.1) k.0)
      unknown_same (Equates e ∷ fs) (Names b q ∷ gs) k = absurd k.0
      unknown_same (Names a p ∷ fs) (Equates f ∷ gs) k = absurd k.0
      unknown_same _ _ k = absurd k

      with_same : (t : Template W) (u : Template V) → SameTemplate S t u → Each (SameMeaning S) (with_template same ms t) (with_template others ns u)
      with_same t u k =
          each_append (SameMeaning S) ms (record { name = t.name; body = written_out same ms t.body } ∷ []) ns (record { name = u.name; body = written_out others ns u.body } ∷ []) h
          (record { name = k.name; body = written_same t.body u.body k.body }, tt)

    meanings_from_same : (ts : List (Template W)) (us : List (Template V)) → Each (SameTemplate S) ts us → (ms : List (Meaning W)) (ns : List (Meaning V)) → Each (SameMeaning S) ms ns
        → Each (SameMeaning S) (meanings_from same ms ts) (meanings_from others ns us)
    meanings_from_same [] [] k ms ns h = h
    meanings_from_same (t ∷ ts) (u ∷ us) k ms ns h = meanings_from_same ts us k.1 (with_template same ms t) (with_template others ns u) (with_same ms ns h t u k.0)
    meanings_from_same _ _ k ms ns h = absurd k

    -- the same templates stand for the same
    pub meanings_same : (ts : List (Template W)) (us : List (Template V)) → Each (SameTemplate S) ts us → Each (SameMeaning S) (meanings same ts) (meanings others us)
    meanings_same ts us k = meanings_from_same ts us k [] [] tt

    templates_from_same : (ts : List (Template W)) (us : List (Template V)) → Each (SameTemplate S) ts us → (ms : List (Meaning W)) (ns : List (Meaning V)) → Each (SameMeaning S) ms ns
        → Both (SameExpandFault S) (templates_fault_from same ms ts) (templates_fault_from others ns us)
    templates_from_same [] [] k ms ns h = tt
    templates_from_same (t ∷ ts) (u ∷ us) k ms ns h =
        let later = templates_from_same ts us k.1 (with_template same ms t) (with_template others ns u) (with_same ms ns h t u k.0) in
        first_same (unknown_name same ms (things t.body)) (templates_fault_from same (with_template same ms t) ts) (unknown_name others ns (things u.body)) (templates_fault_from others (with_template others ns u) us)
        (unknown_same ms ns h (things t.body) (things u.body) (things_agree (SameFeatureText S) t.body u.body k.0.body)) later
    templates_from_same _ _ k ms ns h = absurd k

    -- the same fault is the first of the same templates
    pub templates_same : (ts : List (Template W)) (us : List (Template V)) → Each (SameTemplate S) ts us → Both (SameExpandFault S) (templates_fault same ts) (templates_fault others us)
    templates_same ts us k = templates_from_same ts us k [] [] tt
