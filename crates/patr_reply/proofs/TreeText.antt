-- One step of writing a tree's text.
use Rattle.std.proofs.Common.{◌≡◌, ℕ, ◌+◌, ◌<◌, List, [], ◌∷◌, ◌++◌, length, cond, Some, None, slice_get, Result, Ok, Err, IfOk, codes, refl, sym, subst, ap, ◌∙◌, arith, append_assoc, append-nil}
use Rattle.patr_reply.proofs.Names.{AgreesWith, AllByRecursion, AreEdges, Edge, EdgeKind, IsHeld, IsStep, Look, Mark, Numbering, Rule, Rules, Tree, all_append, alone, entry_category, entry_variant, entry_word, look_by, mother_category, open_tree, printed, root_text, rule_variant, slice_get_within, step_text, step_weight, steps_text, steps_weight, tree_alone, tree_longer, tree, tree_text}
use Rattle.std.specs.Result.{is_ok}
use lib.Utf8.{encode}
use Rattle.patr_chart.specs.declared.edge.EdgeKind.TheVariants.{Entry}
use Rattle.patr_chart.specs.declared.edge.Back.{Back}
use Rattle.patr_reply.specs.declared.tree.Step.{Step}
use Rattle.patr_chart.specs.Pending.{weight}

-- texts in a row
pub four : (a s p c rest : List ℕ) → a ++ (s ++ (p ++ (c ++ rest))) ≡ (((a ++ s) ++ p) ++ c) ++ rest
four a s p c rest = sym (simp append_assoc)

pub three : (a b c rest : List ℕ) → a ++ (b ++ (c ++ rest)) ≡ ((a ++ b) ++ c) ++ rest
three a b c rest = sym (simp append_assoc)

-- a line that begins with a mark
pub line_written : (old a b mark text : List ℕ) → a ≡ old ++ mark → b ≡ a ++ text → b ++ 10 ∷ [] ≡ old ++ ((mark ++ text) ++ 10 ∷ [])
line_written old a b mark text h i = simp (i, h, append_assoc)

-- a number's text, by the table
pub text_of : (N : Numbering) (table : List (List ℕ)) → AgreesWith N table → (i : ℕ) (t : List ℕ) → slice_get table i ≡ Some t → N.text i ≡ t
text_of N table agrees i t at = ap (λ n. N.text n) (sym (agrees i t at)) ∙ N.back t

parts_written : (out o p s q a b c d : List ℕ) → a ≡ out ++ o → b ≡ a ++ p → c ≡ b ++ s → d ≡ c ++ q → d ≡ out ++ (o ++ p ++ s ++ q)
parts_written out o p s q a b c d h i j k = simp (k, j, i, h, append_assoc)

-- the parts of a root's text, one after another
pub entry_written : (l : Look) (g : Rules) (e m category word : ℕ) → entry_category (entry_variant g e m) ≡ category → entry_word (entry_variant g e m) ≡ word → (out a b c d : List ℕ)
    → a ≡ out ++ codes "(" → b ≡ a ++ printed (l.text category) → c ≡ b ++ codes " " → d ≡ c ++ printed (l.text word) → d ≡ out ++ root_text l g (Entry e m)
entry_written l g e m category word same_category same_word out a b c d h i j k =
    parts_written out (codes "(") (printed (l.text (entry_category (entry_variant g e m)))) (codes " ") (printed (l.text (entry_word (entry_variant g e m)))) a b c d h
    (i ∙ ap (λ x. a ++ printed (l.text x)) (sym same_category)) j (k ∙ ap (λ x. c ++ printed (l.text x)) (sym same_word))

pub rule_written : (l : Look) (g : Rules) (r m i s n c : ℕ) → mother_category (rule_variant g r m) ≡ c → (out a b : List ℕ)
    → a ≡ out ++ codes "(" → b ≡ a ++ printed (l.text c) → b ≡ out ++ root_text l g (Rule r m i s n)
rule_written l g r m i s n c same out a b h is =
    let P = printed (l.text (mother_category (rule_variant g r m))) in
    is ∙ (ap (λ x. a ++ printed (l.text x)) (sym same) ∙ (ap (λ t. t ++ P) h ∙ append_assoc out (codes "(") P))

-- what a call that gives nothing but success has made
pub if_ok_made : {X E : Type 0} (r : Result (Unit {0}) E) (P : X → Type 0) (new done kept : X) → new ≡ cond (is_ok r) done kept → P done → IfOk r (λ _. P new)
if_ok_made (Ok u) P new done kept h p = subst P (sym h) p
if_ok_made (Err e) P new done kept h p = tt

weights_append : (es : List Edge) (xs ys : List Step) → steps_weight es (xs ++ ys) ≡ steps_weight es xs + steps_weight es ys
weights_append es [] ys = omega arith
weights_append es (x ∷ xs) ys = omega (arith, weights_append es xs ys)

steps_append : (l : Look) (g : Rules) (es : List Edge) (xs ys : List Step) → steps_text l g es (xs ++ ys) ≡ steps_text l g es ys ++ steps_text l g es xs
steps_append l g es [] ys = sym (append-nil (steps_text l g es ys))
steps_append l g es (x ∷ xs) ys = ap (λ t. t ++ step_text l g es x) (steps_append l g es xs ys) ∙ append_assoc (steps_text l g es ys) (steps_text l g es xs) (step_text l g es x)

-- nothing is left, and the tree is closed
pub tree_closed : (l : Look) (g : Rules) (es : List Edge) (k : ℕ) (left : List Step) (old out : List ℕ) → length left ≡ 0 → out ++ steps_text l g es left ≡ old ++ open_tree l g (tree es k)
    → out ++ 41 ∷ [] ≡ old ++ tree_text l g (tree es k)
tree_closed l g es k [] old out none so = ap (λ t. t ++ 41 ∷ []) (sym (append-nil out) ∙ so) ∙ append_assoc old (open_tree l g (tree es k)) (41 ∷ [])
tree_closed l g es k (s ∷ left) old out none so = absurd (omega (arith, none))

module _ (table : List (List ℕ)) (g : Rules) (es : List Edge) (ss : List Step) (held : AllByRecursion (IsHeld (length es)) ss) where
  -- a text is written
  pub text_step : (s : Step) (out new : List ℕ) → 0 < step_weight es s → ((names : Numbering) → AgreesWith names table → new ≡ out ++ step_text (look_by names) g es s)
      → IsStep table g es (ss ++ s ∷ []) out ss new
  text_step s out new positive is = record {
    text = λ names agrees.
        let l = look_by names in
        ap (λ t. t ++ steps_text l g es ss) (is names agrees) ∙ (append_assoc out (step_text l g es s) (steps_text l g es ss) ∙ ap (λ t. out ++ t) (sym (steps_append l g es ss (s ∷ []))));
    falls = omega (arith, positive, weights_append es ss (s ∷ []));
    held = held;
  }

  module _ (k : ℕ) (e : Edge) (at : slice_get es k ≡ Some e) where
    pub root_step : e.back ≡ None → (out new : List ℕ) → ((names : Numbering) → AgreesWith names table → new ≡ out ++ root_text (look_by names) g e.kind) → IsStep table g es (ss ++ Tree k ∷ []) out ss new
    root_step none out new is =
        text_step (Tree k) out new (omega arith) (λ names agrees. is names agrees ∙ ap (λ t. out ++ t) (sym (ap (open_tree (look_by names) g) (tree_alone es k e at none) ∙ alone_text (look_by names) e.kind)))
      where
        alone_text : (l : Look) (kind : EdgeKind) → open_tree l g (alone kind e) ≡ root_text l g kind
        alone_text l (Entry f m) = refl
        alone_text l (Rule r m i s n) = refl

    -- a tree is taken apart
    pub parts_step : (words : ℕ) → AreEdges words es → (b : Back) → e.back ≡ Some b → (out : List ℕ)
        → IsStep table g es (ss ++ Tree k ∷ []) out (ss ++ Mark 41 ∷ Tree b.passive ∷ Mark 32 ∷ Tree b.active ∷ []) out
    unfolding encode
    parts_step words all b some out =
        let parts : List Step = Mark 41 ∷ Tree b.passive ∷ Mark 32 ∷ Tree b.active ∷ [] in
        let longer = tree_longer words es all k e b at some in
        let below = slice_get_within es k e at in
        record {
          text = λ names agrees.
              let l = look_by names in
              ap (λ t. out ++ t) (steps_append l g es ss parts ∙ (ap (λ t. open_tree l g t ++ steps_text l g es ss) (sym longer.tree) ∙ sym (steps_append l g es ss (Tree k ∷ []))));
          falls = omega (arith, weights_append es ss parts, weights_append es ss (Tree k ∷ []), ap weight longer.tree);
          held = all_append (IsHeld (length es)) ss parts held (tt, (omega (arith, longer.passive_before, below), (tt, (omega (arith, longer.active_before, below), tt))));
        }
