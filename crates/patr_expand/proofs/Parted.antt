-- A frame, parted into what its first element stands for and the frame behind it.
use Rattle.std.proofs.Common.{◌≡◌, ℕ, zero, suc, ◌+◌, ◌-◌, ◌/◌, ◌%◌, ◌<◌, ◌≤◌, List, [], ◌∷◌, ◌++◌, map, length, get_or, take, drop, refl, sym, ap, ◌∙◌, subst, arith, append_assoc, append-nil}
use Rattle.std.proofs.Math.Seq.{take-length}
use Rattle.patr_model.specs.Grammar.{Row}
use Rattle.patr_model.specs.Productions.{Item, Single, Choice, Option', EquationText, in_front}
use Rattle.patr_model.specs.Build.{Meaning}
use Rattle.patr_text.specs.declared.symbols.Id.{Id}
use Rattle.patr_grammar.specs.declared.grammar.Element.{Element}
use Rattle.patr_expand.specs.declared.size.Size.{Size}
use Rattle.patr_expand.specs.declared.numbered.Frame.{Frame}
use Rattle.patr_expand.specs.declared.numbered.Opened.{Opened}
use Rattle.patr_expand.specs.declared.numbered.Opened.TheVariants as opened
use Rattle.patr_expand.specs.Sizes.{IsItemSize, item_variants}
use Rattle.patr_expand.specs.Written.{element_written, written}
use Rattle.patr_expand.specs.Frames.{AreFrames, IsFrame, IsOpened, IsParted, IsPlace, IsPlaced, frame_row, frames_weight, item_weight, left_of, opened_variant, opened_weight, variant_at, weight}
use Rattle.patr_expand.proofs.Parts.{AreParts, parts}

-- a slice behind its first item
abbrev pub others : {X : Type 0} → List X → List X
others es = take (length es - 1) (drop 1 es)

pub cell : {X : Type 0} (es : List X) (x : X) → 1 ≤ length es → get_or es 0 x ≡ x → es ≡ x ∷ others es
cell [] x h is = absurd (omega (arith, h))
cell (y ∷ es) x h is = let e : suc (length es) - 1 ≡ length es = omega arith in ap (λ y. y ∷ es) is ∙ ap (λ l. x ∷ l) (sym (ap (λ n. take n es) e ∙ take-length es))

weight_front : {X : Type 0} (x : Item X) (r : Row X) → weight (in_front x r) ≡ item_weight x + weight r
weight_front (Single x) r = refl
weight_front (Choice rs) r = refl
weight_front (Option' rs) r = refl

some_weight : {X : Type 0} (x : Item X) → 1 ≤ item_weight x
some_weight (Single x) = omega arith
some_weight (Choice rs) = omega arith
some_weight (Option' rs) = omega arith

module _ (ms : List (Meaning Id)) where
  frame_front : (f : Frame) (x : Element) → 1 ≤ length f.elements.now → get_or f.elements.now 0 x ≡ x → frame_row ms f ≡ in_front (element_written ms x) (written ms (others f.elements.now))
  frame_front f x h is = ap (written ms) (cell f.elements.now x h is)

  pub frame_parts : (f : Frame) (x : Element) (s : Size) → IsFrame ms f → 1 ≤ length f.elements.now → get_or f.elements.now 0 x ≡ x → IsItemSize (element_written ms x) s
      → AreParts (element_written ms x) (written ms (others f.elements.now)) f.count f.number s.variants
  frame_parts f x s h some is size =
      parts (element_written ms x) (written ms (others f.elements.now)) f.count f.number s.variants (subst (λ r. IsPlace r f.count f.number) (frame_front f x some is) h) size.variants

  opened_is : (x : Item (EquationText Id)) (n : ℕ) (o : Opened) → IsOpened ms x n o → opened_variant ms o ≡ get_or (item_variants x) n []
  opened_is x n (opened.Equation e) h = sym h
  opened_is x n (opened.Frame f) h = h.same

  is_placed : (x : Item (EquationText Id)) (n : ℕ) (o : Opened) → IsOpened ms x n o → IsPlaced ms o
  is_placed x n (opened.Equation e) h = tt
  is_placed x n (opened.Frame f) h = h.place

  is_lighter : (x : Item (EquationText Id)) (n : ℕ) (o : Opened) → IsOpened ms x n o → opened_weight ms o < item_weight x
  is_lighter x n (opened.Equation e) h = omega (arith, some_weight x)
  is_lighter x n (opened.Frame f) h = omega (arith, h.lighter)

  pub is_parted : (f behind : Frame) (x : Element) (s : Size) (o : Opened) → IsFrame ms f → 1 ≤ length f.elements.now → get_or f.elements.now 0 x ≡ x → IsItemSize (element_written ms x) s
      → IsOpened ms (element_written ms x) (f.number / (f.count / s.variants)) o → behind.elements.now ≡ others f.elements.now → behind.count ≡ f.count / s.variants → behind.number ≡ f.number % (f.count / s.variants) → IsParted ms f o behind
  is_parted f behind x s o h some is size found elements count number = record {
    same = (λ i. opened_is y q o found i ++ variant_at (written ms (elements i)) (number i)) ∙ p.same ∙ ap (λ r. variant_at r f.number) (sym (frame_front f x some is));
    opened = is_placed y q o found;
    behind_it = placed;
    less = omega (arith, is_lighter y q o found, weight_front y r, ap (λ r. weight r) (frame_front f x some is), ap (λ es. weight (written ms es)) elements);
  }
    where
      y : Item (EquationText Id)
      y = element_written ms x

      r : Row (EquationText Id)
      r = written ms (others f.elements.now)

      q : ℕ
      q = f.number / (f.count / s.variants)

      p : AreParts (element_written ms x) (written ms (others f.elements.now)) f.count f.number s.variants
      p = frame_parts f x s h some is size

      placed : IsFrame ms behind
      placed = subst (λ es. IsPlace (written ms es) behind.count behind.number) (sym elements) (subst (λ n. IsPlace r n behind.number) (sym count) (subst (λ n. IsPlace r (f.count / s.variants) n) (sym number) p.behind))

  -- ---- frames on a stack

  pub left_push : (fs : List Frame) (f : Frame) → left_of ms (fs ++ f ∷ []) ≡ variant_at (frame_row ms f) f.number ++ left_of ms fs
  left_push [] f = sym (append-nil (variant_at (frame_row ms f) f.number))
  left_push (g ∷ fs) f =
      ap (λ l. l ++ variant_at (frame_row ms g) g.number) (left_push fs f) ∙ append_assoc (variant_at (frame_row ms f) f.number) (left_of ms fs) (variant_at (frame_row ms g) g.number)

  pub frames_push : (fs : List Frame) (f : Frame) → AreFrames ms fs → IsFrame ms f → AreFrames ms (fs ++ f ∷ [])
  frames_push [] f h k = (k, tt)
  frames_push (g ∷ fs) f h k = (h.0, frames_push fs f h.1 k)

  pub frames_pop : (fs : List Frame) (f : Frame) → AreFrames ms (fs ++ f ∷ []) → AreFrames ms fs × IsFrame ms f
  frames_pop [] f h = (tt, h.0)
  frames_pop (g ∷ fs) f h = let r = frames_pop fs f h.1 in ((h.0, r.0), r.1)

  pub weight_push : (fs : List Frame) (f : Frame) → frames_weight ms (fs ++ f ∷ []) ≡ (1 + weight (frame_row ms f)) + frames_weight ms fs
  weight_push [] f = refl
  weight_push (g ∷ fs) f = omega (arith, weight_push fs f)
