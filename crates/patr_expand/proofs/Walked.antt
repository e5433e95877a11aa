-- The walk over the frames of a variant: what was found, and then what is left, is the variant.
use Rattle.std.proofs.Common.{◌≡◌, ℕ, suc, ◌+◌, ◌<◌, List, [], ◌∷◌, ◌++◌, refl, sym, ap, ◌∙◌, subst, arith, append_assoc, append-nil}
use Rattle.patr_model.specs.Productions.{EquationText}
use Rattle.patr_model.specs.Build.{Meaning}
use Rattle.patr_text.specs.declared.symbols.Id.{Id}
use Rattle.patr_grammar.specs.declared.grammar.EquationText as code
use Rattle.patr_expand.specs.declared.numbered.Frame.{Frame}
use Rattle.patr_expand.specs.declared.numbered.Opened.{Opened}
use Rattle.patr_expand.specs.declared.numbered.Opened.TheVariants as opened
use Rattle.patr_expand.specs.Frames.{AreFrames, IsFrame, IsParted, frame_row, frames_weight, left_of, opened_variant, opened_weight, variant_at, weight}
use Rattle.patr_expand.proofs.Parted.{frames_pop, frames_push, left_push, weight_push}

abbrev Found : Type 0
Found = List (EquationText Id)

pub record IsWalked (ms : List (Meaning Id)) (total found : List (EquationText Id)) (fs : List Frame) : Type 0 where
  pub same : found ++ left_of ms fs ≡ total
  pub frames : AreFrames ms fs

module _ (ms : List (Meaning Id)) (total found : List (EquationText Id)) (old fs : List Frame) (f : Frame) (is : old ≡ fs ++ f ∷ []) where
  pub top : IsWalked ms total found old → AreFrames ms fs × IsFrame ms f
  top h = frames_pop ms fs f (subst (AreFrames ms) is h.frames)

  left : IsWalked ms total found old → found ++ (variant_at (frame_row ms f) f.number ++ left_of ms fs) ≡ total
  left h = ap (λ l. found ++ l) (sym (ap (left_of ms) is ∙ left_push ms fs f)) ∙ h.same

  pub skips : IsWalked ms total found old → variant_at (frame_row ms f) f.number ≡ [] → IsWalked ms total found fs
  skips h none = record { same = ap (λ l. found ++ (l ++ left_of ms fs)) (sym none) ∙ left h; frames = (top h).0 }

  pub skips_lighter : frames_weight ms fs < frames_weight ms old
  skips_lighter = omega (arith, ap (frames_weight ms) is, weight_push ms fs f)

  -- an equation is found
  pub finds : (o : Opened) (behind : Frame) (more : List (EquationText Id)) → IsWalked ms total found old → IsParted ms f o behind → more ≡ found ++ opened_variant ms o → IsWalked ms total more (fs ++ behind ∷ [])
  finds o behind more h p e = record {
    same =
        (λ i. e i ++ left_push ms fs behind i) ∙ append_assoc found (opened_variant ms o) (variant_at (frame_row ms behind) behind.number ++ left_of ms fs)
        ∙ ap (λ l. found ++ l) (sym (append_assoc (opened_variant ms o) (variant_at (frame_row ms behind) behind.number) (left_of ms fs))) ∙ ap (λ l. found ++ (l ++ left_of ms fs)) p.same ∙ left h;
    frames = frames_push ms fs behind (top h).0 p.behind_it;
  }

  pub finds_lighter : (o : Opened) (behind : Frame) → IsParted ms f o behind → frames_weight ms (fs ++ behind ∷ []) < frames_weight ms old
  finds_lighter o behind p = omega (arith, ap (frames_weight ms) is, weight_push ms fs f, weight_push ms fs behind, p.less)

  -- a frame is gone into
  pub enters : (g behind : Frame) → IsWalked ms total found old → IsParted ms f (opened.Frame g) behind → IsWalked ms total found ((fs ++ behind ∷ []) ++ g ∷ [])
  enters g behind h p = record {
    same =
        ap (λ l. found ++ l) (left_push ms (fs ++ behind ∷ []) g ∙ ap (λ l. variant_at (frame_row ms g) g.number ++ l) (left_push ms fs behind))
        ∙ ap (λ l. found ++ l) (sym (append_assoc (variant_at (frame_row ms g) g.number) (variant_at (frame_row ms behind) behind.number) (left_of ms fs))) ∙ ap (λ l. found ++ (l ++ left_of ms fs)) p.same ∙ left h;
    frames = frames_push ms (fs ++ behind ∷ []) g (frames_push ms fs behind (top h).0 p.behind_it) p.opened;
  }

  pub enters_lighter : (g behind : Frame) → IsParted ms f (opened.Frame g) behind → frames_weight ms ((fs ++ behind ∷ []) ++ g ∷ []) < frames_weight ms old
  enters_lighter g behind p = omega (arith, ap (frames_weight ms) is, weight_push ms fs f, weight_push ms fs behind, weight_push ms (fs ++ behind ∷ []) g, p.less)
