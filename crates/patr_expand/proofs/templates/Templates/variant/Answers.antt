use Rattle.std.proofs.Common.{◌≡◌, ◌<◌, ◌∙◌, ◌++◌, ◌∷◌, [], ap, sym, subst, map, List}
use Rattle.std.proofs.lemmas.List.{map_push}
use Rattle.patr_grammar.specs.Levels.{equation_seen}
use Rattle.patr_expand.specs.Meant.{meant_by}
use Rattle.patr_expand.specs.Written.{written}
use Rattle.patr_expand.specs.declared.numbered.Frame.{Frame}
use Rattle.patr_expand.specs.Frames.{IsParted, frames_weight, opened_variant, variant_at}
use Rattle.patr_expand.proofs.Walked.{IsWalked, enters, enters_lighter, finds, finds_lighter, skips, skips_lighter, top}
use Rattle.patr_expand.proofs.templates.Templates.variant.Goals as goal

pub split-requires : goal.split-requires
split-requires c = (top (meant_by c.args.self.now) _ _ c.loop-frame.frames.items c.pop.new.self.items c.in-Some.frame c.in-Some.ensures.items c.loop-frame.invariant).1

pub loop-frame-smaller-in_default-split : goal.loop-frame-smaller-in_default-split
loop-frame-smaller-in_default-split c = skips_lighter (meant_by c.args.self.now) [] [] c.loop-frame.frames.items c.pop.new.self.items c.in-Some.frame c.in-Some.ensures.items

pub loop-frame-preserved-in_default-split : goal.loop-frame-preserved-in_default-split
loop-frame-preserved-in_default-split c = skips (meant_by c.args.self.now) _ _ c.loop-frame.frames.items c.pop.new.self.items c.in-Some.frame c.in-Some.ensures.items c.loop-frame.invariant c.in_default-split.ensures

pub loop-frame-smaller-in-Continue-branch-3 : goal.loop-frame-smaller-in-Continue-branch-3
loop-frame-smaller-in-Continue-branch-3 c =
    let ms = meant_by c.args.self.now in
    let s = c.in-Some-split.field-0 in
    let old = c.loop-frame.frames.items in
    subst (λ (fs : List Frame). frames_weight ms fs < frames_weight ms old) (sym c.in_ok-push.ensures.items)
    (finds_lighter ms [] [] old c.pop.new.self.items c.in-Some.frame c.in-Some.ensures.items s.opened s.behind c.in-Some-split.ensures)

pub loop-frame-preserved-in-Continue-branch-3 : goal.loop-frame-preserved-in-Continue-branch-3
loop-frame-preserved-in-Continue-branch-3 c =
    let ms = meant_by c.args.self.now in
    let s = c.in-Some-split.field-0 in
    let more = ap (map (λ e. equation_seen e.now)) c.in_ok-push-in-Equation.ensures.items ∙ map_push (λ e. equation_seen e.now) c.loop-frame.found.items c.in-Equation.equation in
    let here = more ∙ ap (λ o. map (λ e. equation_seen e.now) c.loop-frame.found.items ++ opened_variant ms o) (sym c.in-Equation.is) in
    subst (λ (fs : List Frame). IsWalked ms (variant_at (written ms c.args.elements.now) c.args.number) (map (λ e. equation_seen e.now) c.push-in-Equation.new.self.items) fs) (sym c.in_ok-push.ensures.items)
    (finds ms _ _ c.loop-frame.frames.items c.pop.new.self.items c.in-Some.frame c.in-Some.ensures.items s.opened s.behind _ c.loop-frame.invariant c.in-Some-split.ensures here)

pub loop-frame-smaller : goal.loop-frame-smaller
loop-frame-smaller c =
    let ms = meant_by c.args.self.now in
    let s = c.in-Some-split.field-0 in
    let old = c.loop-frame.frames.items in
    let parted = subst (λ o. IsParted ms c.in-Some.frame o s.behind) c.in-Frame.is c.in-Some-split.ensures in
    subst (λ (fs : List Frame). frames_weight ms fs < frames_weight ms old) (sym (c.in_ok-push-in-Frame.ensures.items ∙ ap (λ (fs : List Frame). fs ++ c.in-Frame.frame ∷ []) c.in_ok-push.ensures.items))
    (enters_lighter ms [] [] old c.pop.new.self.items c.in-Some.frame c.in-Some.ensures.items c.in-Frame.frame s.behind parted)

pub loop-frame-preserved : goal.loop-frame-preserved
loop-frame-preserved c =
    let ms = meant_by c.args.self.now in
    let s = c.in-Some-split.field-0 in
    let parted = subst (λ o. IsParted ms c.in-Some.frame o s.behind) c.in-Frame.is c.in-Some-split.ensures in
    subst (λ (fs : List Frame). IsWalked ms (variant_at (written ms c.args.elements.now) c.args.number) (map (λ e. equation_seen e.now) c.loop-frame.found.items) fs)
    (sym (c.in_ok-push-in-Frame.ensures.items ∙ ap (λ (fs : List Frame). fs ++ c.in-Frame.frame ∷ []) c.in_ok-push.ensures.items))
    (enters ms _ _ c.loop-frame.frames.items c.pop.new.self.items c.in-Some.frame c.in-Some.ensures.items c.in-Frame.frame s.behind c.loop-frame.invariant parted)
