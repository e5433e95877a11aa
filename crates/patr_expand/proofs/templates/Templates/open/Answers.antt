use Rattle.std.proofs.Common.{◌≡◌, ◌≤◌, ◌∙◌, ap, sym, subst, length}
use Rattle.patr_model.specs.Grammar.{single, variants_of}
use Rattle.patr_model.specs.Productions.{Choice}
use Rattle.patr_expand.specs.Meant.{meant_by}
use Rattle.patr_expand.specs.Sizes.{item_variants}
use Rattle.patr_expand.specs.Written.{choice_written, element_written}
use Rattle.patr_expand.specs.Frames.{IsTaken, frame_row, item_weight}
use Rattle.patr_expand.proofs.Written.{choice_is}
use Rattle.patr_expand.proofs.templates.Templates.open.Goals as goal

pub alternative-requires : goal.alternative-requires
alternative-requires c =
    let ms = meant_by c.args.self.now in
    let e = ap (element_written ms) c.in-OneOf.is ∙ choice_is ms c.in-OneOf.alternatives ∙ ap (λ vs. Choice (choice_written ms vs)) (sym c.deref.ensures.value) in
    record { few = subst (λ x. length (item_variants x) ≤ 256) e c.requires.few }

pub returns-in-OneOf : goal.returns-in-OneOf
returns-in-OneOf c =
    let ms = meant_by c.args.self.now in
    let f = c.alternative.result in
    let e = ap (element_written ms) c.in-OneOf.is ∙ choice_is ms c.in-OneOf.alternatives ∙ ap (λ vs. Choice (choice_written ms vs)) (sym c.deref.ensures.value) in
    subst (λ x. IsTaken (item_variants x) (item_weight x) c.args.number (frame_row ms f) f.count f.number) (sym e) c.alternative.ensures
