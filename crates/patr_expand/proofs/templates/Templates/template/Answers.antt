use Rattle.std.proofs.Common.{◌≡◌, ◌∙◌, Some, ap, length, map, slice_get, subst, sym}
use Rattle.std.proofs.lemmas.Option.{slice_get-get_or, slice_get_past}
use Rattle.patr_model.specs.Build.{templates_fault}
use Rattle.patr_model.specs.Grammar.{single, variants}
use Rattle.patr_grammar.specs.declared.grammar.Template.{Template}
use Rattle.patr_grammar.specs.Reading.{template_seen}
use Rattle.patr_expand.specs.Meant.{meant_by}
use Rattle.patr_expand.specs.Seen.{same}
use Rattle.patr_expand.specs.Sizes.{capped, item_variants}
use Rattle.patr_expand.specs.Frames.{IsTaken, item_weight}
use Rattle.patr_expand.specs.Written.{named, written}
use Rattle.patr_expand.proofs.Earlier.{body_is, name_taken, no_fault, none_there}
use Rattle.patr_expand.proofs.Named.{mapped_at, no_size}
use Rattle.patr_expand.proofs.templates.Templates.template.Goals as goal

pub returns : goal.returns
returns c =
    let t = c.args.self.now in
    let ts = t.templates.now in
    let ms = meant_by t in
    let w = c.args.name in
    let n = c.in-Some.at in
    let k = c.in-Some.ensures ms t.known.measured in
    let template = c.in-Some-get.template.now in
    let size = c.in-Some-get-2.size.now in
    let found = c.in-Some-get.ensures.lookup in
    let sized = c.in-Some-get-2.ensures.lookup in
    let there = slice_get-get_or ts n template found.3.0 ∙ ap (λ x. Some x) (sym found.1) in
    let at = ap (λ l. slice_get l n) (sym c.deref.ensures.value) ∙ slice_get-get_or c.deref.result.now n size sized.3.0 ∙ ap (λ x. Some x) (sym sized.1) in
    let body = body_is ts n template k.0 (no_fault (templates_fault same (map template_seen ts)) t.known.faultless) there k.1 ∙ ap (written ms) (sym c.deref-2.ensures.value) in
    let count = mapped_at (λ s. s.variants) (λ x. capped (length (variants single x.body))) t.measured.sizes.items ms n size k.0 t.known.measured.variants at k.1 in
    subst (λ r. IsTaken (item_variants (named ms w)) (item_weight (named ms w)) c.args.number r size.variants c.args.number) body (name_taken ms w k.0.body c.args.number size.variants k.2 c.requires.few c.requires.below count)

pub returns-in_default-get : goal.returns-in_default-get
returns-in_default-get c =
    let t = c.args.self.now in
    let ms = meant_by t in
    let k = c.in-Some.ensures ms t.known.measured in
    absurd (none_there t.templates.now c.in-Some.at k.0 c.in_default-get.ensures.lookup.3 k.1)

pub returns-in_default-get-2 : goal.returns-in_default-get-2
returns-in_default-get-2 c =
    let t = c.args.self.now in
    let ms = meant_by t in
    let n = c.in-Some.at in
    absurd (no_size ms t.measured c.args.name n t.known.measured (c.in-Some.ensures ms t.known.measured) (ap (λ l. slice_get l n) (sym c.deref.ensures.value) ∙ slice_get_past c.deref.result.now n c.in_default-get-2.ensures.lookup.3))
