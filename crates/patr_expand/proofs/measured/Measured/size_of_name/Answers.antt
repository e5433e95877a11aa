use Rattle.std.proofs.Common.{◌≡◌, ◌∙◌, ap, sym, slice_get, Some, None}
use Rattle.std.proofs.lemmas.Option.{slice_get-get_or, slice_get_past}
use Rattle.patr_expand.proofs.Named.{named_size, no_size}
use Rattle.patr_expand.proofs.measured.Measured.size_of_name.Goals as goal

pub returns-in-Some-get : goal.returns-in-Some-get
returns-in-Some-get c = λ ms h.
    let n = c.in-Some.number in
    let s = c.in-Some-get.size.now in
    let found = c.in-Some-get.ensures.lookup in
    named_size ms c.args.self.now c.args.name n s h (c.in-Some.ensures ms h) (ap (λ l. slice_get l n) (sym c.deref.ensures.value) ∙ slice_get-get_or c.deref.result.now n s found.3.0 ∙ ap (λ x. Some x) (sym found.1))

pub returns-in-None : goal.returns-in-None
returns-in-None c = λ ms h.
    let n = c.in-Some.number in
    absurd (no_size ms c.args.self.now c.args.name n h (c.in-Some.ensures ms h) (ap (λ l. slice_get l n) (sym c.deref.ensures.value) ∙ slice_get_past c.deref.result.now n c.in-None.ensures.lookup.3))
