use Rattle.std.proofs.Common.{◌≡◌, ◌∙◌, ap, length, rules, sym, subst}
use Rattle.patr_model.specs.Build.{unknown_name}
use Rattle.patr_model.specs.Productions.{things}
use Rattle.patr_grammar.specs.Levels.{features_seen}
use Rattle.patr_expand.specs.Seen.{same}
use Rattle.patr_expand.specs.Sizes.{IsRowSize}
use Rattle.patr_expand.specs.Written.{written}
use Rattle.patr_expand.proofs.Named.{added}
use Rattle.patr_expand.proofs.measured.Measured.add.Goals as goal

pub returns : goal.returns
returns c = λ ms h.
    let t = c.args.template.now in
    let s = c.size-size.result in
    let number : c.in-Ok.number ≡ length c.args.self.now.sizes.items = search rules in (
      sym (c.in_default.ensures ms h ∙ ap (λ es. unknown_name same ms (things (features_seen es))) c.deref.ensures.value),
      added ms c.args.self.now _ t c.grow.new.self c.in-Ok.number s h number c.in_ok-grow.ensures.same c.in_ok-grow.ensures.long (rw c.if-not-put.false at c.put.ensures) c.in_ok-push.ensures.items
          (subst (λ es. IsRowSize (written ms es) s) c.deref-2.ensures.value (c.size-size.ensures ms h)),
    )
