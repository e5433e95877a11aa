-- What a build makes is ready, and so are variants without written equations.
use Rattle.std.proofs.Common.{◌≡◌, ℕ, [], ◌∷◌, length, append-nil, Some, slice_get, Contains, sym, subst, arith}
use Rattle.std.specs.List.{AllByRecursion}
use Rattle.patr_model.specs.Equation.{AtomOf}
use Rattle.patr_model.specs.Derivation.{Rules}
use Rattle.patr_model.specs.Variants.{AreWithin}
use Rattle.patr_model.specs.Plain.{IsBare, bare}
use Rattle.patr_model.proofs.Members.{at_is_member}
use Rattle.patr_model.proofs.StatedCategories.{bare_within, stated_at, stated_within}
use Rattle.patr_model.proofs.PlainSolved.{bare_has, bare_chains}
use Rattle.patr_totality.specs.Laws.{AreReady, BuildsAreReady}

pub builds_are_ready : BuildsAreReady
builds_are_ready g cat made = record {
  categories = made.categories;
  states = made.states;
  within = made.within;
  chains = λ e k entry q. subst (AllByRecursion (AreWithin 2)) (sym (made.chains e k entry q)) tt;
}

pub bare_ready : (g : Rules) (cat : ℕ) → IsBare g cat → AreReady g cat
bare_ready g cat is = record {
  categories = bare_has g cat is;
  states = λ r k rule q s c h.
      let all = bare cat 0 rule.categories in
      let at = subst (λ es. slice_get es s ≡ Some (record { left = record { slot = s; path = cat ∷ [] }; right = AtomOf c })) (append-nil all) (stated_at cat 0 rule.categories [] s s c (omega arith) h) in
      subst (λ es. Contains es (record { left = record { slot = s; path = cat ∷ [] }; right = AtomOf c })) (sym (is.rules r k rule q).0)
      (at_is_member all s (record { left = record { slot = s; path = cat ∷ [] }; right = AtomOf c }) at);
  within = record {
    rules = λ r k rule q. subst (AreWithin (length rule.categories)) (sym (is.rules r k rule q).0) (bare_within (length rule.categories) cat 0 rule.categories (omega arith));
    entries = λ e k entry q. let f = is.entries e k entry q in subst (AreWithin 1) (sym f.1) (stated_within f.0);
  };
  chains = λ e k entry q. subst (AllByRecursion (AreWithin 2)) (sym (bare_chains g cat is e k entry q)) tt;
}
