-- What calls pass on, one behind another.
use Rattle.std.proofs.Common.{◌≡◌, ◌⊎◌, ℕ, List, [], ◌∷◌, ◌++◌, Option, Some, None, Bool, true, false, Result, Ok, Err, refl, sym, ◌∙◌, ap, subst, inl, inr, append-nil}
use Rattle.patr_shell.proofs.Names.{OnFalse, OnOk, is_err, Appends, Keeps, Appends-nil, Appends-trans, Keeps-trans, IsFlushed, PassesOn, is_write_fault, ended_by_write, answer_status, Status, Next, AnswerFault}
use Rattle.patr_shell.specs.declared.session.AnswerFault.TheVariants.{Write, Memory}

unless_failed : (failed : Bool) (P : Type 0) → P → OnFalse failed P
unless_failed true P p = tt
unless_failed false P p = p

-- nothing is written
pub passes_none : (failed : Bool) (a f : Option (List ℕ)) → PassesOn failed a a f f
passes_none failed a f = record { text = []; appended = Appends-nil a; silent = λ none. refl; passed = unless_failed failed (([] ≡ []) ⊎ IsFlushed a f) (inl refl) }

-- where a call failed nothing need be passed on
pub passed_if_ok : {T E : Type 0} (r : Result T E) (P Q : Type 0) → OnOk r Q → OnFalse (is_err r) (P ⊎ Q)
passed_if_ok (Ok x) P Q q = inr q
passed_if_ok (Err e) P Q q = tt

kept : (b c : Option (List ℕ)) (y : List ℕ) → Appends b c y → y ≡ [] → Keeps b c
kept None c y p none = tt
kept (Some x) None y p none = absurd p
kept (Some x) (Some z) y p none = p ∙ ap (λ (l : List ℕ). x ++ l) none ∙ append-nil x

no_text : (x y : List ℕ) → x ++ y ≡ [] → (x ≡ []) × (y ≡ [])
no_text [] y none = (refl, none)
no_text (b ∷ x) y none = cc

module _ (b c g h : Option (List ℕ)) (x y : List ℕ) (appended : Appends b c y) (silent : y ≡ [] → h ≡ g) where
  both_passed : (failed : Bool) → (x ≡ []) ⊎ IsFlushed b g → OnFalse failed ((y ≡ []) ⊎ IsFlushed c h) → OnFalse failed ((x ++ y ≡ []) ⊎ IsFlushed c h)
  both_passed true p q = tt
  both_passed false (inl p) (inl q) = inl (ap (λ (l : List ℕ). l ++ y) p ∙ q)
  both_passed false (inr p) (inl q) = inr (subst (λ o. Keeps o c) (sym (silent q)) (Keeps-trans g b c p (kept b c y appended q)))
  both_passed false (inl p) (inr q) = inr q
  both_passed false (inr p) (inr q) = inr q

-- behind a call that did not fail
pub passes_behind : (failed : Bool) (a b c f g h : Option (List ℕ)) → PassesOn false a b f g → PassesOn failed b c g h → PassesOn failed a c f h
passes_behind failed a b c f g h first second = record {
  text = first.text ++ second.text;
  appended = Appends-trans a b c first.text second.text first.appended second.appended;
  silent = λ none. let both = no_text first.text second.text none in second.silent both.1 ∙ first.silent both.0;
  passed = both_passed b c g h first.text second.text second.appended second.silent failed first.passed second.passed;
}

pub passes_still : (failed : Bool) (a b f g : Option (List ℕ)) → PassesOn false a b f g → PassesOn failed a b f g
passes_still failed a b f g h = record { text = h.text; appended = h.appended; silent = h.silent; passed = unless_failed failed ((h.text ≡ []) ⊎ IsFlushed b g) h.passed }

-- the status of a fault says that a write failed where it did
pub passes_as : (fault : AnswerFault) (status : Status) (a b f g : Option (List ℕ)) → status ≡ answer_status fault → PassesOn (is_write_fault {T = Next} (Err fault)) a b f g → PassesOn (ended_by_write status) a b f g
passes_as Write status a b f g is passes = subst (λ s. PassesOn (ended_by_write s) a b f g) (sym is) passes
passes_as Memory status a b f g is passes = subst (λ s. PassesOn (ended_by_write s) a b f g) (sym is) passes
