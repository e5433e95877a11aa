-- What a call that gives nothing but success has done.
use Rattle.std.proofs.Common.{◌≡◌, ℕ, cond, List, Result, Ok, Err, IfOk, OnOk, ◌∙◌}
use Rattle.std.specs.Result.{is_ok}

pub if_ok_is : {E : Type 0} (r : Result (Unit {0}) E) (now done kept goal : List ℕ) → now ≡ cond (is_ok r) done kept → done ≡ goal → IfOk r (λ _. now ≡ goal)
if_ok_is (Ok u) now done kept goal h e = h ∙ e
if_ok_is (Err e) now done kept goal h f = tt

pub on_ok_weaker : {T E : Type 0} (r : Result T E) (P Q : Type 0) → (P → Q) → OnOk r P → OnOk r Q
on_ok_weaker (Ok x) P Q f h = f h
on_ok_weaker (Err e) P Q f h = tt

pub if_ok_both : {T E : Type 0} (r : Result T E) (P Q R : Type 0) → (P → Q → R) → IfOk r (λ _. P) → IfOk r (λ _. Q) → IfOk r (λ _. R)
if_ok_both (Ok x) P Q R f p q = f p q
if_ok_both (Err e) P Q R f p q = tt
