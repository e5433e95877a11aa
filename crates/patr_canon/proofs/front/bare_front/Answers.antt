use Rattle.std.proofs.Common.{◌≡◌, not, sym, ap, ◌∙◌, subst, take, drop}
use Rattle.patr_canon.proofs.Names.{IsCharBoundary, is_end, prefix_len}
use Rattle.patr_canon.proofs.Fronts.{bare_is, bare_boundary}
use Rattle.patr_canon.proofs.front.bare_front.Goals as goal

pub split_at-requires : goal.split_at-requires
split_at-requires c =
    let n : c.bare_len.result ≡ prefix_len (λ b. not (is_end b)) c.args.text.now = c.bare_len.ensures ∙ ap (prefix_len (λ b. not (is_end b))) c.as_bytes.ensures.value in
    subst (IsCharBoundary c.args.text.now) (sym n) (bare_boundary c.args.text.now c.utf8.text)

pub returns-clause-front : goal.returns-clause-front
returns-clause-front c =
    let text = c.args.text.now in
    let n : c.bare_len.result ≡ prefix_len (λ b. not (is_end b)) text = c.bare_len.ensures ∙ ap (prefix_len (λ b. not (is_end b))) c.as_bytes.ensures.value in
    bare_is text ∙ (ap (λ k. record { it = take k text; rest = drop k text }) (sym n)
    ∙ (ap (λ t. record { it = t; rest = drop c.bare_len.result text }) (sym c.split_at.ensures.front) ∙ ap (λ t. record { it = c.split_at.result.0.now; rest = t }) (sym c.split_at.ensures.back)))
