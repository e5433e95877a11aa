use Rattle.std.proofs.Common.{◌≡◌, ◌≤◌, ◌^◌, List, ℕ, length, take, drop, sym, ap, ◌∙◌, subst}
use Rattle.patr_canon.proofs.Names.{Front, IsCharBoundary, digits_front, is_digit, prefix_len}
use Rattle.patr_canon.specs.Fronts.{IsNumberFront}
use Rattle.patr_canon.proofs.Fronts.{digits_boundary, digits_split, digits_all}
use Rattle.patr_canon.proofs.front.number_front.Goals as goal

pub split_at-requires : goal.split_at-requires
split_at-requires c =
    let n : c.digits_len.result ≡ prefix_len is_digit c.args.text.now = c.digits_len.ensures ∙ ap (prefix_len is_digit) c.as_bytes.ensures.value in
    subst (IsCharBoundary c.args.text.now) (sym n) (digits_boundary c.args.text.now c.utf8.text)

pub number_of-requires : goal.number_of-requires
number_of-requires c =
    let n : c.digits_len.result ≡ prefix_len is_digit c.args.text.now = c.digits_len.ensures ∙ ap (prefix_len is_digit) c.as_bytes.ensures.value in
    subst (λ (l : List ℕ). prefix_len is_digit l ≡ length l)
    (ap (λ k. take k c.args.text.now) (sym n) ∙ (sym c.split_at.ensures.front ∙ sym c.as_bytes-2.ensures.value)) (digits_all c.args.text.now)

-- the number is that of the digits before what is behind them
front_is : (bs digits rest bytes : List ℕ) (n : ℕ) → n ≡ prefix_len is_digit bs → digits ≡ take n bs → rest ≡ drop n bs → bytes ≡ digits → digits_front bs 0 ≡ record { it = (digits_front bytes 0).it; rest = rest }
front_is bs digits rest bytes n e front back same =
    digits_split bs 0 ∙ (ap (λ k. record { it = (digits_front (take k bs) 0).it; rest = drop k bs }) (sym e)
    ∙ (ap (λ l. record { it = (digits_front l 0).it; rest = drop n bs }) (sym (same ∙ front)) ∙ ap (λ l. record { it = (digits_front bytes 0).it; rest = l }) (sym back)))

pub returns-in_err-number : goal.returns-in_err-number
returns-in_err-number c =
    let n : c.digits_len.result ≡ prefix_len is_digit c.args.text.now = c.digits_len.ensures ∙ ap (prefix_len is_digit) c.as_bytes.ensures.value in
    let is = front_is c.args.text.now c.split_at.result.0.now c.split_at.result.1.now c.as_bytes-2.result.now c.digits_len.result n c.split_at.ensures.front c.split_at.ensures.back c.as_bytes-2.ensures.value in
    subst (IsNumberFront c.args.text.now) (sym c.from_residual.ensures) (subst (λ (f : Front ℕ). 2 ^ 32 ≤ f.it) (sym is) c.in_err-number.ensures)

pub returns : goal.returns
returns c =
    let n : c.digits_len.result ≡ prefix_len is_digit c.args.text.now = c.digits_len.ensures ∙ ap (prefix_len is_digit) c.as_bytes.ensures.value in
    let is = front_is c.args.text.now c.split_at.result.0.now c.split_at.result.1.now c.as_bytes-2.result.now c.digits_len.result n c.split_at.ensures.front c.split_at.ensures.back c.as_bytes-2.ensures.value in (
      is ∙ ap (λ (f : Front ℕ). record { it = f.it; rest = c.split_at.result.1.now }) c.in_ok-number.ensures.0,
      c.in_ok-number.ensures.1,
    )
