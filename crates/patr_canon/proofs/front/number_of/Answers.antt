use Rattle.std.proofs.Common.{◌≡◌, ℕ, ◌+◌, ◌*◌, get_or, drop, sym, ap, ◌∙◌, arith}
use Rattle.patr_canon.proofs.Names.{Front, digits_front, is_digit, prefix_len_passes}
use Rattle.patr_canon.proofs.Fronts.{digit_range, digit_step, digits_grow}
use Rattle.patr_canon.proofs.front.number_of.Goals as goal

pub overflow_sub-byte : goal.overflow_sub-byte
overflow_sub-byte c =
    (digit_range (get_or c.args.digits.now c.loop-byte.byte-index 0) (prefix_len_passes is_digit c.args.digits.now c.loop-byte.byte-index 0 (omega (arith, c.requires, c.loop-byte-test.true)))).0

pub returns-then-number-from : goal.returns-then-number-from
returns-then-number-from c =
    let bs = c.args.digits.now in
    let i = c.loop-byte.byte-index in
    let m = c.loop-byte.number * 10 + c.from.result in
    let step = digit_step bs i c.loop-byte.number 0 c.loop-byte-test.true (prefix_len_passes is_digit bs i 0 (omega (arith, c.requires, c.loop-byte-test.true))) in
    let is : digits_front bs 0 ≡ digits_front (drop (i + 1) bs) m = c.loop-byte.invariant.0 ∙ (step ∙ ap (λ d. digits_front (drop (i + 1) bs) (c.loop-byte.number * 10 + d)) (sym c.from.ensures)) in
    let grows = digits_grow (drop (i + 1) bs) m in
    let last = ap (λ (f : Front ℕ). f.it) is in
    omega (arith, grows, last, c.if-number-from.true, c.from-in-loop-byte.ensures)

pub loop-byte-preserved : goal.loop-byte-preserved
loop-byte-preserved c =
    let bs = c.args.digits.now in
    let i = c.loop-byte.byte-index in
    let step = digit_step bs i c.loop-byte.number 0 c.loop-byte-test.true (prefix_len_passes is_digit bs i 0 (omega (arith, c.requires, c.loop-byte-test.true))) in (
      c.loop-byte.invariant.0 ∙ (step ∙ ap (λ d. digits_front (drop (i + 1) bs) (c.loop-byte.number * 10 + d)) (sym c.from.ensures)),
      omega (arith, c.if-number-from.false, c.from-in-loop-byte.ensures),
    )
