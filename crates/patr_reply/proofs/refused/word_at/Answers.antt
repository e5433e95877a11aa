use Rattle.std.proofs.Common.{◌≡◌, ◌-◌, [], slice_index_or, arith, subst}
use Rattle.patr_reply.proofs.Words.{word_there, word_within}
use Rattle.patr_reply.proofs.refused.word_at.Goals as goal

pub returns-then-place-words : goal.returns-then-place-words
returns-then-place-words c = λ i w e at.
    let same : i ≡ c.args.position - 1 = omega (arith, e) in
    subst (λ j. (slice_index_or c.args.words.now j (record { ref_ptr = (0, 0); now = [] })).now ≡ w) same (word_there c.args.words.now i (record { ref_ptr = (0, 0); now = [] }) w at)

pub returns-else-place-words : goal.returns-else-place-words
returns-else-place-words c = λ i w e at. absurd (omega (arith, e, word_within c.args.words.now i w at, c.if-place-words.false))
