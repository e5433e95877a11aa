use Rattle.std.proofs.Common.{◌≡◌, ◌+◌, ◌<◌, ◌-◌, ℕ, List, length, drop, take, arith, sym, ap, ◌∙◌, subst}
use Rattle.patr_lexicon.proofs.Names.{prefix_len, suffix_len, IsCharBoundary, is_edge}
use Rattle.patr_lexicon.proofs.Trims.{front_is_boundary, end_is_boundary, trimmed_is}
use Rattle.patr_lexicon.proofs.line.trim.Goals as goal

pub range_from-rest-requires : goal.range_from-rest-requires
range_from-rest-requires c = λ some.
    let front : c.edge_len.result ≡ prefix_len is_edge c.args.text.now = c.edge_len.ensures.len ∙ ap (prefix_len is_edge) c.as_bytes.ensures.value in
    subst (IsCharBoundary c.args.text.now) (sym front) (front_is_boundary c.args.text.now c.utf8.text (subst (λ n. 0 < n) front some))

pub range-requires-clause-end_boundary : goal.range-requires-clause-end_boundary
range-requires-clause-end_boundary c =
    end_is_boundary c.range_from-rest.result.now c.kept_len.result (subst (λ (b : List ℕ). c.kept_len.result + suffix_len is_edge b ≡ length b) c.as_bytes-2.ensures.value c.kept_len.ensures.len)

pub returns : goal.returns
returns c =
    let front : c.edge_len.result ≡ prefix_len is_edge c.args.text.now = c.edge_len.ensures.len ∙ ap (prefix_len is_edge) c.as_bytes.ensures.value in
    let end = subst (λ (b : List ℕ). c.kept_len.result + suffix_len is_edge b ≡ length b) c.as_bytes-2.ensures.value c.kept_len.ensures.len in
    let n = c.kept_len.result in
    let same : n - 0 ≡ n = omega arith in
    c.range.ensures.value ∙ ap (λ k. take k c.range_from-rest.result.now) same ∙ trimmed_is c.args.text.now c.range_from-rest.result.now c.kept_len.result (c.range_from-rest.ensures.value ∙ ap (λ n. drop n c.args.text.now) front) end
