use Rattle.std.proofs.Common.{◌+◌, drop, sym, ap, ◌∙◌, arith}
use Rattle.patr_lexicon.proofs.Names.{control, place_at}
use Rattle.patr_lexicon.proofs.Lines.{control_hit, control_stops, control_goes_on, control_ends}
use Rattle.patr_lexicon.proofs.line.control.Goals as goal

pub returns-then-is_control-clause-place : goal.returns-then-is_control-clause-place
returns-then-is_control-clause-place c n k =
    let i = c.loop-place.place in
    sym (c.loop-place.invariant n k ∙ control_hit c.args.comments n (k + i) c.args.text.now i c.loop-place-test.true (sym c.is_control.ensures ∙ c.if-is_control.true))

pub returns-then-begins_comment-clause-place : goal.returns-then-begins_comment-clause-place
returns-then-begins_comment-clause-place c n k =
    let i = c.loop-place.place in
    sym (c.loop-place.invariant n k ∙ control_stops c.args.comments n (k + i) c.args.text.now i c.loop-place-test.true (sym c.is_control.ensures ∙ c.if-is_control.false) (sym c.begins_comment.ensures ∙ c.if-begins_comment.true))

pub loop-place-preserved : goal.loop-place-preserved
loop-place-preserved c n k =
    let i = c.loop-place.place in
    c.loop-place.invariant n k ∙ control_goes_on c.args.comments n (k + i) c.args.text.now i c.loop-place-test.true (sym c.is_control.ensures ∙ c.if-is_control.false) (sym c.begins_comment.ensures ∙ c.if-begins_comment.false)
    ∙ ap (λ j. control c.args.comments (place_at n j) (drop (i + 1) c.args.text.now)) (omega arith)

pub returns-clause-place : goal.returns-clause-place
returns-clause-place c n k =
    let i = c.loop-place.place in
    sym (c.loop-place.invariant n k ∙ control_ends c.args.comments n (k + i) c.args.text.now i c.loop-place-test.false)
