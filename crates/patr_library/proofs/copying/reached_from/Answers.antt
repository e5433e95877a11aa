use Rattle.std.proofs.Common.{◌≡◌, ◌∙◌, ◌-◌, ◌<◌, ℕ, [], true, false, replicate, get_or, ap, sym, subst, length, arith, rules}
use Rattle.patr_library.proofs.Names.{get_or_read, slice_get-get_or, shown_of, with_marks, value_of, value_below}
use Rattle.patr_library.proofs.Marking.{IsMarking, marking_starts, marking_skips, marking_takes, marking_ends}
use Rattle.patr_library.proofs.copying.reached_from.Goals as goal

pub loop-left-init : goal.loop-left-init
loop-left-init c =
    let v = shown_of c.args.arena.now in
    let blank : c.in_ok-reached.reached.items ≡ replicate (length c.args.places.now) false = search rules in (
      marking_starts v.structure (value_of v c.args.from) c.in_ok-reached.reached.items c.mark.new.reached.items (length c.args.places.now) (value_below v c.args.arena.now.lawful c.args.from c.requires.from) c.requires.places.long blank c.mark.ensures,
      omega arith,
    )

pub loop-left-preserved : goal.loop-left-preserved
loop-left-preserved c =
    let v = shown_of c.args.arena.now in
    let i = c.loop-left.invariant in
    (marking_skips v.structure (value_of v c.args.from) c.loop-left.left (c.loop-left.left - 1) c.loop-left.reached.items (omega arith) (sym (get_or_read c.loop-left.reached.items _ _ (omega (arith, i.0.long, c.requires.places.long, c.loop-left-test.true, i.1)) c.index.ensures false) ∙ c.if-index.false) i.0, omega arith)

pub loop-left-preserved-then-index : goal.loop-left-preserved-then-index
loop-left-preserved-then-index c =
    let v = shown_of c.args.arena.now in
    let i = c.loop-left.invariant in
    let marks = c.loop-left.reached.items in
    let next = c.loop-left.left - 1 in
    let below : next < length c.args.places.now = omega (arith, c.loop-left-test.true, i.1) in
    let here : get_or marks next false ≡ true = sym (get_or_read marks next _ (omega (arith, below, i.0.long, c.requires.places.long)) c.index.ensures false) ∙ c.if-index.true in
    let at = c.requires.places.each next _ (slice_get-get_or c.args.places.now next _ below) in (
      marking_takes v.structure (value_of v c.args.from) c.args.arena.now.lawful.structure c.loop-left.left next marks c.mark_targets.new.reached.items (omega arith) here (c.mark_targets.ensures ∙ ap (λ n. with_marks marks (get_or v.structure n [])) at.1) i.0,
      omega arith,
    )

pub returns-clause-long : goal.returns-clause-long
returns-clause-long c = c.loop-left.invariant.0.long ∙ sym c.requires.places.long

pub returns-clause-exact : goal.returns-clause-exact
returns-clause-exact c =
    let v = shown_of c.args.arena.now in
    let none : c.loop-left.left ≡ 0 = omega arith in
    marking_ends v.structure (value_of v c.args.from) c.loop-left.reached.items (subst (λ (m : ℕ). IsMarking v.structure (value_of v c.args.from) m c.loop-left.reached.items) none c.loop-left.invariant.0)
