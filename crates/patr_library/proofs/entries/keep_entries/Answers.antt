use Rattle.std.proofs.Common.{◌≡◌, ◌∙◌, Some, ap, refl, arith, get_or, rules}
use Rattle.patr_library.proofs.Names.{err_from_is_err_and, slice_get-get_or, shown_of, HasEntryItem, HasNoEntry, entry_variants_of, meant_by}
use Rattle.patr_library.proofs.Keeping.{none_dealt, entries_first, fault_here, next_dealt}
use Rattle.patr_library.proofs.entries.keep_entries.Goals as goal

pub loop-number-init : goal.loop-number-init
loop-number-init c = (none_dealt HasEntryItem HasNoEntry (shown_of c.args.arena.now) c.args.items.now.items, refl)

pub loop-number-preserved : goal.loop-number-preserved
loop-number-preserved c =
    let x = c.index-entries-number.result in
    let is : get_or c.args.entries.now c.loop-number.number x ≡ x = search rules in
    next_dealt (entries_first (meant_by c.args.templates.now)) HasEntryItem HasNoEntry (entry_variants_of (meant_by c.args.templates.now)) c.args.entries.now c.loop-number.number x (shown_of c.args.arena.now) (shown_of c.loop-number.arena) (shown_of c.keep_one.new.arena) c.args.items.now.items c.loop-number.items.items c.keep_one.new.items.items
    (slice_get-get_or c.args.entries.now c.loop-number.number x (omega (arith, c.loop-number-test.true)) ∙ ap (λ y. Some y) is) c.loop-number.invariant c.in_ok-keep_one.ensures.dealt c.in_ok-keep_one.ensures.faultless

pub returns-in_err-keep_one-clause-refused : goal.returns-in_err-keep_one-clause-refused
returns-in_err-keep_one-clause-refused c =
    let x = c.index-entries-number.result in
    let is : get_or c.args.entries.now c.loop-number.number x ≡ x = search rules in
    let p = err_from_is_err_and c.from_residual.result c.from_residual.ensures.1 in
    rw (p.1, p.2) (fault_here (entries_first (meant_by c.args.templates.now)) c.args.entries.now c.loop-number.number x c.in_err-keep_one.field-0.0 (slice_get-get_or c.args.entries.now c.loop-number.number x (omega (arith, c.loop-number-test.true)) ∙ ap (λ y. Some y) is) c.loop-number.invariant.1 c.in_err-keep_one.ensures.refused)
