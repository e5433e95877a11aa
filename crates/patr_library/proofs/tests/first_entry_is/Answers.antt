use Rattle.std.proofs.Common.{◌≡◌, ◌∙◌, List, Some, slice_get, ap, sym, subst, rules}
use Rattle.patr_library.proofs.Names.{all_at, Shown, ValueIsHeld, EntryItem, IsEntryItem, rules_of}
use Rattle.patr_library.proofs.tests.first_entry_is.Goals as goal

pub is_same-requires-clause-held : goal.is_same-requires-clause-held
is_same-requires-clause-held c =
    let s = c.args.library.now in
    let i = c.in-Some.item.now in
    let first : slice_get c.entries.result.now 0 ≡ Some i = search rules in
    subst (λ (v : Shown). ValueIsHeld v i.root) (sym c.arena.ensures) (all_at (IsEntryItem (rules_of s) s.shown) s.entries c.entries.ensures.stored.entry_items 0 i (ap (λ (xs : List EntryItem). slice_get xs 0) (sym c.entries.ensures.same) ∙ first)).held
