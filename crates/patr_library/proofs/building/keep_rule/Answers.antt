use Rattle.std.proofs.Common.{◌≡◌, ◌∙◌, ap, sym, subst, rules, length, slice_get, Some}
use Rattle.patr_library.proofs.Names.{slice_get-get_or, shown_of, equations_at, IsLeastAt, IsSolved}
use Rattle.patr_library.proofs.Keeping.{rule_dealt}
use Rattle.patr_library.proofs.building.keep_rule.Goals as goal

pub returns : goal.returns
returns c =
    let x = c.args.variant.now in
    let m = c.in-Some.least in
    let made = c.in_ok-made.made in
    let first : slice_get x.symbols.items 0 ≡ Some c.index-mother.result.now = slice_get-get_or x.symbols.items 0 _ x.some ∙ ap (λ y. Some y) (sym c.index-mother.ensures) in
    let long : c.len-count.result ≡ length x.symbols.items = search rules in
    let same : c.deref.result.now ≡ x.equations.items = search rules in
    let least : IsLeastAt c.len-count.result (equations_at x.equations.items) m.block m.root =
    subst (λ es. IsLeastAt c.len-count.result (equations_at es) m.block m.root) same (subst (IsSolved c.len-count.result (equations_at c.deref.result.now)) c.in-Some.is c.in_ok-least.ensures) in
    rule_dealt (shown_of c.args.arena.now) (shown_of c.store.new.arena) x c.index-mother.result.now c.len-count.result m.block m.root made.root made.nodes made.arcs c.args.items.now.items c.push.new.self.items c.args.arena.now.lawful
    first long least c.in_ok-made.ensures.arena c.in_ok-made.ensures.root.0 c.in_ok-made.ensures.root.1 c.in_ok-made.ensures.counts.0 c.in_ok-made.ensures.counts.1 c.in_ok-push.ensures.items
