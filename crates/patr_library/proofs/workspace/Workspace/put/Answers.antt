use Rattle.std.proofs.Common.{◌≡◌, ◌∙◌, ◌+◌, ap, arith, rules, length}
use Rattle.patr_library.proofs.Names.{sum_by, Shown, shown_of, ref_of, with_block}
use Rattle.patr_library.proofs.Placed.{ref_same}
use Rattle.patr_library.proofs.Workspaces.{arcs_more}
use Rattle.patr_library.proofs.workspace.Workspace.put.Goals as goal

pub returns-clause-whole : goal.returns-clause-whole
returns-clause-whole c =
    let v = shown_of c.args.self.now.arena in
    let sum : c.in_ok-self.field-0 ≡ c.args.self.now.arcs + c.in_ok-more.more = search rules in
    let is = ap (λ (x : Shown). sum_by length x.structure) c.in_ok-number.ensures.pushed in
    record { places = c.in_ok-number.ensures.places; arcs = omega (arith, sum, c.in_ok-more.ensures, c.requires.whole.arcs, is, arcs_more v (length v.sizes) c.args.block) }

pub returns-clause-value : goal.returns-clause-value
returns-clause-value c =
    let v = shown_of c.args.self.now.arena in
    let made = c.in_ok-number.ensures in
    c.resolve.ensures.same
    ∙ (ap (λ x. ref_of x c.in_ok-number.number c.args.root) made.pushed
    ∙ (ap (λ k. ref_of (with_block v c.args.block) k c.args.root) made.number ∙ ref_same v c.args.self.now.arena.lawful c.args.block made.block c.requires.block c.args.root c.requires.root.1))
