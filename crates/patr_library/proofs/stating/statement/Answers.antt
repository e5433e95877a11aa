use Rattle.std.proofs.Common.{◌≡◌, ◌∙◌, sym, ap, rules, []}
use Rattle.patr_library.proofs.Names.{Atom, led, equation_at, term_at, path_at, ids, IsRooted, IsPlaceOf, IsStatement, own_nodes, pointed}
use Rattle.patr_library.proofs.Placing.{atom_stated, place_stated, each_some}
use Rattle.patr_library.proofs.stating.statement.Goals as goal

pub returns-in-Atom-clause-some : goal.returns-in-Atom-clause-some
returns-in-Atom-clause-some c =
    let same : c.deref.result.now ≡ c.in_ok-left.left.items = search rules in
    let empty : c.new-block.result ≡ [] = search rules in (
      c.in_ok-root-in-Atom.ensures.rooted,
      atom_stated (equation_at c.args.equation.now) c.in-Atom.atom.0 (ids c.deref.result.now) (pointed c.lead.new.block c.in_ok-root-in-Atom.root) (ap term_at c.in-Atom.is) (ap ids same ∙ c.in_ok-left.ensures)
          (ap (λ b. led (own_nodes b) (Atom c.in-Atom.atom.0) (ids c.deref.result.now)) (sym empty) ∙ c.in_ok-root-in-Atom.ensures.is),
    )

pub returns-clause-some : goal.returns-clause-some
returns-clause-some c =
    let left : c.deref-in-Path.result.now ≡ c.in_ok-left.left.items = search rules in
    let right : c.deref-in-Path-2.result.now ≡ c.in_ok-right-in-Path.right.items = search rules in
    let p = ids c.deref-in-Path.result.now in
    let q = ids c.deref-in-Path-2.result.now in
    each_some (λ made. IsRooted made.block made.root × IsPlaceOf p q (pointed made.block made.root)) (λ made. IsRooted made.block made.root × IsStatement (equation_at c.args.equation.now) (pointed made.block made.root))
    (λ made h. (h.0, place_stated (equation_at c.args.equation.now) (path_at c.in-Path.path) p q (pointed made.block made.root) (ap term_at c.in-Path.is) (ap ids left ∙ c.in_ok-left.ensures) (ap ids right ∙ c.in_ok-right-in-Path.ensures) h.1))
    c.in_ok-found-in-Path.found c.in_ok-found-in-Path.ensures.some
