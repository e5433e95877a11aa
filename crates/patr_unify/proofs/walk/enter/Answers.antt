use Rattle.std.proofs.Common.{[], ◌∷◌, ◌++◌}
use Rattle.patr_scratch.specs.declared.Visit.TheVariants as visit
use Rattle.patr_unify.specs.Reading.{key}
use Rattle.patr_unify.proofs.Visits.{visited, visited_then}
use Rattle.patr_unify.proofs.walk.enter.Goals as goal

pub returns-clause-visited : goal.returns-clause-visited
returns-clause-visited g c =
    let v = g.N.Nodes.shown c.args.nodes.now in
    let t = c.set_visit.new.self in
    let p = c.args.place in
    visited_then v c.args.scratch.now t c.push_visit.new.self (key v p) visit.Entered (t.visits ++ p ∷ []) t.order t.pairs
    (visited v c.args.scratch.now t p c.number.result visit.Entered (g.met.N.Nodes.lawful c.args.nodes.now) c.requires.held c.requires.place c.number.ensures c.set_visit.ensures) c.push_visit.ensures
