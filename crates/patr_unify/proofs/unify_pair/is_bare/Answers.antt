use Rattle.std.proofs.Common.{arith}
use Rattle.patr_unify.proofs.Loops.{arcs_are, own_has, added_has, both_bare}
use Rattle.patr_unify.proofs.unify_pair.is_bare.Goals as goal

pub returns-then-own-gt0 : goal.returns-then-own-gt0
returns-then-own-gt0 g c =
    let v = g.N.Nodes.shown c.args.nodes.now in
    let p = c.args.place in
    let fs = c.arcs-own.result.now in
    let same = arcs_are v (g.met.N.Nodes.lawful c.args.nodes.now) c.args.scratch.now p c.requires.place c.address.result c.address.ensures fs c.arcs-own.ensures.held c.arcs-own.ensures.same in
    own_has v c.args.scratch.now (g.met.N.Nodes.lawful c.args.nodes.now) p fs c.requires.place same (omega arith)

pub returns-in-Some : goal.returns-in-Some
returns-in-Some g c =
    let v = g.N.Nodes.shown c.args.nodes.now in
    added_has v c.args.scratch.now (g.met.N.Nodes.lawful c.args.nodes.now) c.args.place c.number.result _ c.requires.place c.number.ensures c.in-Some.ensures

pub returns-in-None : goal.returns-in-None
returns-in-None g c =
    let v = g.N.Nodes.shown c.args.nodes.now in
    let p = c.args.place in
    let fs = c.arcs-own.result.now in
    let same = arcs_are v (g.met.N.Nodes.lawful c.args.nodes.now) c.args.scratch.now p c.requires.place c.address.result c.address.ensures fs c.arcs-own.ensures.held c.arcs-own.ensures.same in
    both_bare v c.args.scratch.now (g.met.N.Nodes.lawful c.args.nodes.now) p c.number.result fs c.requires.place same (omega arith) c.number.ensures c.in-None.ensures
