use Rattle.patr_scratch.specs.Contents.{no_room}
use Rattle.patr_unify.proofs.Loops.{own_arc, two_atoms}
use Rattle.patr_unify.proofs.clash.atoms_differ.Goals as goal

pub returns-then-are_two_atoms : goal.returns-then-are_two_atoms
returns-then-are_two_atoms g c _ =
    let v = g.N.Nodes.shown c.args.nodes.now in
    let s = g.met.N.Nodes.lawful c.args.nodes.now in
    let one = own_arc v s no_room c.args.first c.requires.first c.address.result c.address.ensures c.arcs-ones.result.now c.arcs-ones.ensures.held c.arcs-ones.ensures.same c.loop-i.i c.loop-i-test.true in
    let other = own_arc v s no_room c.args.second c.requires.second c.address-2.result c.address-2.ensures c.arcs-others.result.now c.arcs-others.ensures.held c.arcs-others.ensures.same c.loop-i.j c.if-j-others.true in
    two_atoms v c.args.first c.args.second _ _ _ _ one.has other.has (c.are_two_atoms.ensures c.if-are_two_atoms.true)
