use Rattle.std.proofs.Common.{◌∙◌, sym}
use Rattle.patr_arena.proofs.Maps.{settle_atom, settle_known, settle_new}
use Rattle.patr_arena.proofs.mapping.settle.Goals as goal

pub returns-in-Atom : goal.returns-in-Atom
returns-in-Atom g c =
    settle_atom (g.N.Nodes.shown c.args.nodes.now) (g.met.N.Nodes.lawful c.args.nodes.now) c.args.images.now c.args.left c.args.right c.in-Atom.field-0 c.args.waiting.now.items c.is_same.result c.in-Atom.is c.is_same.ensures
    c.requires.left c.requires.right c.requires.images c.requires.pairs

pub returns-in-Some : goal.returns-in-Some
returns-in-Some g c =
    settle_known (g.N.Nodes.shown c.args.nodes.now) (g.met.N.Nodes.lawful c.args.nodes.now) c.args.images.now c.insert.new.self c.args.left c.args.right c.in-Some.image c.in-Node.at c.number.result c.args.waiting.now.items
    c.is_same-in-Some.result c.in-Node.is c.number.ensures (sym c.in-Some.is ∙ c.in_ok-image-in-Node.ensures.old) c.in_ok-image-in-Node.ensures.updates.0 c.is_same-in-Some.ensures c.requires.right c.requires.images c.requires.pairs

pub returns-in_ok-push_arcs-in-None : goal.returns-in_ok-push_arcs-in-None
returns-in_ok-push_arcs-in-None g c =
    settle_new (g.N.Nodes.shown c.args.nodes.now) (g.met.N.Nodes.lawful c.args.nodes.now) c.args.images.now c.insert.new.self c.args.left c.args.right c.in-Node.at c.number.result c.args.waiting.now.items c.push_arcs.new.waiting.items
    c.in_ok-push_arcs-in-None.field-0 c.in-Node.is c.number.ensures (sym c.in-None.is ∙ c.in_ok-image-in-Node.ensures.old) c.in_ok-image-in-Node.ensures.updates.0 c.in_ok-push_arcs-in-None.ensures c.requires.right c.requires.images
