use Rattle.patr_unify.proofs.Visits.{copy_marked}
use Rattle.patr_unify.proofs.build.mark_copy.Goals as goal

pub returns : goal.returns
returns g c =
    copy_marked (g.N.Nodes.shown c.args.nodes.now) c.args.scratch.now c.set_copy.new.self c.args.place c.number.result c.args.made (g.met.N.Nodes.lawful c.args.nodes.now) c.requires.held c.requires.place c.number.ensures c.set_copy.ensures
