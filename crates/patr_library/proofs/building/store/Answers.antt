use Rattle.patr_library.proofs.Names.{shown_of}
use Rattle.patr_library.proofs.Placed.{held_anywhere}
use Rattle.patr_library.proofs.building.store.Goals as goal

pub push-requires : goal.push-requires
push-requires c = held_anywhere (shown_of c.args.arena.now) c.args.least.block c.requires
