use Rattle.std.proofs.Common.{arith, subst}
use Rattle.patr_library.proofs.Names.{shown_of, ValueIsHeld, held_below}
use Rattle.patr_library.proofs.copying.mark.Goals as goal

pub index_mut-requires : goal.index_mut-requires
index_mut-requires c =
    let v = shown_of c.args.arena.now in
    let held = subst (ValueIsHeld v) c.in-Node.is c.requires.held in
    omega (arith, held_below v c.args.arena.now.lawful c.in-Node.at.block c.in-Node.at.offset held, c.requires.long, c.number.ensures)
