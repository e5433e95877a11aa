use Rattle.std.proofs.Common.{subst, sym}
use Rattle.patr_library.proofs.Names.{IsOwnBlock}
use Rattle.patr_library.proofs.Placed.{own_below, own_push}
use Rattle.patr_library.proofs.stating.top.Goals as goal

pub add-requires-clause-below : goal.add-requires-clause-below
add-requires-clause-below c = own_below _ c.args.arcs.now c.requires.own

pub returns-clause-block : goal.returns-clause-block
returns-clause-block c = subst IsOwnBlock (sym c.in_ok-offset.ensures.ok.1) (own_push _ c.args.arcs.now c.requires.rising c.requires.own c.requires.block)
