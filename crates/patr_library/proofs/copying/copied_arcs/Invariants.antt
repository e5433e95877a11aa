use Rattle.std.proofs.Common.{take}
use Rattle.patr_library.proofs.Names.{shown_of, arcs_from, AreCopies, image_at}
use Rattle.patr_library.proofs.copying.copied_arcs.Given as goal

abbrev pub invariant-loop-arc : goal.invariant-loop-arc
invariant-loop-arc l = AreCopies (image_at l.images) (arcs_from (shown_of l.arena) l.at.block (take l.arc-index l.arc-items)) l.arcs.items
