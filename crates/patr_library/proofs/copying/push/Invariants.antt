use Rattle.patr_library.proofs.Names.{ArePlacesUpTo}
use Rattle.patr_library.proofs.copying.push.Given as goal

abbrev pub invariant-loop-offset : goal.invariant-loop-offset
invariant-loop-offset l = ArePlacesUpTo l.number l.offset l.initial.places.items l.places.items
