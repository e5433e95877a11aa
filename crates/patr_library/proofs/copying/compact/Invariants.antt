use Rattle.std.proofs.Common.{◌≡◌, length}
use Rattle.patr_library.proofs.Names.{shown_of, AreImages}
use Rattle.patr_library.proofs.Marking.{AreCopied}
use Rattle.patr_library.proofs.copying.compact.Given as goal

abbrev pub invariant-loop-place : goal.invariant-loop-place
invariant-loop-place l = AreImages (shown_of l.arena).structure l.images.items l.block × (length l.images.items ≡ l.place) × AreCopied l.reached.items l.images.items
