-- What a generation set at each place.
use Rattle.std.specs.Prelude.{ℕ, cond, List, replicate, get_or, Option, Some, None}
use Rattle.patr_scratch.specs.declared.Copied.{Copied}
use Rattle.patr_scratch.specs.declared.Copied.TheVariants as copied
use Rattle.patr_scratch.specs.declared.Side.TheVariants as side
use Rattle.patr_scratch.specs.declared.Target.{Target}
use Rattle.patr_scratch.specs.declared.Target.TheVariants as target
use Rattle.patr_scratch.specs.declared.Visit.{Visit}
use Rattle.patr_scratch.specs.declared.Visit.TheVariants.{Unseen}
use Rattle.patr_scratch.specs.declared.packed.CopiedAs.{CopiedAs}
use Rattle.patr_scratch.specs.declared.packed.CopiedAs.TheVariants as kind
use Rattle.patr_scratch.specs.declared.packed.Ends.{Ends}
use Rattle.patr_scratch.specs.declared.packed.Forwarded.{Forwarded}
use Rattle.patr_scratch.specs.declared.packed.Forwarded.TheVariants.{Nowhere, ToAtom, ToLeft, ToRight}
use Rattle.patr_scratch.specs.declared.packed.Numbers.{Numbers}
use Rattle.patr_scratch.specs.declared.packed.PackedMark.{PackedMark}

-- what was set at a place: where it is forwarded to, what it was copied to, how far a walk is with it, and the first and the last cell of its added arcs
pub record Mark : Type 0 where
  pub forward : Option Target
  pub copied : Option Copied
  pub visit : Visit
  pub added : Option Ends

-- the target of this kind with these numbers
abbrev pub forward_of : Forwarded → Numbers → Option Target
forward_of Nowhere n = None
forward_of ToAtom n = Some (target.Atom n.first)
forward_of ToLeft n = Some (target.Place (record { side = side.Left; block = n.first; offset = n.second }))
forward_of ToRight n = Some (target.Place (record { side = side.Right; block = n.first; offset = n.second }))

-- the copy of this kind with these numbers
abbrev pub copy_of : CopiedAs → Numbers → Option Copied
copy_of kind.Nothing n = None
copy_of kind.Old n = Some (copied.Old n.first n.second)
copy_of kind.New n = Some (copied.New n.first)

-- the mark that a packed one stands for
abbrev pub unpacked : PackedMark → Mark
unpacked m = record { forward = forward_of m.forwarded m.forward; copied = copy_of m.copied m.copy; visit = m.visit; added = cond m.has_arcs (Some m.ends) None }

-- the mark of a place where nothing was set
abbrev pub blank : Mark
blank = record { forward = None; copied = None; visit = Unseen; added = None }

-- the mark at an index, or no mark past the end
abbrev pub mark_at : List Mark → ℕ → Mark
mark_at ms k = get_or ms k blank

-- so many places without a mark
abbrev pub no_marks : ℕ → List Mark
no_marks n = replicate n blank
