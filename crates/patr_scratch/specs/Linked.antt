-- How the cells hold the lists of the places.
use Rattle.std.specs.Prelude.{ℕ, ◌≡◌, ◌≢◌, ◌<◌, Option, Some, None, List, [], ◌∷◌, length, map}
use Rattle.patr_lists.specs.Members.{IsIn, NoRepeats}
use Rattle.patr_scratch.specs.declared.arc.ArcCell.{ArcCell}
use Rattle.patr_scratch.specs.declared.Place.{Place}
use Rattle.patr_scratch.specs.declared.Target.{Target}
use Rattle.patr_scratch.specs.declared.packed.Ends.{Ends}
use Rattle.patr_scratch.specs.Marks.{Mark}
use Rattle.patr_scratch.specs.Cells.{cell_at, read}
use Rattle.patr_scratch.specs.WithRoom.{WithRoom}
use Rattle.patr_scratch.specs.Marks.{mark_at}
use Rattle.patr_scratch.specs.Contents.{PlaceMarks, Contents}

-- the first cell of a list, if it has one
abbrev pub first_of : Option Ends → Option ℕ
first_of None = None
first_of (Some e) = Some e.first

-- the last cell of a list, or this one where it has none
abbrev pub last_or : Option Ends → ℕ → ℕ
last_or None c = c
last_or (Some e) c = e.last

-- the cells of the list that begins at this cell, in order
abbrev pub IsList : List ArcCell → Option ℕ → List ℕ → Type 0
IsList cells first [] = first ≡ None
IsList cells first (c ∷ cs) = (first ≡ Some c) × (c < length cells) × IsList cells (cell_at cells c).next cs

-- this cell is the last one of these, and stands at no earlier place
abbrev pub LastIs : List ℕ → ℕ → Type 0
LastIs [] z = ⊥
LastIs (c ∷ []) z = c ≡ z
LastIs (c ∷ d ∷ cs) z = (c ≢ z) × LastIs (d ∷ cs) z

-- the last cell that a mark tells is the last one of these
abbrev pub IsLastOf : Option Ends → List ℕ → Type 0
IsLastOf None cs = Unit {0}
IsLastOf (Some e) cs = LastIs cs e.last

-- each place has a list of cells of its own, whose first and last cell its mark tells
pub record IsLinked (ms : List Mark) (cells : List ArcCell) : Type 0 where
  pub lists : ℕ → List ℕ
  pub owner : ℕ → ℕ
  pub each : (k : ℕ) → IsList cells (first_of (mark_at ms k).added) (lists k)
  pub last : (k : ℕ) → IsLastOf (mark_at ms k).added (lists k)
  pub once : (k : ℕ) → NoRepeats (lists k)
  pub owned : (k c : ℕ) → IsIn (lists k) c → owner c ≡ k

-- a mark, with the list that its cells hold
abbrev pub place_of : List ArcCell → Mark → PlaceMarks
place_of cells m = record { forward = m.forward; copied = m.copied; visit = m.visit; added = read (length cells) cells (first_of m.added) }

-- what a scratch with these parts holds
abbrev pub contents_of : List Mark → WithRoom ArcCell → WithRoom (Target × Target) → WithRoom Place → WithRoom Place → Contents
contents_of ms arcs pairs visits order = record {
  places = map (place_of arcs.list) ms;
  arcs = length arcs.list;
  arc_room = arcs.room;
  pairs = pairs.list;
  pair_room = pairs.room;
  visits = visits.list;
  visit_room = visits.room;
  order = order.list;
  order_room = order.room;
}
