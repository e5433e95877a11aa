-- What a scratch holds, as plain data.
use Rattle.std.specs.Prelude.{ℕ, ◌≡◌, ◌+◌, ◌*◌, ◌<◌, ◌≤◌, ◌⊎◌, cond, nat_eq, Option, Some, None, List, [], ◌∷◌, ◌++◌, length, get_or, set, replicate}
use Rattle.patr_scratch.specs.declared.Added.{Added}
use Rattle.patr_scratch.specs.declared.Side.{Side}
use Rattle.patr_scratch.specs.declared.Side.TheVariants as side
use Rattle.patr_scratch.specs.declared.Place.{Place}
use Rattle.patr_scratch.specs.declared.Target.{Target}
use Rattle.patr_scratch.specs.declared.Copied.{Copied}
use Rattle.patr_scratch.specs.declared.Visit.{Visit}
use Rattle.patr_scratch.specs.declared.Visit.TheVariants as visit

-- an added arc, and the number by which callers reach it
pub record Link : Type 0 where
  pub cell : ℕ
  pub attribute : ℕ
  pub to : Target

-- what this generation set at a place, and its added arcs
pub record PlaceMarks : Type 0 where
  pub forward : Option Target
  pub copied : Option Copied
  pub visit : Visit
  pub added : List Link

-- the marks of all places, the stacks with their last item at the top, how many arcs were added, the places that a walk has left, the first one first, and the room for each
pub record Contents : Type 0 where
  pub places : List PlaceMarks
  pub arcs : ℕ
  pub arc_room : ℕ
  pub pairs : List (Target × Target)
  pub pair_room : ℕ
  pub visits : List Place
  pub visit_room : ℕ
  pub order : List Place
  pub order_room : ℕ

-- a place at which nothing was set
abbrev pub unmarked : PlaceMarks
unmarked = record { forward = None; copied = None; visit = visit.Unseen; added = [] }

-- a scratch that holds nothing and has no room
abbrev pub no_room : Contents
no_room = record { places = []; arcs = 0; arc_room = 0; pairs = []; pair_room = 0; visits = []; visit_room = 0; order = []; order_room = 0 }

-- where a place is in the list of places: the two sides take turns
abbrev pub slot : Side → ℕ → ℕ
slot side.Left n = 2 * n
slot side.Right n = 2 * n + 1

-- there is room for the place with this number
abbrev pub HasPlace : Contents → Side → ℕ → Type 0
HasPlace v s n = slot s n < length v.places

-- the marks of a place
abbrev pub marks : Contents → Side → ℕ → PlaceMarks
marks v s n = get_or v.places (slot s n) unmarked

-- the same with other marks at this place
abbrev pub put : Contents → Side → ℕ → PlaceMarks → Contents
put v s n m = record v { places = set v.places (slot s n) m }

-- the same room, with no mark, nothing on the stacks and no place left
abbrev pub begun : Contents → Contents
begun v = record {
  places = replicate (length v.places) unmarked;
  arcs = 0;
  arc_room = v.arc_room;
  pairs = [];
  pair_room = v.pair_room;
  visits = [];
  visit_room = v.visit_room;
  order = [];
  order_room = v.order_room;
}

-- there is no mark, no added arc, nothing on the stacks, and no place was left
pub record IsBlank (v : Contents) : Type 0 where
  pub places : v.places ≡ replicate (length v.places) unmarked
  pub arcs : v.arcs ≡ 0
  pub pairs : v.pairs ≡ []
  pub visits : v.visits ≡ []
  pub order : v.order ≡ []

-- room for so many places on each side, visits, places that are left and added arcs, and for one more pair than arcs
pub record HasRoom (v : Contents) (table nodes arcs : ℕ) : Type 0 where
  pub for_places : 2 * table ≤ length v.places
  pub for_visits : nodes ≤ v.visit_room
  pub for_order : nodes ≤ v.order_room
  pub for_arcs : arcs ≤ v.arc_room
  pub for_pairs : arcs + 1 ≤ v.pair_room

-- no room is smaller
pub record KeepsRoom (old new : Contents) : Type 0 where
  pub for_places : length old.places ≤ length new.places
  pub for_visits : old.visit_room ≤ new.visit_room
  pub for_order : old.order_room ≤ new.order_room
  pub for_arcs : old.arc_room ≤ new.arc_room
  pub for_pairs : old.pair_room ≤ new.pair_room

-- one more arc, in front of the place's others
abbrev pub with_arc : Contents → Side → ℕ → ℕ → Target → Contents
with_arc v s n attribute to = record (put v s n (record (marks v s n) { added = record { cell = v.arcs; attribute = attribute; to = to } ∷ (marks v s n).added })) { arcs = v.arcs + 1 }

-- all arcs of the first place before those of the second, and none at the first
abbrev pub with_moved : Contents → Side → ℕ → Side → ℕ → Contents
with_moved v s m t n =
    put (put v t n (record (marks v t n) { added = (marks v s m).added ++ (marks v t n).added }))
    s m (record (marks v s m) { added = [] })

-- the cell of the list's first arc
abbrev pub first_cell : List Link → Option ℕ
first_cell [] = None
first_cell (l ∷ ls) = Some l.cell

-- the list from the arc in this cell on, or nothing where it has none there
abbrev pub from_cell : List Link → ℕ → List Link
from_cell [] c = []
from_cell (l ∷ ls) c = cond (nat_eq l.cell c) (l ∷ ls) (from_cell ls c)

-- the list from this cell on, where there is one
abbrev pub after : List Link → Option ℕ → List Link
after ls None = []
after ls (Some c) = from_cell ls c

-- an arc of the list is in this cell
abbrev pub HasCell : List Link → ℕ → Type 0
HasCell [] c = ⊥
HasCell (l ∷ ls) c = (l.cell ≡ c) ⊎ HasCell ls c

-- the end of the list, or the cell of one of its arcs
abbrev pub EndsOrHas : List Link → Option ℕ → Type 0
EndsOrHas ls None = Unit {0}
EndsOrHas ls (Some c) = HasCell ls c

-- in the list the cell has this arc, and the list goes on where the arc says
abbrev pub IsArcOf : List Link → ℕ → Added → Type 0
IsArcOf ls c a = (after ls (Some c) ≡ record { cell = c; attribute = a.attribute; to = a.to } ∷ after ls a.next) × EndsOrHas ls a.next

-- the cell of an arc in some place's list
abbrev pub IsCell : Contents → ℕ → Type 0
IsCell v c = (s : Side) × (n : ℕ) × HasPlace v s n × HasCell (marks v s n).added c
