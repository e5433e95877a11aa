-- What the reader of events has, in the words of the model.
use Rattle.std.specs.Prelude.{◌≡◌, ℕ, List, length, map, reverse, Vec}
use Rattle.std.specs.Option.{option_map}
use Rattle.std.specs.declared.alloc.Global.{Global}
use Rattle.patr_model.specs.Stack.{Event, Building, Half, building, fed_one, half}
use Rattle.patr_model.specs.Structure.{Value, Atom, Node, Arc, Arcs, Structure}
use Rattle.patr_canon.specs.declared.reader.Begun.{Begun}
use Rattle.patr_canon.specs.declared.reader.Link.{Link}
use Rattle.patr_canon.specs.declared.reader.Reader.{Reader}
use Rattle.patr_canon.specs.declared.reader.Target.{Target}
use Rattle.patr_canon.specs.declared.reader.Target.TheVariants as target
use Rattle.patr_canon.specs.Orders.{ArePlaces}

-- the value that a target stands for
abbrev pub target_seen : Target → Value
target_seen (target.Atom c) = Atom c.0
target_seen (target.Node k) = Node k

-- the arc that a link stands for
abbrev pub link_seen : Link → Arc
link_seen a = record { attribute = a.attribute.0; to = target_seen a.to }

-- the arcs that links stand for
abbrev pub links_seen : List Link → Arcs
links_seen links = map link_seen links

-- the nodes that the lists of their links stand for
abbrev pub nodes_seen : List (Vec Link Global) → Structure
nodes_seen nodes = map (λ links. links_seen links.items) nodes

-- a begun node, in the model's words
abbrev pub half_seen : Begun → Half
half_seen b = half b.number (links_seen b.links.items) b.attribute.0

-- the begun nodes, the last first
abbrev pub stack_seen : List Begun → List Half
stack_seen bs = map half_seen (reverse bs)

-- what was read so far, where the nodes have these numbers
abbrev pub building_seen : Reader → List ℕ → Building
building_seen r numbers = building (stack_seen r.begun.items) (option_map target_seen r.root) (nodes_seen r.nodes.items) numbers

-- a reader that has the places of the nodes' numbers took the event
abbrev pub HasFed : Event → Reader → Reader → Type 0
HasFed e old new = (numbers : List ℕ) → ArePlaces old.places numbers → length numbers ≡ length old.nodes.items
    → (after : List ℕ) × ArePlaces new.places after × (length after ≡ length new.nodes.items) × (building_seen new after ≡ fed_one e (building_seen old numbers))
