-- A walk over a value, as the code does it.
--     events_seen       what it met
--     left_of           what its tasks will meet
--     IsEntering        a walk that goes on with a value
--     IsWalking         a walk that goes on with its tasks
--     AreSpelled        the symbols that a value's paths lead to have texts
use Rattle.std.specs.Prelude.{◌≡◌, ℕ, ◌+◌, ◌<◌, ◌≤◌, Bool, false, List, [], ◌∷◌, ◌++◌, length, map, nat_eq, reverse, is_some, Some}
use Rattle.std.specs.HashSet.{HashSet, contains}
use Rattle.std.specs.List.{AllByRecursion}
use Rattle.patr_model.specs.Structure as structure
use Rattle.patr_model.specs.Structure.{Structure, Node, arc, at}
use Rattle.patr_model.specs.Stack.{Event, OfAtom, OfAgain, Opens, OfArc, Closes, events, full}
use Rattle.patr_model.specs.Text.{Look, place_in}
use Rattle.patr_arena.specs.declared.value.Value.{Value}
use Rattle.patr_arena.specs.Shown.{Shown, ValueIsHeld, value_of}
use Rattle.patr_canon.specs.declared.event.Event as its
use Rattle.patr_canon.specs.declared.event.Event.TheVariants as event
use Rattle.patr_canon.specs.declared.order.Arc as arc
use Rattle.patr_canon.specs.declared.order.Look as code
use Rattle.patr_canon.specs.declared.walk.Task.{Task}
use Rattle.patr_canon.specs.declared.walk.Task.TheVariants as task
use Rattle.patr_canon.specs.declared.walk.Walk.{Walk}
use Rattle.patr_canon.specs.Orders.{look_of}

-- each atom and attribute that paths from the value lead to is a number below n
pub record AreSpelled (n : ℕ) (S : Structure) (v : structure.Value) : Type 0 where
  pub atoms : (p : List ℕ) (c : ℕ) → at S v p ≡ Some (structure.Atom c) → c < n
  pub attributes : (p : List ℕ) (x : structure.Value) (a : ℕ) (y : structure.Value) → at S v p ≡ Some x → structure.arc S x a ≡ Some y → a < n

-- the event that the code's event stands for
abbrev pub event_seen : its.Event → Event
event_seen (event.Atom c) = OfAtom c.0
event_seen (event.Again m) = OfAgain m
event_seen (event.Open m) = Opens m
event_seen (event.Arc first a) = OfArc first a.0
event_seen event.Close = Closes

-- the events that the code's events stand for
abbrev pub events_seen : List its.Event → List Event
events_seen es = map event_seen es

-- an atom or an attribute of the event is a number below n
abbrev pub EventIsSpelled : ℕ → Event → Type 0
EventIsSpelled n (OfAtom c) = c < n
EventIsSpelled n (OfAgain m) = Unit {0}
EventIsSpelled n (Opens m) = Unit {0}
EventIsSpelled n (OfArc first a) = a < n
EventIsSpelled n Closes = Unit {0}

-- atoms and attributes of the events are numbers below n
abbrev pub EventsAreSpelled : ℕ → List Event → Type 0
EventsAreSpelled n es = AllByRecursion (EventIsSpelled n) es

-- the set has the nodes of the list
abbrev pub IsDone : {S : Type 0} → HashSet ℕ S → List ℕ → Type 0
IsDone done ns = (m : ℕ) → contains nat_eq done m ≡ is_some (place_in ns m)

-- what the tasks will meet, the next first, where these nodes are done
abbrev pub left_of : Shown → Look → List Task → List ℕ → List Event
left_of v l [] done = []
left_of v l (task.Close m ∷ ts) done = Closes ∷ left_of v l ts (done ++ m ∷ [])
left_of v l (task.Arc first a to ∷ ts) done =
    OfArc first a.0 ∷ (events (full l v.structure (value_of v to) done).tree ++ left_of v l ts (full l v.structure (value_of v to) done).done)

-- the arc of a task has a text, and leads to a value that is held and whose symbols have texts
abbrev pub TaskIsReady : Shown → ℕ → Task → Type 0
TaskIsReady v n (task.Close m) = Unit {0}
TaskIsReady v n (task.Arc first a to) = (a.0 < n) × ValueIsHeld v to × AreSpelled n v.structure (value_of v to)

-- the tasks of a node's arcs
abbrev pub arc_tasks : Bool → List arc.Arc → List Task
arc_tasks first [] = []
arc_tasks first (a ∷ arcs) = task.Arc first a.attribute a.to ∷ arc_tasks false arcs

-- What was met, and then what the value and the tasks will meet, is all of it.
pub record IsEntering {S : Type 0} (v : Shown) (look : code.Look) (value : Value) (total : List Event) (done : HashSet ℕ S) (es : List its.Event) (ts : List Task) : Type 0 where
  pub nodes : List ℕ
  pub done_are : IsDone done nodes
  pub all : events_seen es ++ (events (full (look_of look) v.structure (value_of v value) nodes).tree ++ left_of v (look_of look) (reverse ts) (full (look_of look) v.structure (value_of v value) nodes).done) ≡ total
  pub ready : AllByRecursion (TaskIsReady v (length look.symbols.now)) (reverse ts)
  pub spelled : EventsAreSpelled (length look.symbols.now) (events_seen es)

-- What was met, and then what the tasks will meet, is all of it.
pub record IsWalking {S : Type 0} (v : Shown) (look : code.Look) (total : List Event) (done : HashSet ℕ S) (es : List its.Event) (ts : List Task) : Type 0 where
  pub nodes : List ℕ
  pub done_are : IsDone done nodes
  pub all : events_seen es ++ left_of v (look_of look) (reverse ts) nodes ≡ total
  pub ready : AllByRecursion (TaskIsReady v (length look.symbols.now)) (reverse ts)
  pub spelled : EventsAreSpelled (length look.symbols.now) (events_seen es)

-- a walk that went on with a value goes on with its tasks
pub record HasEntered (v : Shown) (look : code.Look) (value : Value) (old : Walk) (new : Walk) : Type 0 where
  pub walking : (total : List Event) → IsEntering v look value total old.done old.events.items old.tasks.items → IsWalking v look total new.done new.events.items new.tasks.items
  pub grows : length old.events.items ≤ length new.events.items

-- a walk that did its next task goes on with the others
pub record HasStepped (v : Shown) (look : code.Look) (task : Task) (old : Walk) (new : Walk) : Type 0 where
  pub walking : (total : List Event) → IsWalking v look total old.done old.events.items (old.tasks.items ++ task ∷ []) → IsWalking v look total new.done new.events.items new.tasks.items
  pub grows : length old.events.items + 1 ≤ length new.events.items
