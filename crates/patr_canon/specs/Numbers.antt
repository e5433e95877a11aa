-- The numbers of nodes, by the list of those that have one.
use Rattle.std.specs.Prelude.{◌≡◌, ℕ, List, ◌∷◌, ◌++◌, Option, Some, None, true, is_some}
use Rattle.std.specs.List.{AllByRecursion}
use Rattle.patr_model.specs.Stack.{Event, OfAtom, OfAgain, Opens, OfArc, Closes}
use Rattle.patr_model.specs.Text.{from_one, place_in}

-- no number stands twice
abbrev pub AreOnce : List ℕ → Type 0
AreOnce ns = (before behind : List ℕ) (n : ℕ) → ns ≡ before ++ n ∷ behind → place_in before n ≡ None

-- a node's number, from 1, by the nodes that have one; 0 where it has none
abbrev pub number_by : List ℕ → ℕ → ℕ
number_by ns n = from_one (place_in ns n)

-- a number, or 0 where there is none
abbrev pub number_or_none : Option ℕ → ℕ
number_or_none None = 0
number_or_none (Some n) = n

-- the node that an event meets again
abbrev pub again_of : Event → Option ℕ
again_of (OfAtom c) = None
again_of (OfAgain n) = Some n
again_of (Opens n) = None
again_of (OfArc first a) = None
again_of Closes = None

-- the node that an event begins
abbrev pub opened_of : Event → Option ℕ
opened_of (OfAtom c) = None
opened_of (OfAgain n) = None
opened_of (Opens n) = Some n
opened_of (OfArc first a) = None
opened_of Closes = None

-- a node that stands again has a number
abbrev pub EventIsNumbered : List ℕ → Event → Type 0
EventIsNumbered ns (OfAtom c) = Unit {0}
EventIsNumbered ns (OfAgain n) = is_some (place_in ns n) ≡ true
EventIsNumbered ns (Opens n) = Unit {0}
EventIsNumbered ns (OfArc first a) = Unit {0}
EventIsNumbered ns Closes = Unit {0}

-- the nodes that stand again have numbers
abbrev pub EventsAreNumbered : List ℕ → List Event → Type 0
EventsAreNumbered ns es = AllByRecursion (EventIsNumbered ns) es
