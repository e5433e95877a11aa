-- What a grammar has where nothing else is written.
use Rattle.std.specs.Prelude.{List, [], ◌∷◌, map}
use Rattle.std.specs.declared.vec.Vec.{Vec}
use Rattle.std.specs.declared.alloc.Global.{Global}
use Rattle.patr_text.specs.declared.symbols.Id.{Id}

-- the number of `cat`, which every table has
abbrev pub cat_number : Id
cat_number = record { 0 = 33 }

-- paths of the code
abbrev pub paths_seen : List (Vec Id Global) → List (List Id)
paths_seen ps = map (λ p. p.items) ps

-- the restrictor `<cat>`
abbrev pub by_category : List (List Id)
by_category = (cat_number ∷ []) ∷ []
