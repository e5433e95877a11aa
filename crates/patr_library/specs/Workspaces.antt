-- What a workspace keeps.
use Rattle.std.specs.Prelude.{◌≡◌, length}
use Rattle.std.specs.List.{sum_by}
use Rattle.patr_arena.specs.Arenas.{shown_of}
use Rattle.patr_library.specs.Own.{ArePlaces}
use Rattle.patr_library.specs.declared.workspace.Workspace.{Workspace}

-- the addresses are those of all nodes, and the number is that of their arcs
pub record IsWorkspace (w : Workspace) : Type 0 where
  pub places : ArePlaces (shown_of w.arena) w.places.items
  pub arcs : w.arcs ≡ sum_by length (shown_of w.arena).structure
