use Rattle.std.proofs.Common.{◌++◌, take, Some}
use Rattle.patr_library.proofs.Names.{equations_at, shown_of, IsSolvedIn, slots_of, stated_of}
use Rattle.patr_library.specs.Workspaces.{IsWorkspace}
use Rattle.patr_library.proofs.solving.solved_in_turn.Given as goal

abbrev pub invariant-loop-equation : goal.invariant-loop-equation
invariant-loop-equation l = IsWorkspace l.space × IsSolvedIn (shown_of l.space.arena) (slots_of l.fn.start) (stated_of l.fn.start ++ equations_at (take l.equation-index l.equations)) (Some l.so_far)
