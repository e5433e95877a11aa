use Rattle.std.proofs.Common.{◌≡◌, drop}
use Rattle.patr_model.specs.Structure.{at}
use Rattle.patr_arena.specs.Paths.{ids}
use Rattle.patr_arena.specs.Shown.{ValueIsHeld, value_of}
use Rattle.patr_arena.proofs.path.resolve_path.Given as goal

-- what is left of the path leads on from here
abbrev pub invariant-loop-attribute : goal.invariant-loop-attribute
invariant-loop-attribute g l =
    let v = g.N.Nodes.shown l.nodes in
    record {
      rest : at v.structure (value_of v l.value) (ids (drop l.attribute-index l.path)) ≡ at v.structure (value_of v l.fn.from) (ids l.path);
      held : ValueIsHeld v l.value;
    }
