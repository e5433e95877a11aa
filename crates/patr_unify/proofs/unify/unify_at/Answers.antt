use Rattle.std.proofs.Common.{refl}
use Rattle.patr_arena.specs.Paths.{ids}
use Rattle.patr_arena.specs.Shown.{value_of}
use Rattle.patr_unify.proofs.unify.unify_at.Goals as goal

pub returns-in-NoUnifier-clause-none : goal.returns-in-NoUnifier-clause-none
returns-in-NoUnifier-clause-none g c = c.in-NoUnifier.ensures.none refl

pub returns-in_ok-made-in-Solvable-clause-some : goal.returns-in_ok-made-in-Solvable-clause-some
returns-in_ok-made-in-Solvable-clause-some g c = c.in_ok-made-in-Solvable.ensures.made (ids c.args.path.now) (value_of (g.N.Nodes.shown c.args.nodes.now) c.args.right) (c.in-Solvable.ensures.solvable refl)

pub copy-requires-clause-settled : goal.copy-requires-clause-settled
copy-requires-clause-settled g c = (ids c.args.path.now, value_of (g.N.Nodes.shown c.args.nodes.now) c.args.right, c.in-Solvable.ensures.solvable refl)
