use Rattle.std.proofs.Common.{◌≡◌, rules, None}
use Rattle.patr_library.proofs.Names.{equation_at, shown_of, IsStatement, pointed}
use Rattle.patr_model.specs.Variants as model
use Rattle.patr_library.proofs.Steps.{least_more, none_at_once}
use Rattle.patr_library.proofs.solving.with_equation.Goals as goal

pub returns-in_default-clause-solved : goal.returns-in_default-clause-solved
returns-in_default-clause-solved c =
    let none : model.equation_at (equation_at c.args.equation.now) ≡ None = search rules in
    λ slots es so_far within. none_at_once slots es (equation_at c.args.equation.now) none

pub returns-clause-solved : goal.returns-clause-solved
returns-clause-solved c =
    let s = c.in-Some.stated in
    let e = equation_at c.args.equation.now in
    let stated : IsStatement e (pointed s.block s.root) = search rules in
    λ slots es so_far within.
    least_more slots es e (shown_of c.args.space.now.arena) (shown_of c.unify.new.self.arena) c.args.so_far s.block s.root c.in_ok-made.made so_far within stated c.in_ok-made.ensures.unified
