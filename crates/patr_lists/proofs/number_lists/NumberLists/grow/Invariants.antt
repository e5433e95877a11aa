use Rattle.std.proofs.Common.{◌≡◌, ◌-◌, ◌+◌, ℕ, [], get_or, length}
use Rattle.patr_lists.specs.Tables.{numbers}
use Rattle.patr_lists.proofs.number_lists.NumberLists.grow.Given as goal

abbrev pub invariant-loop-alloc : goal.invariant-loop-alloc
invariant-loop-alloc l = (k : ℕ) → get_or (numbers l.self-inside.lists.items) k [] ≡ get_or (numbers l.initial.self-inside.lists.items) k []

abbrev pub decreases-loop-alloc : goal.decreases-loop-alloc
decreases-loop-alloc l = (l.place + 1) - length l.self-inside.lists.items
