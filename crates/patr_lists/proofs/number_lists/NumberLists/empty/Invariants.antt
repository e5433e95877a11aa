use Rattle.std.proofs.Common.{◌≡◌, ◌≤◌, [], length, replicate, vec_capacity}
use Rattle.patr_lists.specs.Tables.{numbers}
use Rattle.patr_lists.proofs.number_lists.NumberLists.empty.Given as goal

abbrev pub invariant-loop : goal.invariant-loop
invariant-loop l = (numbers l.lists.items ≡ replicate l.counter []) × (length l.lists.items ≡ l.counter) × (l.count ≤ vec_capacity l.lists)
