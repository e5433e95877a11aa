use Rattle.std.proofs.Common.{◌≡◌, ◌≤◌, length, vec_capacity}
use Rattle.patr_pool.proofs.tests.no_locals.Given as goal

abbrev pub invariant-loop : goal.invariant-loop
invariant-loop l = record { count : length l.locals.items ≡ l.counter; room : l.seats ≤ vec_capacity l.locals }
