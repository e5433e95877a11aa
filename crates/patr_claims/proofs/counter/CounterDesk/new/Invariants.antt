use Rattle.std.proofs.Common.{◌≡◌, ◌+◌, ◌-◌, [], All, vec_len, vec_capacity, false}
use Rattle.patr_claims.specs.Passes.{pass_view}
use Rattle.patr_claims.proofs.counter.CounterDesk.new.Given as goal

abbrev pub invariant-loop : goal.invariant-loop
invariant-loop l = record {
  here : l.pass.table_id ≡ l.table.shared.table_id;
  left : l.pass.me ≡ (pass_view l.tasks (l.seats + 1 - l.counter) [] 0, []);
  count : vec_len l.made + 1 ≡ l.counter;
  room : vec_capacity l.made ≡ l.seats;
  places : All (λ seat. (seat.pass.table_id ≡ l.table.shared.table_id) × (seat.tasks ≡ l.tasks)) l.made.items;
  fresh : All (λ seat. (seat.taken.items ≡ []) × (seat.seen_none ≡ false)) l.made.items;
}
