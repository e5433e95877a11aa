use Rattle.std.proofs.Common.{◌≡◌, ◌+◌, ◌-◌, [], All, vec_len, vec_capacity}
use Rattle.patr_claims.specs.Passes.{pass_view}
use Rattle.patr_claims.proofs.tickets.Tickets.new.Given as goal

abbrev pub invariant-loop : goal.invariant-loop
invariant-loop l = record {
  here : l.pass.table_id ≡ l.table.shared.table_id;
  word : l.table.shared.table_id.words ≡ 1;
  left : l.pass.me ≡ (pass_view 0 (l.seats + 1 - l.counter) [] 0, []);
  count : vec_len l.made + 1 ≡ l.counter;
  room : vec_capacity l.made ≡ l.seats;
  places : All (λ seat. seat.table ≡ l.table.shared.table_id) l.made.items;
  fresh : All (λ seat. seat.numbers ≡ []) l.made.items;
}
