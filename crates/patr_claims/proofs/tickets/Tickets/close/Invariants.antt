use Rattle.std.proofs.Common.{◌≡◌, ◌+◌, ◌++◌, [], length, map, All}
use Rattle.std.specs.Vec.Iter.{into_iter_items}
use Rattle.patr_claims.specs.Tasks.{all_of}
use Rattle.patr_claims.proofs.tickets.Tickets.close.Given as goal

abbrev pub invariant-loop-seat : goal.invariant-loop-seat
invariant-loop-seat l = record {
  here : l.pass.table_id ≡ l.table.shared.table_id;
  rest_here : All (λ seat. seat.table ≡ l.table.shared.table_id) (into_iter_items l.seat-iterator);
  drawn : l.pass.me.0.drawn ++ all_of (map (λ seat. seat.numbers) (into_iter_items l.seat-iterator)) ≡ all_of (map (λ seat. seat.numbers) l.fn.seats.items);
  count : l.pass.me.0.seats + length (into_iter_items l.seat-iterator) ≡ l.table.shared.key;
  no_slot : l.pass.me.1 ≡ [];
}
