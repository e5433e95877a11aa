use Rattle.std.proofs.Common.{sym}
use Rattle.patr_canon.proofs.Orders.{number_had, number_added}
use Rattle.patr_canon.proofs.reader.note.Goals as goal

pub returns-then-contains_key : goal.returns-then-contains_key
returns-then-contains_key c = λ numbers places is. number_had c.args.places.now c.args.number numbers places (sym c.if-contains_key.ensures)

pub returns : goal.returns
returns c = λ numbers places is. number_added c.args.places.now c.insert.new.self c.args.number c.args.place numbers places is (sym c.if-contains_key.ensures) c.in_ok-insert.ensures.updates.0
