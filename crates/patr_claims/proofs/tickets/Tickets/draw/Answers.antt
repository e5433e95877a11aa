use Rattle.std.proofs.Common.{arith, sym, ap, ◌∙◌, length}
use Rattle.patr_claims.proofs.TicketSteps.{draws_as}
use Rattle.patr_claims.specs.Ticketing.{Drawn, Issued}
use Rattle.patr_claims.proofs.tickets.Tickets.draw.Goals as goal

pub fetch_add-requires : goal.fetch_add-requires
fetch_add-requires c =
    let long = ap (λ (d : Drawn). length d.numbers) c.seat.view_is in
    let few = c.requires.few in
    let word = c.self.invariant.1 in (
      ap (λ (d : Drawn). d.table) c.seat.view_is ∙ c.requires.here ∙ sym (ap (λ (o : Issued). o.table) c.self.view_is),
      omega arith,
      draws_as _ _ _ _ c.seat.invariant.0 (omega arith),
    )
