use Rattle.std.proofs.Common.{◌≡◌, ◌++◌, List, ◌∷◌, ℕ, length, map, All, arith, ap, sym, subst, ◌∙◌, append_assoc, append-nil}
use Rattle.std.proofs.lemmas.List.Concat.{length-flat_map}
use Rattle.std.specs.Vec.Iter.{into_iter_items}
use Rattle.atomic_table.specs.Seated.{TableId}
use Rattle.atomic_table.specs.Table.{Me}
use Rattle.patr_claims.specs.declared.passes.PassView.{PassView}
use Rattle.patr_claims.specs.Tasks.{all_of, times}
use Rattle.patr_claims.specs.Passes.{both}
use Rattle.patr_claims.specs.Ticketing.{Drawn, Issued}
use Rattle.patr_claims.proofs.Seats.{nothing_left, head_is, tail_are}
use Rattle.patr_claims.proofs.TicketSteps.{joins}
use Rattle.patr_claims.proofs.tickets.Tickets.close.Goals as goal

abbrev numbers_of : List Drawn → List ℕ
numbers_of seats = all_of (map (λ seat. seat.numbers) seats)

abbrev IsAt : TableId → Drawn → Type 0
IsAt table seat = seat.table ≡ table

-- the numbers of the pass and of the seats that are left, where one seat more is joined
one_more : (v w : PassView) (seats rest all : List Drawn) (seat : Drawn) → w.drawn ≡ seat.numbers → seats ≡ seat ∷ rest → v.drawn ++ numbers_of seats ≡ numbers_of all → (both v w).drawn ++ numbers_of rest ≡ numbers_of all
one_more v w seats rest all seat same steps so_far =
    ap (λ l. (v.drawn ++ l) ++ numbers_of rest) same ∙ append_assoc v.drawn seat.numbers (numbers_of rest) ∙ ap (λ s. v.drawn ++ numbers_of s) (sym steps) ∙ so_far

pub loop-seat-init : goal.loop-seat-init
loop-seat-init c =
    let first = c.in-Some.ensures.items in
    let all : c.args.seats.items ≡ c.in-Some.first ∷ into_iter_items c.into_iter-seat-iterator.result = sym c.into_iter-rest.ensures.rest ∙ first ∙ ap (λ it. c.in-Some.first ∷ into_iter_items it) (sym c.into_iter-seat-iterator.ensures.into_iter_gives) in
    let table = ap (λ (o : Issued). o.table) c.self.view_is in
    let here = head_is (IsAt c.args.self.table) _ _ _ c.requires.here all in
    let pass = c.first.invariant.0 in record {
      here = ap (λ (d : Drawn). d.table) c.first.view_is ∙ here ∙ sym table;
      rest_here = subst (λ (z : TableId). All (IsAt z) (into_iter_items c.into_iter-seat-iterator.result)) (sym table) (tail_are (IsAt c.args.self.table) _ _ _ c.requires.here all);
      drawn = ap (λ (d : Drawn). d.numbers ++ numbers_of (into_iter_items c.into_iter-seat-iterator.result)) c.first.view_is ∙ ap numbers_of (sym all);
      count =
          let one = ap (λ (m : Me (Unit {0}) PassView). m.0.seats) pass in
          let long = ap length all in
          let seats = ap (λ (o : Issued). o.seats) c.self.view_is in
          let key = c.self.invariant.0 in
          let asked = c.requires.all in
          omega arith;
      no_slot = ap (λ (m : Me (Unit {0}) PassView). m.1) pass;
    }

pub join_seat-requires : goal.join_seat-requires
join_seat-requires c =
    let i = c.loop-seat.invariant in
    let word = c.self.invariant.1 in (
      i.here,
      ap (λ (d : Drawn). d.table) c.seat.view_is ∙ head_is (IsAt c.self.inside.table.shared.table_id) _ _ _ i.rest_here c.in-Some-seat.ensures.steps.0,
      ap (λ (m : Me (Unit {0}) PassView). m.1) c.seat.invariant.0,
      omega arith,
      joins _ _ _ _ _,
    )

pub loop-seat-preserved : goal.loop-seat-preserved
loop-seat-preserved c =
    let i = c.loop-seat.invariant in
    let steps = c.in-Some-seat.ensures.steps in
    let joined = c.join_seat.ensures.2 in
    let now = ap (λ (m : Me (Unit {0}) PassView). m.0) joined in record {
      here = c.join_seat.ensures.0 ∙ i.here;
      rest_here = tail_are (IsAt c.self.inside.table.shared.table_id) _ _ _ i.rest_here steps.0;
      drawn = ap (λ (v : PassView). v.drawn ++ numbers_of (into_iter_items c.next-in-loop-seat.new.self)) now
          ∙ one_more c.loop-seat.pass.me.0 c.seat.inside.pass.me.0 _ _ c.args.seats.items c.in-Some-seat.seat (ap (λ (d : Drawn). d.numbers) c.seat.view_is) steps.0 i.drawn;
      count =
          let was = i.count in
          let more = ap (λ (v : PassView). v.seats) now in
          let one = ap (λ (m : Me (Unit {0}) PassView). m.0.seats) c.seat.invariant.0 in
          let long = ap length steps.0 in
          omega arith;
      no_slot = ap (λ (m : Me (Unit {0}) PassView). m.1) joined ∙ i.no_slot;
    }

whole : (v : PassView) (rest all : List Drawn) → v.drawn ++ numbers_of rest ≡ numbers_of all → length rest ≡ 0 → v.drawn ≡ numbers_of all
whole v rest all is none_left = sym (append-nil v.drawn) ∙ ap (λ r. v.drawn ++ numbers_of r) (sym (nothing_left rest none_left)) ∙ is

pub returns-clause-total : goal.returns-clause-total
returns-clause-total c =
    c.total_of.ensures.total ∙ ap length (whole c.loop-seat.pass.me.0 (into_iter_items c.loop-seat.seat-iterator) c.args.seats.items c.loop-seat.invariant.drawn (omega (arith, c.in-None.ensures.steps.0))) ∙ length-flat_map (λ (list : List ℕ). list) (map (λ (seat : Drawn). seat.numbers) c.args.seats.items)

pub returns-clause-once : goal.returns-clause-once
returns-clause-once c = λ x below. ap (times x) (sym (whole c.loop-seat.pass.me.0 (into_iter_items c.loop-seat.seat-iterator) c.args.seats.items c.loop-seat.invariant.drawn (omega (arith, c.in-None.ensures.steps.0)))) ∙ c.total_of.ensures.once x below

pub returns-clause-no_other : goal.returns-clause-no_other
returns-clause-no_other c = λ x above. ap (times x) (sym (whole c.loop-seat.pass.me.0 (into_iter_items c.loop-seat.seat-iterator) c.args.seats.items c.loop-seat.invariant.drawn (omega (arith, c.in-None.ensures.steps.0)))) ∙ c.total_of.ensures.no_other x above
