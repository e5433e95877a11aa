use Rattle.std.proofs.Common.{◌≡◌, ◌+◌, [], All, length, false, ap, sym, subst, ◌∙◌, arith, length-append}
use Rattle.std.proofs.lemmas.List.Elements.{All-push}
use Rattle.patr_claims.proofs.Seats.{head_is, tail_are}
use Rattle.patr_pool.specs.declared.workers.Worker.{Worker}
use Rattle.patr_pool.specs.Rounds.{CanRun}
use Rattle.patr_pool.proofs.workers.workers_of.Goals as goal

pub loop-seat-preserved : goal.loop-seat-preserved
loop-seat-preserved g c =
    let Seat : g.row.D-Seat.Denot → Type 0 = λ seat. g.D.Desk.is_seat c.args.desk.now seat × (g.D.Desk.taken seat ≡ []) × (g.D.Desk.has_seen_none seat ≡ false) in
    let Local : g.row.W-Local.Denot → Type 0 = g.W.Work.second_fact c.args.work.now [] false in
    let Can : Worker g.row.D-Seat.Denot g.row.W-Local.Denot g.row.W-Out.Denot → Type 0 = CanRun (g.D.Desk.is_seat c.args.desk.now) g.D.Desk.taken g.D.Desk.has_seen_none (g.W.Work.first_fact c.args.work.now) (g.W.Work.second_fact c.args.work.now) in
    let i = c.loop-seat.invariant in
    let seats = c.in-Some.ensures.steps.0 in
    let locals = c.in-Some-next.ensures.items in
    let pushed = c.push_reserved.ensures in
    let seat : Seat c.in-Some.seat = head_is Seat _ _ _ i.seats seats in
    let local : Local c.in-Some-next.local = head_is Local _ _ _ i.locals locals in
    let more_seats = ap length seats in
    let more_locals = ap length locals in
    let long : length c.push_reserved.new.self.items ≡ length c.loop-seat.workers.items + 1 = ap length pushed.items ∙ length-append c.loop-seat.workers.items _ in
    let same = i.same in
    let count = i.count in
    let room = i.room in
    let kept = pushed.capacity in record {
      seats = tail_are Seat _ _ _ i.seats seats;
      locals = tail_are Local _ _ _ i.locals locals;
      same = omega arith;
      count = omega arith;
      room = omega arith;
      each = subst (All Can) (sym pushed.items) (All-push Can c.loop-seat.workers.items _ i.each (seat.0, seat.1, seat.2, local));
    }
