use Rattle.std.proofs.Common.{◌≡◌, ◌+◌, ◌++◌, List, [], ◌∷◌, ℕ, length, map, Vec, Global, arith, ap, sym, subst, ◌∙◌, append_assoc, append-nil, length-append, true, cond}
use Rattle.std.proofs.lemmas.List.{length-map}
use Rattle.std.specs.Vec.Iter.{into_iter_items, into_iter_len}
use Rattle.patr_lists.specs.Tables.{numbers}
use Rattle.atomic_table.specs.Seated.{TableId}
use Rattle.patr_claims.specs.Tasks.{times_in, NoneTwice}
use Rattle.patr_claims.specs.declared.counter.CounterSeat.{CounterSeat}
use Rattle.patr_claims.specs.declared.counting.DeskSize.{DeskSize}
use Rattle.patr_claims.proofs.Seats.{nothing_left, head_is, tail_are}
use Rattle.patr_claims.proofs.counter.CounterDeskDesk.close.Goals as goal

abbrev taken_of : List CounterSeat → List (List ℕ)
taken_of seats = map (λ seat. seat.taken.items) seats

abbrev Here : TableId → ℕ → CounterSeat → Type 0
Here table tasks seat = (seat.pass.table_id ≡ table) × (seat.tasks ≡ tasks)

one_more : (lists : List (Vec ℕ Global)) (new : List (Vec ℕ Global)) (seats rest all : List CounterSeat) (seat : CounterSeat) → numbers new ≡ numbers lists ++ seat.taken.items ∷ [] → seats ≡ seat ∷ rest → numbers lists ++ taken_of seats ≡ taken_of all
    → (numbers new ++ taken_of rest ≡ taken_of all) × (length new ≡ length lists + 1)
one_more lists new seats rest all seat grown steps so_far = (
  ap (λ l. l ++ taken_of rest) grown ∙ append_assoc (numbers lists) (seat.taken.items ∷ []) (taken_of rest) ∙ ap (λ s. numbers lists ++ taken_of s) (sym steps) ∙ so_far,
  simp (length-map, length-append) at (ap length grown),
)

-- at the end the lists are those of all seats
whole : (lists : List (Vec ℕ Global)) (rest all : List CounterSeat) → numbers lists ++ taken_of rest ≡ taken_of all → length rest ≡ 0 → numbers lists ≡ taken_of all
whole lists rest all is ended = sym (append-nil (numbers lists)) ∙ ap (λ r. numbers lists ++ taken_of r) (sym (nothing_left rest ended)) ∙ is

pub loop-seat-init : goal.loop-seat-init
loop-seat-init c =
    let first = c.in-Some.ensures.items in
    let all : c.args.seats.items ≡ c.in-Some.first ∷ into_iter_items c.into_iter-seat-iterator.result = sym c.into_iter-rest.ensures.rest ∙ first ∙ ap (λ it. c.in-Some.first ∷ into_iter_items it) (sym c.into_iter-seat-iterator.ensures.into_iter_gives) in record {
      here = c.of-gathered.ensures.pass.0 ∙ (head_is (Here c.args.self.table.shared.table_id c.args.self.tasks) _ _ _ c.requires.here all).0;
      rest_here = tail_are (Here c.args.self.table.shared.table_id c.args.self.tasks) _ _ _ c.requires.here all;
      lists = ap (λ l. l ++ taken_of (into_iter_items c.into_iter-seat-iterator.result)) c.of-gathered.ensures.lists ∙ ap taken_of (sym all);
      count =
          let one : length c.of-gathered.result.lists.items ≡ 1 = simp length-map at (ap length c.of-gathered.ensures.lists) in
          let gone = c.in-Some.ensures.len in
          let same = ap into_iter_len c.into_iter-seat-iterator.ensures.into_iter_gives in
          omega arith;
      room = let room = c.args.self.room.1 in let same = c.of-gathered.ensures.room in omega arith;
      notes = λ each. let seen = head_is (λ (seat : CounterSeat). seat.seen_none ≡ true) _ _ _ each all in let note = c.of-gathered.ensures.pass.1 ∙ ap {B = ℕ} (λ b. cond b 1 0) seen in omega arith;
    }

pub add-requires-clause-seat : goal.add-requires-clause-seat
add-requires-clause-seat c = (head_is (Here c.args.self.table.shared.table_id c.args.self.tasks) _ _ _ c.loop-seat.invariant.rest_here c.in-Some-seat.ensures.steps.0).0

pub loop-seat-preserved : goal.loop-seat-preserved
loop-seat-preserved c =
    let i = c.loop-seat.invariant in
    let steps = c.in-Some-seat.ensures.steps in
    let more = one_more c.loop-seat.gathered.lists.items c.add.new.self.lists.items _ _ _ _ c.add.ensures.lists steps.0 i.lists in record {
      here = c.add.ensures.pass.0 ∙ i.here;
      rest_here = tail_are (Here c.args.self.table.shared.table_id c.args.self.tasks) _ _ _ i.rest_here steps.0;
      lists = more.0;
      count = let long = more.1 in let was = i.count in let left = steps.1 in omega arith;
      room = let was = i.room in let same = c.add.ensures.room in omega arith;
      notes = λ all. let some_note = i.notes all in let more = c.add.ensures.pass.1 in omega arith;
    }

pub returns-clause-once : goal.returns-clause-once
returns-clause-once c = subst NoneTwice (whole _ _ _ c.loop-seat.invariant.lists (omega (arith, c.in-None.ensures.steps.0))) c.close.ensures.once

pub returns-clause-every : goal.returns-clause-every
returns-clause-every c = λ each x below.
    let tasks_are = ap (λ (size : DeskSize). size.tasks) c.args.self.key in
    ap (times_in x) (sym (whole _ _ _ c.loop-seat.invariant.lists (omega (arith, c.in-None.ensures.steps.0)))) ∙ c.close.ensures.every (c.loop-seat.invariant.notes each) x (omega arith)

pub returns-clause-no_other : goal.returns-clause-no_other
returns-clause-no_other c = λ x above.
    let tasks_are = ap (λ (size : DeskSize). size.tasks) c.args.self.key in
    ap (times_in x) (sym (whole _ _ _ c.loop-seat.invariant.lists (omega (arith, c.in-None.ensures.steps.0)))) ∙ c.close.ensures.no_other x (omega arith)
