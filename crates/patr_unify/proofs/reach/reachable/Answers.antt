use Rattle.std.proofs.Common.{◌≡◌, ◌*◌, [], ◌∷◌, ◌++◌, ◌∙◌, List, sym, ap, subst, arith}
use Rattle.patr_arena.specs.declared.value.Value.{Value}
use Rattle.patr_arena.specs.Shown.{value_of}
use Rattle.patr_arena.proofs.Maps.{nothing_waits}
use Rattle.patr_scratch.specs.Contents.{KeepsRoom, PlaceMarks}
use Rattle.patr_unify.specs.Counting.{IsCounting, IsReaching, ValuesHeld, is_seen, seen_in, values}
use Rattle.patr_unify.proofs.Counting.{begun_keeps, counting_starts, reaching_ends, values_held_pop}
use Rattle.patr_unify.proofs.Deciding.{begun_marks}
use Rattle.patr_unify.proofs.reach.reachable.Goals as goal

pub loop-value-init : goal.loop-value-init
loop-value-init g c =
    let v = g.N.Nodes.shown c.args.nodes.now in
    let only = c.in_ok-push.ensures.items ∙ ap (λ xs. xs ++ c.args.from ∷ []) c.new-waiting.ensures.items in
    record {
      counting = subst (λ ws. IsCounting v (seen_in c.begin.new.self) (value_of v c.args.from) ws (record { nodes = 0; arcs = 0 })) (sym only)
          (counting_starts v (seen_in c.begin.new.self) c.args.from (λ k. ap (λ u. seen_in u k) c.begin.ensures ∙ ap (λ (m : PlaceMarks). is_seen m.visit) (begun_marks c.args.scratch.now (2 * k))));
      held = subst (ValuesHeld v) (sym only) (c.requires.from, tt);
      room = subst (KeepsRoom c.args.scratch.now) (sym c.begin.ensures) (begun_keeps c.args.scratch.now);
    }

pub look_at-requires : goal.look_at-requires
look_at-requires g c =
    let held = values_held_pop (g.N.Nodes.shown c.args.nodes.now) c.pop.new.self.items c.in-Some.value (subst (ValuesHeld (g.N.Nodes.shown c.args.nodes.now)) c.in-Some.ensures.items c.loop-value.invariant.held) in
    record { value = held.1; waiting = held.0; table = omega (arith, c.requires.table, c.loop-value.invariant.room.for_places) }

pub returns-clause-counts : goal.returns-clause-counts
returns-clause-counts g c =
    let v = g.N.Nodes.shown c.args.nodes.now in
    let counting = c.loop-value.invariant.counting in
    let none : c.loop-value.waiting.items ≡ [] = nothing_waits c.loop-value.waiting.items (sym c.in_default.ensures.cases.0 ∙ c.loop-value.waiting.ok.0) in
    record {
      list = counting.list;
      is = reaching_ends v.structure (value_of v c.args.from) counting.list (subst (λ (ws : List Value). IsReaching v.structure (value_of v c.args.from) counting.list (values v ws)) none counting.reaching);
      nodes_are = counting.nodes_are;
      arcs_are = counting.arcs_are;
    }
