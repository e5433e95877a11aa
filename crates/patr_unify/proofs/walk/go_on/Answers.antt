use Rattle.std.proofs.Common.{◌≡◌, ◌<◌, ◌∷◌, ◌++◌, ◌∙◌, [], length, inl, inr, refl, sym, ap, subst}
use Rattle.patr_scratch.specs.declared.Visit.TheVariants as visit
use Rattle.patr_scratch.specs.Contents.{Contents}
use Rattle.patr_unify.specs.Reading.{key}
use Rattle.patr_unify.specs.Walking.{IsTakenFrom}
use Rattle.patr_unify.proofs.Merges.{place_room}
use Rattle.patr_unify.proofs.Visits.{visited, visited_then}
use Rattle.patr_unify.proofs.Walks.{visit_is}
use Rattle.patr_unify.proofs.walk.go_on.Goals as goal

pub visit-visit-requires : goal.visit-visit-requires
visit-visit-requires g c =
    place_room (g.N.Nodes.shown c.args.nodes.now) c.args.scratch.now (g.met.N.Nodes.lawful c.args.nodes.now) c.requires.held c.in-Some.found.place c.number.result c.in-Some.ensures.0.3.0 c.number.ensures

pub returns-then-same_visit-clause-turned : goal.returns-then-same_visit-clause-turned
returns-then-same_visit-clause-turned g c =
    let v = g.N.Nodes.shown c.args.nodes.now in
    let p = c.in-Some.found.place in
    let f = c.in-Some.ensures.0 in
    let state = visit_is v c.args.scratch.now (g.met.N.Nodes.lawful c.args.nodes.now) p c.number.result c.visit-visit.result f.3.0 c.number.ensures c.visit-visit.ensures in
    (f.0, f.1, key v p, f.2, f.3.1, sym state ∙ c.same_visit.ensures.same c.if-same_visit.true)

pub go_down-requires : goal.go_down-requires
go_down-requires g c =
    let v = g.N.Nodes.shown c.args.nodes.now in
    let p = c.in-Some.found.place in
    let f = c.in-Some.ensures.0 in
    let state = visit_is v c.args.scratch.now (g.met.N.Nodes.lawful c.args.nodes.now) p c.number.result c.visit-visit.result f.3.0 c.number.ensures c.visit-visit.ensures in
    let room = c.requires.room f.0 f.1 p f.2 f.3 (λ e. c.same_visit.ensures.apart c.if-same_visit.false (state ∙ e)) in
    record { place = f.3.0; held = c.requires.held; visits = room.0; pairs = room.1 }

pub returns-else-same_visit-clause-turned : goal.returns-else-same_visit-clause-turned
returns-else-same_visit-clause-turned g c =
    let v = g.N.Nodes.shown c.args.nodes.now in
    let p = c.in-Some.found.place in
    let f = c.in-Some.ensures.0 in
    let state = visit_is v c.args.scratch.now (g.met.N.Nodes.lawful c.args.nodes.now) p c.number.result c.visit-visit.result f.3.0 c.number.ensures c.visit-visit.ensures in
    inr (
      record {
        place = p;
        found = f;
        new = λ e. c.same_visit.ensures.apart c.if-same_visit.false (state ∙ e);
        visited = c.go_down.ensures.visited;
        visits = c.go_down.ensures.pushed;
        from = c.in-Some.found.from;
        paused = c.in-Some.ensures.1;
        put = c.go_down.ensures.put;
        order = c.go_down.ensures.order;
      },
      refl,
    )

pub push_order-requires : goal.push_order-requires
push_order-requires g c = subst (λ (u : Contents). length u.order < u.order_room) (sym c.set_visit.ensures) c.requires.order

pub returns-in-None-clause-turned : goal.returns-in-None-clause-turned
returns-in-None-clause-turned g c =
    let v = g.N.Nodes.shown c.args.nodes.now in
    let w = c.args.scratch.now in
    let u = c.set_visit.new.self in
    let m = c.push_order.new.self in
    let t = c.take_up.new.scratch in
    let set = visited v w u c.args.top c.number-in-None.result visit.Left (g.met.N.Nodes.lawful c.args.nodes.now) c.requires.held c.requires.top c.number-in-None.ensures c.set_visit.ensures in
    let moved : t ≡ record u { pairs = t.pairs; order = u.order ++ c.args.top ∷ [] } = c.take_up.ensures.rest ∙ ap (λ (z : Contents). record z { pairs = t.pairs }) c.push_order.ensures in
    inl (record {
      visited = visited_then v w u t (key v c.args.top) visit.Left u.visits (u.order ++ c.args.top ∷ []) t.pairs set moved;
      visits = ap (λ (z : Contents). z.visits) moved ∙ ap (λ (z : Contents). z.visits) c.set_visit.ensures;
      none = c.in-None.ensures;
      taken = subst (λ qs. IsTakenFrom qs t.pairs c.take_up.result) (ap (λ (z : Contents). z.pairs) c.push_order.ensures ∙ ap (λ (z : Contents). z.pairs) c.set_visit.ensures) c.take_up.ensures.taken;
      order = ap (λ (z : Contents). z.order) moved ∙ ap (λ (z : Contents). z.order ++ c.args.top ∷ []) c.set_visit.ensures;
    })
