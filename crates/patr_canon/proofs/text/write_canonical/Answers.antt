use Rattle.std.proofs.Common.{flat_map, List, ℕ, sym, ap, ◌∙◌, ◌++◌, subst}
use Rattle.std.proofs.lemmas.Result.{IfOk-weaker}
use Rattle.patr_canon.proofs.Names.{EventsAreNumbered, Id, canonical, event_text, events_seen, ids, look_of, number_by, string_bytes, table_look, value_of}
use Rattle.patr_arena.proofs.Addresses.{value_below}
use Rattle.patr_canon.proofs.Numbering.{met_numbered, met_once, met_text}
use Rattle.patr_canon.proofs.text.write_canonical.Goals as goal

pub number_nodes-requires-clause-once : goal.number_nodes-requires-clause-once
number_nodes-requires-clause-once g c =
    let v = g.N.Nodes.shown c.args.nodes.now in
    let s = g.met.N.Nodes.lawful c.args.nodes.now in
    met_once (look_of c.in_ok-look.look) v.structure (value_of v c.args.value) s.structure (value_below v s c.args.value c.requires.value) (events_seen c.as_slice-events.result.now) (ap events_seen c.as_slice-events.ensures.value ∙ c.in_ok-walked.ensures.events)

pub write_events-requires-clause-numbered : goal.write_events-requires-clause-numbered
write_events-requires-clause-numbered g c =
    let v = g.N.Nodes.shown c.args.nodes.now in
    let s = g.met.N.Nodes.lawful c.args.nodes.now in
    subst (λ ns. EventsAreNumbered ns (events_seen c.as_slice-events.result.now)) (sym c.in_ok-number_nodes.ensures)
    (met_numbered (look_of c.in_ok-look.look) v.structure (value_of v c.args.value) s.structure (value_below v s c.args.value c.requires.value) (events_seen c.as_slice-events.result.now) (ap events_seen c.as_slice-events.ensures.value ∙ c.in_ok-walked.ensures.events))

pub returns : goal.returns
returns g c =
    let v = g.N.Nodes.shown c.args.nodes.now in
    let s = g.met.N.Nodes.lawful c.args.nodes.now in
    let x = value_of v c.args.value in
    let es = events_seen c.as_slice-events.result.now in
    let text = met_text (look_of c.in_ok-look.look) v.structure x s.structure (value_below v s c.args.value c.requires.value) es (ap events_seen c.as_slice-events.ensures.value ∙ c.in_ok-walked.ensures.events) in
    IfOk-weaker c.write_events.result _ _
    (λ t h. h ∙ ap (λ bs. string_bytes c.args.out.now ++ bs) (ap (λ (ns : List ℕ). flat_map (event_text (look_of c.in_ok-look.look) (number_by ns)) es) c.in_ok-number_nodes.ensures
    ∙ (text ∙ (ap (λ ts. canonical (table_look ts (ids c.in_ok-look.look.order.now)) v.structure x) c.in_ok-look.ensures.same.0 ∙ ap (λ (os : List Id). canonical (table_look c.args.symbols.now (ids os)) v.structure x) c.in_ok-look.ensures.same.1))))
    c.write_events.ensures
