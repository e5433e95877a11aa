use Rattle.std.proofs.Common.{◌++◌, [], length, codes, decimal, sym, ap, ◌∙◌, arith, append-nil}
use Rattle.patr_reply.proofs.Names.{IsReady, all_get, line, listing, look_by, rules_of, slice_get_within, string_bytes, table_look, take_all}
use Rattle.patr_reply.proofs.Listing.{step_listed}
use Rattle.patr_reply.proofs.sentence.listed.Goals as goal

pub loop-place-init : goal.loop-place-init
loop-place-init g c = λ names agrees. c.in_ok-text.ensures.ok ∙ sym (append-nil (line (codes "analyses " ++ decimal (length c.args.analyses.now))))

pub write_line-requires-clause-number : goal.write_line-requires-clause-number
write_line-requires-clause-number g c =
    let es = c.args.chart.now.edges in
    let ready = all_get (IsReady (length c.args.symbols.now) (g.N.Nodes.shown c.args.nodes.now) es) c.args.analyses.now c.loop-place.place 0 c.requires.ready c.loop-place-test.true in
    slice_get_within es _ ready.edge ready.there

pub write_value-requires : goal.write_value-requires
write_value-requires g c = all_get (IsReady (length c.args.symbols.now) (g.N.Nodes.shown c.args.nodes.now) c.args.chart.now.edges) c.args.analyses.now c.loop-place.place 0 c.requires.ready c.loop-place-test.true

pub loop-place-preserved : goal.loop-place-preserved
loop-place-preserved g c = λ names agrees.
    step_listed (look_by names) (table_look c.args.symbols.now []) (rules_of c.args.library.now) (g.N.Nodes.shown c.args.nodes.now) c.args.chart.now.edges c.args.features c.args.analyses.now c.loop-place.place c.loop-place-test.true
    (line (codes "analyses " ++ decimal (length c.args.analyses.now))) (string_bytes c.loop-place.text) (string_bytes c.write_line.new.out) (string_bytes c.write_value.new.out) (c.loop-place.invariant names agrees)
    (c.in_ok-write_line.ensures names agrees) c.in_ok-write_value.ensures

pub returns : goal.returns
returns g c = λ names agrees.
    c.loop-place.invariant names agrees
    ∙ ap (listing names c.args.symbols.now c.args.library.now (g.N.Nodes.shown c.args.nodes.now) c.args.chart.now.edges c.args.features (length c.args.analyses.now))
    (take_all c.loop-place.place c.args.analyses.now (omega (arith, c.loop-place-test.false)))
