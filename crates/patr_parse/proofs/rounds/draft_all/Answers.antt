use Rattle.std.proofs.Common.{◌≡◌, ◌<◌, ◌+◌, ◌∙◌, [], true, false, length, sym, subst, arith, rules}
use Rattle.patr_model.proofs.Bare.{not_true}
use Rattle.patr_lexicon.proofs.Trims.{not_not}
use Rattle.patr_parse.proofs.Names.{IsRoundAt}
use Rattle.patr_parse.specs.Drafts.{drafts_of, is_stop}
use Rattle.patr_parse.proofs.Drafted.{round_begins, round_full, round_large, round_more}
use Rattle.patr_parse.proofs.rounds.draft_all.Goals as goal

pub loop-task-init : goal.loop-task-init
loop-task-init g c =
    let none : [] ≡ c.new-made.result.items = search rules in
    subst (IsRoundAt c.args.work.now.library.now (g.N.Nodes.shown c.args.work.now.nodes.now) c.args.work.now.chart.now c.args.work.now.limit c.args.work.now.worked c.args.local.now.decided _ c.args.local.now.decided) none
    (round_begins c.args.work.now.library.now (g.N.Nodes.shown c.args.work.now.nodes.now) c.args.work.now.chart.now c.args.work.now.limit c.args.work.now.worked c.args.local.now.decided c.requires.within c.requires.limit.1 c.requires.count (c.args.work.now.worked + 0) (omega arith))

pub one-requires-clause-task : goal.one-requires-clause-task
one-requires-clause-task g c = omega (arith, c.loop-task-test.true, c.len-end.ensures, c.requires.within)

pub one-requires-clause-count : goal.one-requires-clause-count
one-requires-clause-count g c = c.loop-task.invariant.count

pub returns-then-not-branch-clause-more : goal.returns-then-not-branch-clause-more
returns-then-not-branch-clause-more g c = λ ws h.
    let w = c.args.work.now in
    let stopped : c.in_ok-gather.field-0 ≡ false = search rules in
    let stop : is_stop c.in_ok-outcome.outcome ≡ true = not_not (is_stop c.in_ok-outcome.outcome) (sym c.in_ok-gather.ensures.goes_on ∙ stopped) in
    round_large w.library.now (g.N.Nodes.shown w.nodes.now) w.chart.now w.limit w.worked c.args.local.now.decided (w.worked + c.loop-task.task) c.loop-task.local.decided c.loop-task.made.items c.loop-task.invariant ws h (c.in_ok-outcome.ensures.large stop)

pub returns-then-len-room-clause-more : goal.returns-then-len-room-clause-more
returns-then-len-room-clause-more g c = λ ws h.
    let w = c.args.work.now in
    let here : w.worked + c.loop-task.task < length w.chart.now.edges = omega (arith, c.loop-task-test.true, c.len-end.ensures, c.requires.within) in
    let going : c.in_ok-gather.field-0 ≡ true = search rules in
    let go : is_stop c.in_ok-outcome.outcome ≡ false = not_true (is_stop c.in_ok-outcome.outcome) (sym c.in_ok-gather.ensures.goes_on ∙ going) in
    round_full w.library.now (g.N.Nodes.shown w.nodes.now) w.chart.now w.limit w.worked c.args.local.now.decided (w.worked + c.loop-task.task) c.loop-task.local.decided c.loop-task.made.items c.loop-task.invariant here
    (drafts_of c.in_ok-outcome.outcome) c.gather.new.made.items c.one.new.local.decided (c.in_ok-outcome.ensures.gave go) c.in_ok-gather.ensures.made (omega (arith, c.if-len-room.true, c.len.ensures, c.len-end.ensures, c.requires.limit.1)) ws h

pub loop-task-preserved : goal.loop-task-preserved
loop-task-preserved g c =
    let w = c.args.work.now in
    let here : w.worked + c.loop-task.task < length w.chart.now.edges = omega (arith, c.loop-task-test.true, c.len-end.ensures, c.requires.within) in
    let going : c.in_ok-gather.field-0 ≡ true = search rules in
    let go : is_stop c.in_ok-outcome.outcome ≡ false = not_true (is_stop c.in_ok-outcome.outcome) (sym c.in_ok-gather.ensures.goes_on ∙ going) in
    let next : (w.worked + c.loop-task.task) + 1 ≡ w.worked + (c.loop-task.task + 1) = omega arith in
    subst (λ n. IsRoundAt w.library.now (g.N.Nodes.shown w.nodes.now) w.chart.now w.limit w.worked c.args.local.now.decided n c.one.new.local.decided c.gather.new.made.items) next
    (round_more w.library.now (g.N.Nodes.shown w.nodes.now) w.chart.now w.limit w.worked c.args.local.now.decided (w.worked + c.loop-task.task) c.loop-task.local.decided c.loop-task.made.items c.loop-task.invariant here
    (drafts_of c.in_ok-outcome.outcome) c.gather.new.made.items c.one.new.local.decided (c.in_ok-outcome.ensures.gave go) c.in_ok-gather.ensures.made (omega (arith, c.if-len-room.false, c.len.ensures, c.len-end.ensures, c.requires.limit.1)) c.requires.limit.0)

pub returns-clause-gave : goal.returns-clause-gave
returns-clause-gave g c =
    let w = c.args.work.now in
    let end : w.worked + c.loop-task.task ≡ length w.chart.now.edges = omega (arith, c.requires.within, c.len-end.ensures) in
    subst (λ n. IsRoundAt w.library.now (g.N.Nodes.shown w.nodes.now) w.chart.now w.limit w.worked c.args.local.now.decided n c.loop-task.local.decided c.loop-task.made.items) end c.loop-task.invariant
