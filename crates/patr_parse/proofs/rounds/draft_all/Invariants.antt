use Rattle.std.proofs.Common.{◌+◌}
use Rattle.patr_parse.proofs.Names.{IsRoundAt}
use Rattle.patr_parse.proofs.rounds.draft_all.Given as goal

abbrev pub invariant-loop-task : goal.invariant-loop-task
invariant-loop-task g l = IsRoundAt l.work.library.now (g.N.Nodes.shown l.work.nodes.now) l.work.chart.now l.work.limit l.work.worked l.fn.local.decided (l.work.worked + l.task) l.local.decided l.made.items
