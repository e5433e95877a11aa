use Rattle.std.proofs.Common.{◌≡◌, ◌+◌, take}
use Rattle.patr_parse.proofs.Names.{rules_of, AreMade}
use Rattle.patr_parse.proofs.work.RoundWork.decide_pairs.Given as goal

abbrev pub invariant-loop-other : goal.invariant-loop-other
invariant-loop-other g l = record {
  made : AreMade (rules_of l.self.library.now) (g.N.Nodes.shown l.self.nodes.now) l.self.chart.now.words l.self.chart.now.edges l.self.limit l.passive l.k (take l.other-index l.other-items) l.made.items;
  decided : l.local.decided ≡ l.fn.local.decided + l.other-index;
  steps : l.steps ≡ l.other-index;
}
