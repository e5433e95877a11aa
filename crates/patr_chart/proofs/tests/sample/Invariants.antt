use Rattle.std.proofs.Common.{◌≡◌}
use Rattle.patr_chart.proofs.tests.sample.Given as goal

abbrev pub invariant-loop-word : goal.invariant-loop-word
invariant-loop-word l = l.chart.words ≡ 3

abbrev pub invariant-loop-active : goal.invariant-loop-active
invariant-loop-active l = l.chart.words ≡ 3
