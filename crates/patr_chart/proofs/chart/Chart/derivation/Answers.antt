use Rattle.std.proofs.Common.{◌∷◌, [], length, subst}
use Rattle.patr_chart.proofs.Names.{AreHeld}
use Rattle.patr_chart.proofs.Written.{held_split}
use Rattle.patr_chart.proofs.chart.Chart.derivation.Goals as goal

pub write_next-requires-clause-next : goal.write_next-requires-clause-next
write_next-requires-clause-next c =
    let split = held_split (length c.args.self.now.edges) c.pop.new.self.items (c.in-Some.next ∷ []) (subst (λ l. AreHeld (length c.args.self.now.edges) l) (c.in-Some.ensures.items) c.loop-next.invariant.1) in split.1.0

pub write_next-requires-clause-held : goal.write_next-requires-clause-held
write_next-requires-clause-held c =
    let split = held_split (length c.args.self.now.edges) c.pop.new.self.items (c.in-Some.next ∷ []) (subst (λ l. AreHeld (length c.args.self.now.edges) l) (c.in-Some.ensures.items) c.loop-next.invariant.1) in split.0
