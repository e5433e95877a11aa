use Rattle.std.proofs.Common.{◌≡◌, length, take}
use Rattle.patr_reply.proofs.Names.{AgreesWith, Numbering, listing, string_bytes}
use Rattle.patr_reply.proofs.sentence.listed.Given as goal

abbrev pub invariant-loop-place : goal.invariant-loop-place
invariant-loop-place g l =
    (names : Numbering) → AgreesWith names l.symbols → string_bytes l.text ≡ listing names l.symbols l.library (g.N.Nodes.shown l.nodes) l.chart.edges l.features (length l.analyses) (take l.place l.analyses)
