use Rattle.std.proofs.Common.{map}
use Rattle.patr_grammar.specs.Levels.{equation_seen}
use Rattle.patr_expand.specs.Meant.{meant_by}
use Rattle.patr_expand.specs.Frames.{frames_weight, variant_at}
use Rattle.patr_expand.specs.Written.{written}
use Rattle.patr_expand.proofs.Walked.{IsWalked}
use Rattle.patr_expand.proofs.templates.Templates.variant.Given as goal

abbrev pub invariant-loop-frame : goal.invariant-loop-frame
invariant-loop-frame l = IsWalked (meant_by l.self) (variant_at (written (meant_by l.self) l.elements) l.number) (map (λ e. equation_seen e.now) l.found.items) l.frames.items

abbrev pub decreases-loop-frame : goal.decreases-loop-frame
decreases-loop-frame l = frames_weight (meant_by l.self) l.frames.items
