use Rattle.std.proofs.Common.{◌∙◌, List, sym, ap, subst}
use Rattle.patr_arena.specs.declared.value.Feature.{Feature}
use Rattle.patr_arena.specs.Shown.{AllHeld, arcs_from}
use Rattle.patr_arena.specs.Arenas.{shown_of}
use Rattle.patr_arena.proofs.InArenas.{in_plain}
use Rattle.patr_arena.proofs.plain.PlainArenaNodes.arcs.Goals as goal

pub arcs-requires : goal.arcs-requires
arcs-requires c = (in_plain c.args.self.now c.args.at c.requires).has

pub returns-clause-same : goal.returns-clause-same
returns-clause-same c =
    ap (λ (fs : List Feature). arcs_from (shown_of c.args.self.now) c.args.at.block fs) c.arcs.ensures ∙ (in_plain c.args.self.now c.args.at c.requires).same

pub returns-clause-held : goal.returns-clause-held
returns-clause-held c =
    subst (λ (fs : List Feature). AllHeld (shown_of c.args.self.now) c.args.at.block fs) (sym c.arcs.ensures) (in_plain c.args.self.now c.args.at c.requires).held
