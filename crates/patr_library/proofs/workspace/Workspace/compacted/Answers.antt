use Rattle.std.proofs.Common.{subst}
use Rattle.patr_library.proofs.Names.{Same, shown_of, value_of, IsRooted, own_nodes, own_value}
use Rattle.patr_library.proofs.Steps.{still_new}
use Rattle.patr_library.proofs.workspace.Workspace.compacted.Goals as goal

pub offset_of-root-requires : goal.offset_of-root-requires
offset_of-root-requires c =
    let v = shown_of c.args.self.now.arena in
    let made = c.in_ok-copy.copy in
    still_new v.structure (value_of v c.args.from) made.block made.root c.requires.from.slot c.in_ok-copy.ensures.same.0 c.in_ok-copy.ensures.rooted

pub returns-clause-rooted : goal.returns-clause-rooted
returns-clause-rooted c = subst (λ r. IsRooted c.in_ok-copy.copy.block r) c.offset_of-root.ensures c.in_ok-copy.ensures.rooted

pub returns-clause-same : goal.returns-clause-same
returns-clause-same c =
    let v = shown_of c.args.self.now.arena in
    subst (λ r. Same v.structure (value_of v c.args.from) (own_nodes c.in_ok-copy.copy.block) (own_value r)) c.offset_of-root.ensures c.in_ok-copy.ensures.same
