use Rattle.std.proofs.Common.{◌∙◌, List, Some, ap, sym, get_or}
use Rattle.patr_library.proofs.Names.{Feature, own_value}
use Rattle.patr_arena.specs.declared.value.Ref.TheVariants as ref
use Rattle.patr_library.proofs.Steps.{slot_first}
use Rattle.patr_library.proofs.entries.slot_value.Goals as goal

pub returns-clause-arc : goal.returns-clause-arc
returns-clause-arc c =
    let any : Feature = record { attribute = record { 0 = 0 }; to = ref.Atom (record { 0 = 0 }) } in
    (slot_first c.args.block.now c.args.root any c.requires.own c.requires.slot).1 ∙ ap (λ (fs : List Feature). Some (own_value (get_or fs 0 any).to)) (sym c.arcs.ensures)
