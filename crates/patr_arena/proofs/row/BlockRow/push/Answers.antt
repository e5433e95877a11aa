use Rattle.std.proofs.Common.{◌≡◌, ◌++◌, ◌∷◌, [], length, ◌∙◌, sym, ap, arith, rules}
use Rattle.patr_arena.specs.Rows.{Row, appended, blocks_of}
use Rattle.patr_arena.proofs.Rows.{kept, row_is, row_more}
use Rattle.patr_arena.proofs.row.BlockRow.push.Goals as goal

pub invariant_of-self-2 : goal.invariant_of-self-2
invariant_of-self-2 c =
    let node_ends : c.push_reserved.new.self.items ≡ c.self.inside.node_ends.items ++ length c.append_to.new.ends.items ∷ [] = search rules in
    let view = ap blocks_of c.self.view_is in
    let more = row_more c.self.invariant c.args.block c.append_to.new.features.items c.append_to.new.ends.items c.in-Ok.ensures.ok (let number = c.blocks-number.ensures in let below = c.if-number.false in omega arith) in
    rw node_ends (kept (row_is more) more)

pub returns : goal.returns
returns c =
    let node_ends : c.push_reserved.new.self.items ≡ c.self.inside.node_ends.items ++ length c.append_to.new.ends.items ∷ [] = search rules in
    let view = ap blocks_of c.self.view_is in
    let more = row_more c.self.invariant c.args.block c.append_to.new.features.items c.append_to.new.ends.items c.in-Ok.ensures.ok (let number = c.blocks-number.ensures in let below = c.if-number.false in omega arith) in (
      c.blocks-number.ensures,
      rw node_ends (sym (row_is more) ∙ ap (λ (r : Row). appended r c.args.block) c.self.view_is),
    )
