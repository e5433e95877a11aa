use Rattle.std.proofs.Common.{◌≡◌, Some, None, get_or, arith, rules, ap, subst, sym, ◌∙◌}
use Rattle.patr_library.proofs.Names.{shown_of, value_of, HasCopy, image_at}
use Rattle.patr_library.proofs.Imaging.{copy_within}
use Rattle.patr_library.proofs.copying.image_of.Goals as goal

pub bounds : goal.bounds
bounds c =
    let v = shown_of c.args.arena.now in
    let copy = subst (λ x. HasCopy (image_at c.args.images.now) (value_of v x)) c.in-Node.is c.requires.copied in
    omega (arith, copy_within c.args.images.now _ copy.0 copy.1, c.number.ensures)

pub unreachable-requires : goal.unreachable-requires
unreachable-requires c =
    let v = shown_of c.args.arena.now in
    let copy = subst (λ x. HasCopy (image_at c.args.images.now) (value_of v x)) c.in-Node.is c.requires.copied in
    let none : get_or c.args.images.now c.number.result None ≡ None = search rules in
    let some : get_or c.args.images.now c.number.result None ≡ Some copy.0 = ap (λ n. get_or c.args.images.now n None) c.number.ensures ∙ copy.1 in
    let bad : None ≡ Some copy.0 = sym none ∙ some in
    cc
