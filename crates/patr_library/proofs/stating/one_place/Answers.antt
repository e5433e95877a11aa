use Rattle.std.proofs.Common.{◌≡◌, subst, drop, rules, sym, ap, ◌∙◌, None}
use Rattle.patr_library.proofs.Names.{led, one_place, ids, ArePartedAt, IsPlaceOf, own_nodes, own_value, pointed}
use Rattle.patr_library.proofs.Placing.{parted_at, place_led, place_none}
use Rattle.patr_library.proofs.stating.one_place.Goals as goal

pub parted-requires : goal.parted-requires
parted-requires c =
    subst (λ p. ArePartedAt (ids p) (ids c.split_at-2.result.1.now)) (sym c.split_at.ensures.back)
    (subst (λ q. ArePartedAt (ids (drop c.common-front.result c.args.left.now)) (ids q)) (sym c.split_at-2.ensures.back) (parted_at c.args.left.now c.args.right.now c.common-front.result c.common-front.ensures.parted))

pub returns-in_default-clause-none : goal.returns-in_default-clause-none
returns-in_default-clause-none c =
    let none : one_place (ids c.split_at.result.1.now) (ids c.split_at-2.result.1.now) ≡ None = search rules in
    place_none c.args.left.now c.args.right.now c.common-front.result c.common-front.ensures.fronts
    (ap (λ p. one_place (ids p) (ids (drop c.common-front.result c.args.right.now))) (sym c.split_at.ensures.back) ∙ (ap (λ q. one_place (ids c.split_at.result.1.now) (ids q)) (sym c.split_at-2.ensures.back) ∙ none))

pub returns-clause-some : goal.returns-clause-some
returns-clause-some c =
    let m = c.in-Some.made in
    let parted : IsPlaceOf (ids c.split_at.result.1.now) (ids c.split_at-2.result.1.now) (pointed m.block m.root) = search rules in
    let back : IsPlaceOf (ids (drop c.common-front.result c.args.left.now)) (ids (drop c.common-front.result c.args.right.now)) (pointed m.block m.root) =
    subst (λ p. IsPlaceOf (ids p) (ids (drop c.common-front.result c.args.right.now)) (pointed m.block m.root)) c.split_at.ensures.back
    (subst (λ q. IsPlaceOf (ids c.split_at.result.1.now) (ids q) (pointed m.block m.root)) c.split_at-2.ensures.back parted) in
    let whole = place_led c.args.left.now c.args.right.now c.common-front.result c.common-front.ensures.fronts (pointed m.block m.root) back in (
      c.in_ok-root.ensures.rooted,
      subst (λ x. IsPlaceOf (ids c.args.left.now) (ids c.args.right.now) x) (ap (λ t. led (own_nodes m.block) (own_value m.root) (ids t)) (sym c.split_at.ensures.front) ∙ c.in_ok-root.ensures.is) whole,
    )
