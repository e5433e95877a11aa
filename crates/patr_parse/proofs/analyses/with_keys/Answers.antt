use Rattle.std.proofs.Common.{◌≡◌, ◌++◌, ◌∷◌, [], map, get_or, sym, ap, ◌∙◌, subst}
use Rattle.std.specs.List.{AllByRecursion}
use Rattle.std.proofs.lemmas.List.{map-append, take_more}
use Rattle.patr_lists.proofs.Alls.{all_more}
use Rattle.patr_parse.proofs.Names.{Analysis, HasKey, edge_of}
use Rattle.patr_parse.proofs.analyses.with_keys.Goals as goal

pub derivation-requires : goal.derivation-requires
derivation-requires c = c.requires c.loop-number.number-index c.loop-number-test.true

pub loop-number-preserved : goal.loop-number-preserved
loop-number-preserved c =
    let ns = c.args.edges.now in
    let i = c.loop-number.number-index in
    let n = get_or ns i 0 in
    let was = c.loop-number.found.items in
    let a : Analysis = record { key = c.in_ok-key.key; edge = n } in
    let items : c.push.new.self.items ≡ was ++ a ∷ [] = c.in_ok-push.ensures.items in (
      ap (map edge_of) items ∙ map-append edge_of was (a ∷ []) ∙ ap (λ l. l ++ n ∷ []) c.loop-number.invariant.0 ∙ sym (take_more ns i 0 c.loop-number-test.true),
      subst (AllByRecursion (HasKey c.args.chart.now.edges)) (sym items) (all_more (HasKey c.args.chart.now.edges) was a c.loop-number.invariant.1 c.in_ok-key.ensures),
    )
