-- What many proofs here name of the definitions and of the crates below.
pub use Rattle.patr_chart.specs.Charted.{AreEdges, HasOrigin, IsAlone, IsEdgeAfter, IsMadeOf, IsNext, alone, derivation_at, derivations, derivations_from, derived, derived_by, ends_at, is_partner, partners, partners_in, partners_of, starts_at, tree}
pub use Rattle.patr_chart.specs.Edges.{AreAdjacent, is_passive, item_of, kind_item, kind_passive}
pub use Rattle.patr_chart.specs.Laws.{ComesFrom, HasPartners, IsJudged, IsOfKind, IsPartner, IsPartnerBefore, IsTree, IsTreeOf, KindFits, KindsFit}
pub use Rattle.patr_chart.specs.Lists.{IsEntered, neighbours}
pub use Rattle.patr_chart.specs.Pending.{AreHeld, IsStep, pending_keys, tree_key, weight, weights, whole_key}
pub use Rattle.patr_chart.specs.declared.chart.Pending.{Pending}
pub use Rattle.patr_chart.specs.declared.edge.Back.{Back}
pub use Rattle.patr_chart.specs.declared.edge.Edge.{Edge}
pub use Rattle.patr_chart.specs.declared.edge.EdgeKind.{EdgeKind}
pub use Rattle.patr_chart.specs.declared.edge.EdgeKind.TheVariants.{Entry, Rule}
pub use Rattle.patr_chart.specs.declared.key.KeyItem.{KeyItem}
pub use Rattle.patr_lists.proofs.Places.{get_before, get_cases, get_last}
pub use Rattle.patr_lists.proofs.Tables.{front, index_added, index_kept, places_length}
pub use Rattle.patr_lists.specs.Numbers.{places}
pub use Rattle.patr_model.proofs.Maps.{some_inj}
pub use Rattle.patr_model.specs.Derivation.{Begin, Derivation, Extend, IsComplete, IsPartial, Leaf, RuleVariant, Rules, end, key, root_item, root_rule, rule_variant, seen, start}
pub use Rattle.std.proofs.Math.Seq.{get_or-append_seam, take-append_seam}
pub use Rattle.std.proofs.lemmas.List.{get_or_append_left, length-take-le, reverse-append, take-append-drop, take-append-le}
pub use Rattle.std.proofs.lemmas.Option.{slice_get-get_or, slice_get_within}
pub use Rattle.std.specs.List.{Contains}
pub use Rattle.std.specs.List.Sorted.{IsStrictlyIncreasing}
