-- What many proofs here name of the crates below.
pub use Rattle.patr_lists.specs.Numbers.{places, total}
pub use Rattle.patr_lists.specs.Members.{IsIn, NoRepeats}
pub use Rattle.patr_lists.proofs.Members.{in_cases}
pub use Rattle.std.proofs.lemmas.Option.{slice_get_within}
pub use Rattle.patr_arena.proofs.Addresses.{value_below}
pub use Rattle.patr_arena.proofs.Showing.{extends_on, extends_same, held_below, same_number_held, still_held}
pub use Rattle.patr_arena.specs.Blocks.{Extends, with_block}
pub use Rattle.patr_arena.specs.Paths.{ids}
pub use Rattle.patr_arena.specs.Sentences.{sentence_of}
pub use Rattle.patr_arena.specs.Shown.{IsShown, Shown, ValueIsHeld, number_of, value_of}
pub use Rattle.patr_arena.specs.Views.{view_of}
pub use Rattle.patr_arena.specs.declared.value.Feature.{Feature}
pub use Rattle.patr_arena.specs.declared.value.Ref.{Ref}
pub use Rattle.patr_chart.proofs.Passing.{passes_placed, places_pass}
pub use Rattle.patr_chart.proofs.Shown.{is_judged}
pub use Rattle.patr_chart.proofs.Trees.{from_length}
pub use Rattle.patr_chart.specs.Charted.{AreEdges, HasOrigin, IsEdgeAfter, derivations, derived, derived_by, partners}
pub use Rattle.patr_chart.specs.Edges.{is_passive, kind_passive}
pub use Rattle.patr_chart.specs.Laws.{KindsFit}
pub use Rattle.patr_chart.specs.declared.edge.Back.{Back}
pub use Rattle.patr_chart.specs.declared.edge.Edge.{Edge}
pub use Rattle.patr_chart.specs.declared.edge.EdgeKind.{EdgeKind}
pub use Rattle.patr_chart.specs.declared.edge.EdgeKind.TheVariants.{Rule}
pub use Rattle.patr_library.specs.Stored.{Bounds, IsRuleItem, IsStored, Stored, is_of_word, keys, root_of, rules_of}
pub use Rattle.patr_library.specs.declared.item.EntryItem.{EntryItem}
pub use Rattle.patr_library.specs.declared.item.RuleItem.{RuleItem}
pub use Rattle.patr_marks.specs.Machine.{own}
pub use Rattle.patr_model.proofs.Maps.{and_then_some, arc_of_longer, some_inj}
pub use Rattle.patr_model.proofs.Rounds.{rounds}
pub use Rattle.patr_model.proofs.Steps.{arc_value}
pub use Rattle.patr_model.proofs.Total.{map_some}
pub use Rattle.patr_model.proofs.Variants.{variant_steps}
pub use Rattle.patr_model.specs.Chart.{HasMoreThan, InChart, IsChart, Judgement}
pub use Rattle.patr_model.specs.Derivation.{Begin, Derivation, Extend, Leaf, Rules, end, size}
pub use Rattle.patr_model.specs.Renaming.{Each}
pub use Rattle.patr_model.specs.Rounds.{HasPairs, IsNoPair, IsWorked}
pub use Rattle.patr_model.specs.Settled.{Images, Keeps}
pub use Rattle.patr_model.specs.Solution.{IsLeastValue, IsSolvable}
pub use Rattle.patr_model.specs.Structure.{Atom, IsReached, IsStructure, IsValue, Node, Structure, Value, arc}
pub use Rattle.patr_model.specs.Subsumption.{IsUnifier}
pub use Rattle.patr_parse.specs.Analyses.{AreAll, HasKey, edge_of, is_whole}
pub use Rattle.patr_parse.specs.Begun.{ArePushed, HasMark, HasMarkOf, IsAloneEdge, begun_at, begun_by, leaves_at, leaves_from, next_of}
pub use Rattle.patr_parse.specs.Drafts.{AreMade, ArePlaced, IsDraft, with_root}
pub use Rattle.patr_parse.specs.Found.{AreSound, HasSource, IsJoined, IsSoundEdge, daughters}
pub use Rattle.patr_parse.specs.Joining.{HasMother, IsRootBy}
pub use Rattle.patr_parse.specs.Predicting.{ArePredicted, IsMarked}
pub use Rattle.patr_parse.specs.Rounds.{IsRoundAt}
pub use Rattle.patr_parse.specs.Standing.{Stands}
pub use Rattle.patr_parse.specs.Tasks.{ArePartners, AreSmall, AreWaiting, IsReady, ItemsAreHeld, judge, made_by, pair}
pub use Rattle.patr_parse.specs.Words.{AreKnownTo}
pub use Rattle.patr_parse.specs.declared.analyses.Analysis.{Analysis}
pub use Rattle.patr_parse.specs.declared.draft.Draft.{Draft}
pub use Rattle.patr_parse.specs.declared.prediction.Mark.{Mark}
pub use Rattle.patr_text.specs.declared.symbols.Id.{Id}
pub use Rattle.patr_unify.specs.Copying.{made_of}
pub use Rattle.patr_unify.specs.Deciding.{Counts}
