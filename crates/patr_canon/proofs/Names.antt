-- What many proofs here name of the definitions and of the crates below.
pub use Rattle.patr_arena.specs.Arenas.{shown_of}
pub use Rattle.patr_arena.specs.Blocks.{AllBelow, AllOldHeld, IsBlock, LeadsBelow, OldIsHeld, OldRefIsHeld, attributes, nothing, with_block}
pub use Rattle.patr_arena.specs.Paths.{ids}
pub use Rattle.patr_arena.specs.Shown.{AllHeld, IsHeld, IsShown, RefIsHeld, Shown, ValueIsHeld, arc_from, arcs_from, number_of, ref_of, value_of}
pub use Rattle.patr_arena.specs.declared.value.Feature.{Feature}
pub use Rattle.patr_arena.specs.declared.value.Ref.{Ref}
pub use Rattle.patr_canon.specs.Built.{ArcsAreBelow, HasBuilt, IsBuiltOf, IsReadBelow, IsWritten, RootIsBelow}
pub use Rattle.patr_canon.specs.Items.{EventFits, IsArcFront, IsBareFront, IsItem, IsLookOf, IsNumberItem, IsNumbered, IsQuotedFront, IsSymbolFront, expect_behind, expect_in}
pub use Rattle.patr_canon.specs.Made.{AreMoved, IsMade, feature_seen, leads_below, ref_seen, value_seen}
pub use Rattle.patr_canon.specs.Nodes.{IsRefBelow, NodeIsBelow, NodesAreBelow}
pub use Rattle.patr_canon.specs.Numbers.{AreOnce, EventIsNumbered, EventsAreNumbered, again_of, number_by, opened_of}
pub use Rattle.patr_canon.specs.Orders.{ArcIsHeld, AreBelow, ArePlaces, AreSorted, IsLook, IsRanked, arc_seen, arcs_seen, compared, look_of, place_or}
pub use Rattle.patr_canon.specs.ReadBack.{IsCanonical, IsOwn, IsReadBack, structure_of}
pub use Rattle.patr_canon.specs.Readers.{HasFed, building_seen, half_seen, link_seen, links_seen, nodes_seen, stack_seen, target_seen}
pub use Rattle.patr_canon.specs.Walks.{AreSpelled, EventIsSpelled, EventsAreSpelled, HasEntered, IsDone, IsEntering, IsWalking, TaskIsReady, arc_tasks, event_seen, events_seen, left_of}
pub use Rattle.patr_canon.specs.declared.reader.Link.{Link}
pub use Rattle.patr_canon.specs.declared.reader.Target.{Target}
pub use Rattle.patr_canon.specs.declared.walk.Task.{Task}
pub use Rattle.patr_lists.proofs.Results.{if_ok_both, if_ok_is}
pub use Rattle.patr_model.proofs.Items.{reads}
pub use Rattle.patr_model.proofs.Maps.{below_more_places, some_inj}
pub use Rattle.patr_model.proofs.Places.{place_cases, place_get, place_longer, place_new, place_there}
pub use Rattle.patr_model.specs.Bytes.{is_digit}
pub use Rattle.patr_model.specs.Laws.{EventsTell, GiveOneText, IsInOrder, OfSymbols, OfValue}
pub use Rattle.patr_model.specs.Reading.{Front, HasText, bare_front, bare_step, built, changed, digits_front, digits_step, is_below, is_end, numbered_place, quoted_front, quoted_step, skip}
pub use Rattle.patr_model.specs.Stack.{Building, Closes, Event, Half, OfAgain, OfArc, OfAtom, Opens, building, end_node, event_text, events, events_of, fed, fed_one, full, met_again, opened, put_value, set_attribute}
pub use Rattle.patr_model.specs.Structure.{Arc, Arcs, Atom, HasDistinct, IsBelow, IsStructure, IsValue, Node, Structure, Value, along, arc, arcs_of, at}
pub use Rattle.patr_model.specs.Table.{table_look, text_or, total, zeros}
pub use Rattle.patr_model.specs.Text.{Again, Begun, Branch, Branches, Done, Leaf, Look, Outline, branches_text, canonical, comes_before, escaped, from_one, in_order, is_before, kept, number_in, number_mark, numeral, outline, outline_text, place_in, printed, rank, rank_at, renumbered, renumbered_all, repeats, spelled, spelled_all, tree_of, visits, visits_of, walk_arcs, walk_node}
pub use Rattle.patr_text.specs.declared.symbols.Id.{Id}
pub use Rattle.std.proofs.lemmas.List.{append_assoc, drop_more, length-append, length-map, length-take, map-append, reverse-append, take-append-drop, take_all, take_more}
pub use Rattle.std.proofs.lemmas.List.Elements.{All-from_recursion, All-nil, All-push, recursion_from_All}
pub use Rattle.std.proofs.lemmas.List.Sorted.{All-permutation, Contains-permutation, IsNonDecreasingBy-from_sort_by_key, IsPermutation-map, sum_by-IsPermutation}
pub use Rattle.std.proofs.lemmas.List.Sums.{prefix_len-le-length, prefix_len_passes, prefix_len_stops, sum_by-cons}
pub use Rattle.std.specs.List.{All, AllByRecursion, Contains, list_all, list_any, position, position_or_len, prefix_len, sum_by}
pub use Rattle.std.specs.List.Sorted.{IsNonDecreasingBy, IsPermutation, IsStrictlyIncreasing}
pub use Rattle.std.specs.Str.{IsCharBoundary, IsUtf8, bytes_eq}
pub use Rattle.std.specs.String.{string_bytes}
pub use Rattle.std.specs.declared.alloc.Global.{Global}
