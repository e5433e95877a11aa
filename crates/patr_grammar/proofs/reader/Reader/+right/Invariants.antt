use Rattle.std.proofs.Common.{◌+◌, ◌*◌, ◌<◌, ◌≤◌, List, length, map, true}
use Rattle.patr_grammar.proofs.Names.{Gathers, Id, by_id, begins_right, item, item_seen, onto, right_left, right_seen, star_right, symbols_in, symbols_in_all}
use Rattle.patr_grammar.proofs.Loops.{IsLeft, size, reads_right}
use Rattle.patr_grammar.proofs.Rights.{all, nexts}
use Rattle.patr_grammar.proofs.reader.Reader.+right.Given as goal

abbrev pub decreases-group : goal.decreases-group
decreases-group l = 5 * l.levels

abbrev pub decreases-item : goal.decreases-item
decreases-item l = 5 * l.levels + 1

abbrev pub decreases-more_items : goal.decreases-more_items
decreases-more_items l = 5 * l.levels + 2

abbrev pub decreases-alternative : goal.decreases-alternative
decreases-alternative l = 5 * l.levels + 3

abbrev pub decreases-alternatives : goal.decreases-alternatives
decreases-alternatives l = 5 * l.levels + 4

abbrev pub invariant-alternatives-loop-self : goal.invariant-alternatives-loop-self
invariant-alternatives-loop-self l =
    let read = item by_id true l.levels in
    record {
      read : IsLeft size (nexts read) (map (λ v. right_seen v.items) l.found.items) (right_left l.symbols.items l.self.rest.now) (all read (right_left l.fn.symbols.items l.fn.self.rest.now));
      gathers : Gathers l.fn.symbols.items l.symbols.items (symbols_in_all l.found);
      shorter : length l.self.rest.now < length l.fn.self.rest.now;
    }

abbrev pub decreases-alternatives-loop-self : goal.decreases-alternatives-loop-self
decreases-alternatives-loop-self l = length l.self.rest.now

abbrev pub invariant-more_items-loop-self : goal.invariant-more_items-loop-self
invariant-more_items-loop-self l =
    let read = item by_id true l.levels in
    let starts = begins_right l.outside in
    record {
      read : IsLeft size (reads_right starts read) (map item_seen l.found.items) (right_left l.symbols.items l.self.rest.now) (onto (map item_seen l.fn.found.items) (star_right by_id starts read (right_left l.fn.symbols.items l.fn.self.rest.now)));
      gathers : (before : List Id) → Gathers before l.fn.symbols.items (symbols_in (map item_seen l.fn.found.items)) → Gathers before l.symbols.items (symbols_in (map item_seen l.found.items));
      shorter : length l.self.rest.now ≤ length l.fn.self.rest.now;
    }

abbrev pub decreases-more_items-loop-self : goal.decreases-more_items-loop-self
decreases-more_items-loop-self l = length l.self.rest.now
