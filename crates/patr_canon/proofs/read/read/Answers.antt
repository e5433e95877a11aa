use Rattle.std.proofs.Common.{rules, ◌≡◌, ℕ, ◌<◌, true, false, true≢false, eqb-true, List, [], length, arith, subst, sym, ap, ◌∙◌}
use Rattle.std.proofs.lemmas.List.{nil_from_length}
use Rattle.std.specs.Bool.{◌==◌}
use Rattle.patr_text.specs.Texts.{Extends, first_texts}
use Rattle.patr_canon.specs.Items.{IsFurther, IsItem, IsSpelledItem, expected_seen}
use Rattle.patr_canon.proofs.Turns.{going_start, going_nowhere, going_on, going_end}
use Rattle.patr_canon.proofs.read.read.Goals as goal

not_empty : (bs : List ℕ) → false ≡ (length bs == 0) → bs ≡ [] → ⊥
not_empty bs h e = true≢false (sym (h ∙ ap (λ (l : List ℕ). length l == 0) e))

empty : (bs : List ℕ) → true ≡ (length bs == 0) → bs ≡ []
empty bs h = nil_from_length bs (eqb-true (length bs) 0 (sym h))

has_some : (table : List (List ℕ)) → Extends first_texts table → 0 < length table
unfolding first_texts
has_some table h = let len = ap length h.1 in omega (arith, len)

pub loop-left-init : goal.loop-left-init
loop-left-init c = record {
  going = going_start c.args.symbols.now c.args.text.now c.new-reader.result (has_some c.args.symbols.now c.recall.ensures.first) c.new-reader.ensures.places c.new-reader.ensures.begun c.new-reader.ensures.root c.new-reader.ensures.nodes;
  utf8 = c.utf8.text;
}

pub item_front-requires : goal.item_front-requires
item_front-requires c = record { room = omega (arith, c.requires.room, c.loop-left.invariant.going.room) }

pub returns-in_default-clause-built : goal.returns-in_default-clause-built
returns-in_default-clause-built c =
    going_nowhere c.args.symbols.now c.loop-left.symbols c.item_front.new.symbols c.args.text.now c.loop-left.reader (expected_seen c.loop-left.expected) c.loop-left.left.now c.loop-left.invariant.going
    (not_empty c.loop-left.left.now c.loop-left-test.ensures) c.in_ok-event.ensures.grown.table (subst (IsItem c.item_front.new.symbols (expected_seen c.loop-left.expected) c.loop-left.left.now) c.in_default.is c.in_ok-event.ensures.item)

pub loop-left-preserved : goal.loop-left-preserved
loop-left-preserved c =
    let table = c.item_front.new.symbols in
    record {
      going = going_on c.args.symbols.now c.loop-left.symbols table c.args.text.now c.loop-left.reader c.feed.new.self (expected_seen c.loop-left.expected) c.loop-left.left.now c.in-Some.event c.in-Some.rest (expected_seen c.expected_behind-expected.result)
          c.loop-left.invariant.going (not_empty c.loop-left.left.now c.loop-left-test.ensures) c.in_ok-event.ensures.grown.table
          (subst (IsItem table (expected_seen c.loop-left.expected) c.loop-left.left.now) c.in-Some.is c.in_ok-event.ensures.item)
          (subst (IsSpelledItem (length table)) c.in-Some.is c.in_ok-event.ensures.further.1)
          (subst (IsFurther c.loop-left.symbols table c.loop-left.left.now) c.in-Some.is c.in_ok-event.ensures.further.0).1
          c.in_ok-feed.ensures c.expected_behind-expected.ensures;
      utf8 = search rules;
    }

pub returns-clause-built : goal.returns-clause-built
returns-clause-built c =
    going_end c.args.symbols.now c.loop-left.symbols c.args.text.now c.loop-left.reader (expected_seen c.loop-left.expected) c.loop-left.left.now c.loop-left.invariant.going (empty c.loop-left.left.now c.loop-left-test.ensures)

pub returns-clause-below : goal.returns-clause-below
returns-clause-below c = (c.loop-left.invariant.going.below.root, c.loop-left.invariant.going.below.nodes)
