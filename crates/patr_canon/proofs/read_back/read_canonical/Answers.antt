use Rattle.std.proofs.Common.{◌≡◌, Some, None, Vec, ℕ, ◌<◌, ◌^◌, List, Option, ◌+◌, ◌-◌, length, arith, subst, sym, ap, ◌∙◌}
use Rattle.std.proofs.lemmas.Bool.{MatchBool-at_false, MatchBool-at_true}
use Rattle.std.specs.Option.{option_map}
use Rattle.patr_canon.proofs.Names.{AreMoved, Global, HasBuilt, IsMade, IsReadBack, IsReadBelow, Link, OfValue, Ref, RootIsBelow, Target, ids, is_below, target_seen}
use Rattle.patr_canon.proofs.ReadBacks.{below_is, has_text, no_reader, no_root, no_block, no_node, other_text}
use Rattle.patr_canon.proofs.SameNodes.{moved_below}
use Rattle.patr_canon.proofs.read_back.read_canonical.Goals as goal

-- a root that was read has its symbol
root_symbol : (n : ℕ) (o : Option Target) (t : Target) → o ≡ Some t → RootIsBelow n (option_map target_seen o) → OfValue (λ c. c < n) (target_seen t)
root_symbol n o t e h = subst (λ u. RootIsBelow n (option_map target_seen u)) e h

few : (n m : ℕ) → n + m < 2 ^ 32 - 1 → m < 2 ^ 32
few n m h = omega (arith, h)

pub returns-in_default-clause-answer : goal.returns-in_default-clause-answer
returns-in_default-clause-answer c = λ k.
    no_reader c.read.new.symbols (ids c.args.order.now) c.args.text.now (few (length c.args.symbols.now) (length c.args.text.now) c.requires.room) k
    (subst (HasBuilt c.read.new.symbols c.args.text.now) c.in_default.is c.in_ok-reader.ensures.built)

pub returns-in_default-root-clause-answer : goal.returns-in_default-root-clause-answer
returns-in_default-root-clause-answer c = λ k.
    no_root c.read.new.symbols (ids c.args.order.now) c.args.text.now (few (length c.args.symbols.now) (length c.args.text.now) c.requires.room) k c.in-Some.reader
    (subst (HasBuilt c.read.new.symbols c.args.text.now) c.in-Some.is c.in_ok-reader.ensures.built) c.in_default-root.is

pub returns-in_default-2-clause-answer : goal.returns-in_default-2-clause-answer
returns-in_default-2-clause-answer c = λ k.
    no_block c.read.new.symbols (ids c.args.order.now) c.args.text.now (few (length c.args.symbols.now) (length c.args.text.now) c.requires.room) k c.in-Some.reader
    (subst (HasBuilt c.read.new.symbols c.args.text.now) c.in-Some.is c.in_ok-reader.ensures.built)
    (subst (λ (ns : List (Vec Link Global)). IsMade ns None) c.deref.ensures.value (subst (IsMade c.deref.result.now) c.in_default-2.is c.in_ok-block.ensures))

pub returns-then-not-is_there-clause-answer : goal.returns-then-not-is_there-clause-answer
returns-then-not-is_there-clause-answer c = λ k.
    no_node c.read.new.symbols (ids c.args.order.now) c.args.text.now (few (length c.args.symbols.now) (length c.args.text.now) c.requires.room) k c.in-Some.reader
    (subst (HasBuilt c.read.new.symbols c.args.text.now) c.in-Some.is c.in_ok-reader.ensures.built) c.in-Some-root.root c.in-Some-root.is c.in-Some-2.block
    (subst (λ (ns : List (Vec Link Global)). AreMoved ns c.in-Some-2.block) c.deref.ensures.value (subst (IsMade c.deref.result.now) c.in-Some-2.is c.in_ok-block.ensures))
    (c.if-not-is_there.ensures ∙ ap (λ (n : ℕ). is_below n (target_seen c.in-Some-root.root)) c.len.ensures.len)

pub prints-requires-clause-own : goal.prints-requires-clause-own
prints-requires-clause-own c =
    moved_below (length c.read.new.symbols) c.in-Some.reader.nodes.items c.in-Some-2.block
    (subst (λ (ns : List (Vec Link Global)). AreMoved ns c.in-Some-2.block) c.deref.ensures.value (subst (IsMade c.deref.result.now) c.in-Some-2.is c.in_ok-block.ensures))
    (subst (IsReadBelow (length c.read.new.symbols)) c.in-Some.is c.in_ok-reader.ensures.below).1

pub prints-requires-clause-held : goal.prints-requires-clause-held
prints-requires-clause-held c =
    below_is (length c.in-Some-2.block) (target_seen c.in-Some-root.root) (c.if-not-is_there.ensures ∙ ap (λ (n : ℕ). is_below n (target_seen c.in-Some-root.root)) c.len.ensures.len)

pub prints-requires-clause-symbol : goal.prints-requires-clause-symbol
prints-requires-clause-symbol c =
    root_symbol (length c.read.new.symbols) c.in-Some.reader.root c.in-Some-root.root c.in-Some-root.is (subst (IsReadBelow (length c.read.new.symbols)) c.in-Some.is c.in_ok-reader.ensures.below).0

pub returns-then-not-same-clause-answer : goal.returns-then-not-same-clause-answer
returns-then-not-same-clause-answer c = λ k.
    let below = subst (IsReadBelow (length c.read.new.symbols)) c.in-Some.is c.in_ok-reader.ensures.below in
    let moved = subst (λ (ns : List (Vec Link Global)). AreMoved ns c.in-Some-2.block) c.deref.ensures.value (subst (IsMade c.deref.result.now) c.in-Some-2.is c.in_ok-block.ensures) in
    other_text c.read.new.symbols (ids c.args.order.now) c.args.text.now (few (length c.args.symbols.now) (length c.args.text.now) c.requires.room) k c.in-Some.reader
    (subst (HasBuilt c.read.new.symbols c.args.text.now) c.in-Some.is c.in_ok-reader.ensures.built) c.in-Some-root.root c.in-Some-root.is c.in-Some-2.block moved c.len.ensures.block
    (moved_below (length c.read.new.symbols) c.in-Some.reader.nodes.items c.in-Some-2.block moved below.1) (root_symbol (length c.read.new.symbols) c.in-Some.reader.root c.in-Some-root.root c.in-Some-root.is below.0)
    (MatchBool-at_false _ _ c.if-not-same.true c.in_ok-same.ensures)

pub returns-clause-answer : goal.returns-clause-answer
returns-clause-answer c =
    let below = subst (IsReadBelow (length c.read.new.symbols)) c.in-Some.is c.in_ok-reader.ensures.below in
    let moved = subst (λ (ns : List (Vec Link Global)). AreMoved ns c.in-Some-2.block) c.deref.ensures.value (subst (IsMade c.deref.result.now) c.in-Some-2.is c.in_ok-block.ensures) in
    subst (λ (r : Ref). IsReadBack c.read.new.symbols (ids c.args.order.now) c.args.text.now c.in-Some-2.block r) (sym c.in_block.ensures)
    (has_text c.read.new.symbols (ids c.args.order.now) c.args.text.now c.in-Some-2.block c.in-Some-root.root c.len.ensures.block
    (moved_below (length c.read.new.symbols) c.in-Some.reader.nodes.items c.in-Some-2.block moved below.1) (root_symbol (length c.read.new.symbols) c.in-Some.reader.root c.in-Some-root.root c.in-Some-root.is below.0)
    (below_is (length c.in-Some-2.block) (target_seen c.in-Some-root.root) (c.if-not-is_there.ensures ∙ ap (λ (n : ℕ). is_below n (target_seen c.in-Some-root.root)) c.len.ensures.len))
    (MatchBool-at_true _ _ c.if-not-same.false c.in_ok-same.ensures))
