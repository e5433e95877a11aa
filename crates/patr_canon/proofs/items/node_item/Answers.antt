use Rattle.std.proofs.Common.{rules, None, Some, subst}
use Rattle.std.proofs.lemmas.Option.{slice_get_within}
use Rattle.patr_canon.specs.Items.{IsSymbolFront}
use Rattle.patr_canon.specs.declared.event.Event.TheVariants as event
use Rattle.patr_canon.proofs.ItemFronts.{arc_none, arc_cut, arc_is, node_arc, node_closing, node_none}
use Rattle.patr_canon.proofs.items.node_item.Goals as goal

pub returns-in-Some-clause-item : goal.returns-in-Some-clause-item
returns-in-Some-clause-item c = λ l is d x left f fits e. node_closing c.args.symbols.now c.args.first c.args.text.now l d x left f e c.in-Some.rest.now c.in-Some.ensures.rest

pub returns-in_default-separated-clause-item : goal.returns-in_default-separated-clause-item
returns-in_default-separated-clause-item c = node_none c.args.symbols.now c.args.first c.args.text.now c.in_default.ensures.rest c.in_default-separated.ensures.rest

pub returns-in_default-2-clause-item : goal.returns-in_default-2-clause-item
returns-in_default-2-clause-item c =
    let table = c.symbol_front.new.symbols in
    let rest = c.in-Some-separated.rest.now in
    node_arc table c.args.first c.args.text.now rest None c.in_default.ensures.rest c.in-Some-separated.ensures.rest
    (arc_none table c.args.first rest (subst (IsSymbolFront table rest) c.in_default-2.is c.in_ok-attribute.ensures.front))

pub returns-in_default-behind_both-clause-item : goal.returns-in_default-behind_both-clause-item
returns-in_default-behind_both-clause-item c =
    let table = c.symbol_front.new.symbols in
    let rest = c.in-Some-separated.rest.now in
    node_arc table c.args.first c.args.text.now rest None c.in_default.ensures.rest c.in-Some-separated.ensures.rest
    (arc_cut table rest c.in-Some-2.attribute c.in-Some-2.rest (subst (IsSymbolFront table rest) c.in-Some-2.is c.in_ok-attribute.ensures.front) c.in_default-behind_both.ensures.rest)

pub returns-clause-item : goal.returns-clause-item
returns-clause-item c =
    let table = c.symbol_front.new.symbols in
    let rest = c.in-Some-separated.rest.now in
    node_arc table c.args.first c.args.text.now rest (Some (event.Arc c.args.first c.in-Some-2.attribute, c.in-Some-behind_both.rest)) c.in_default.ensures.rest c.in-Some-separated.ensures.rest
    (arc_is table c.args.first rest c.in-Some-behind_both.rest.now c.in-Some-2.attribute c.in-Some-2.rest (subst (IsSymbolFront table rest) c.in-Some-2.is c.in_ok-attribute.ensures.front)
    c.in-Some-behind_both.ensures.rest)

pub returns-clause-further : goal.returns-clause-further
returns-clause-further c =
    let table = c.symbol_front.new.symbols in
    let front = subst (IsSymbolFront table c.in-Some-separated.rest.now) c.in-Some-2.is c.in_ok-attribute.ensures.front in
    (search rules, slice_get_within table c.in-Some-2.attribute.0 front.0 front.1)
