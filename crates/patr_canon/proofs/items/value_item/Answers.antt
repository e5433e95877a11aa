use Rattle.std.proofs.Common.{rules, subst}
use Rattle.std.proofs.lemmas.Option.{slice_get_within}
use Rattle.patr_canon.specs.Items.{IsSymbolFront}
use Rattle.patr_canon.proofs.ItemFronts.{opening_item, numbered_item, atom_item, atom_none}
use Rattle.patr_canon.proofs.items.value_item.Goals as goal

pub returns-in-Some-clause-item : goal.returns-in-Some-clause-item
returns-in-Some-clause-item c = λ l is d x left f fits e. opening_item c.args.symbols.now c.args.text.now l is d x left f e c.in-Some.rest.now c.in-Some.ensures.rest

pub returns-in-Some-behind-clause-item : goal.returns-in-Some-behind-clause-item
returns-in-Some-behind-clause-item c = numbered_item c.args.symbols.now c.args.text.now c.in-Some-behind.rest.now c.numbered.result c.in-Some-behind.ensures.rest c.numbered.ensures

pub returns-in_default-2-clause-item : goal.returns-in_default-2-clause-item
returns-in_default-2-clause-item c = λ l is d x left f fits e.
    atom_none c.symbol_front.new.symbols c.args.text.now c.in_default.ensures.rest c.in_default-behind.ensures.rest l is d x left f e
    (subst (IsSymbolFront c.symbol_front.new.symbols c.args.text.now) c.in_default-2.is c.in_ok-atom.ensures.front)

pub returns-clause-item : goal.returns-clause-item
returns-clause-item c = λ l is d x left f fits e.
    atom_item c.symbol_front.new.symbols c.args.text.now c.in_default.ensures.rest c.in_default-behind.ensures.rest l is d x left f e c.in-Some-2.atom c.in-Some-2.rest
    (subst (IsSymbolFront c.symbol_front.new.symbols c.args.text.now) c.in-Some-2.is c.in_ok-atom.ensures.front)

pub returns-clause-further : goal.returns-clause-further
returns-clause-further c =
    let front = subst (IsSymbolFront c.symbol_front.new.symbols c.args.text.now) c.in-Some-2.is c.in_ok-atom.ensures.front in
    (search rules, slice_get_within c.symbol_front.new.symbols c.in-Some-2.atom.0 front.0 front.1)
