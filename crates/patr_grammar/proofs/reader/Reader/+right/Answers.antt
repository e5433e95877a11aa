use Rattle.std.proofs.Common.{◌∷◌, [], ◌∙◌, ap, sym, subst, arith, refl, map, true, List}
use Rattle.std.proofs.lemmas.List.{map_push}
use Rattle.std.proofs.lemmas.Result.{err_from_is_err_and}
use Rattle.patr_model.specs.declared.lookahead.Kind.TheVariants.{Slash, CloseParen}
use Rattle.patr_model.specs.declared.notation.What.TheVariants as what
use Rattle.patr_model.specs.Productions.{Choice, Option', row_right, rows, things_of}
use Rattle.patr_grammar.proofs.Names.{CloseBrace, Fails, Gathers, Got, Id, Item, Lexeme, OpenBrace, OpenParen, Row, SymbolText, begins, begins_right, by_id, group_right, is_kind, item, item_seen, onto, right_left, right_seen, rights_seen, star_right, symbols_in, symbols_in_all, ◌>>=◌}
use Rattle.patr_grammar.proofs.Levels.{symbol_level, optional_level, choice_level}
use Rattle.patr_grammar.proofs.Loops.{IsLeft, ends, fails_at_first, fails_in, goes_on, many_items, reads_right, size}
use Rattle.patr_grammar.proofs.Rights.{all, alts_are, gathers_more, item_choice, item_optional, item_symbol, next, next_is, nexts, none_begins, symbols_all, symbols_push, symbols_push_row}
use Rattle.patr_grammar.proofs.reader.Reader.+right.Goals as goal

pub item-returns-in_err-inner-clause-gives : goal.item-returns-in_err-inner-clause-gives
item-returns-in_err-inner-clause-gives t c =
    let s = right_left c.args.symbols.now.items c.args.self.now.rest.now in
    let f = c.in_err-inner.field-0.0 in
    let rest = c.group.new.self.rest.now in
    let p = err_from_is_err_and c.from_residual.result c.from_residual.ensures.1 in
    rw (p.1, p.2) (subst (Fails f rest) (sym (item_optional c.args.levels s (sym c.begins.ensures ∙ c.if-begins.true))) (fails_at_first f rest (group_right OpenParen CloseParen what.CloseParen c.args.levels s) (λ rs s. Got (Option' rs) s) c.in_err-inner.ensures.gives))

pub item-returns-then-begins-clause-gives : goal.item-returns-then-begins-clause-gives
item-returns-then-begins-clause-gives t c =
    let s = right_left c.args.symbols.now.items c.args.self.now.rest.now in
    item_optional c.args.levels s (sym c.begins.ensures ∙ c.if-begins.true) ∙ ap (λ p. p >>= λ rs s. Got (Option' rs) s) c.in_ok-inner.ensures.gives ∙ ap (λ i. Got i (right_left c.group.new.symbols.items c.group.new.self.rest.now)) (sym (optional_level c.in_ok-inner.inner))

pub item-returns-then-begins-clause-gathers : goal.item-returns-then-begins-clause-gathers
item-returns-then-begins-clause-gathers t c =
    subst (Gathers c.args.symbols.now.items c.group.new.symbols.items) (sym (ap (λ i. symbols_in (i ∷ [])) (optional_level c.in_ok-inner.inner) ∙ symbols_all (rights_seen c.in_ok-inner.inner))) c.in_ok-inner.ensures.gathers

pub item-returns-in_err-inner-2-clause-gives : goal.item-returns-in_err-inner-2-clause-gives
item-returns-in_err-inner-2-clause-gives t c =
    let s = right_left c.args.symbols.now.items c.args.self.now.rest.now in
    let f = c.in_err-inner-2.field-0.0 in
    let rest = c.group-then-begins-2.new.self.rest.now in
    let p = err_from_is_err_and c.from_residual-in_err-inner-2.result c.from_residual-in_err-inner-2.ensures.1 in
    rw (p.1, p.2) (subst (Fails f rest) (sym (item_choice c.args.levels s (sym c.begins.ensures ∙ c.if-begins.false) (sym c.begins-2.ensures ∙ c.if-begins-2.true)))
    (fails_at_first f rest (group_right OpenBrace CloseBrace what.CloseBrace c.args.levels s) (λ rs s. Got (Choice rs) s) c.in_err-inner-2.ensures.gives))

pub item-returns-then-begins-2-clause-gives : goal.item-returns-then-begins-2-clause-gives
item-returns-then-begins-2-clause-gives t c =
    let s = right_left c.args.symbols.now.items c.args.self.now.rest.now in
    item_choice c.args.levels s (sym c.begins.ensures ∙ c.if-begins.false) (sym c.begins-2.ensures ∙ c.if-begins-2.true) ∙ ap (λ p. p >>= λ rs s. Got (Choice rs) s) c.in_ok-inner-2.ensures.gives
    ∙ ap (λ i. Got i (right_left c.group-then-begins-2.new.symbols.items c.group-then-begins-2.new.self.rest.now)) (sym (choice_level c.in_ok-inner-2.inner))

pub item-returns-then-begins-2-clause-gathers : goal.item-returns-then-begins-2-clause-gathers
item-returns-then-begins-2-clause-gathers t c =
    subst (Gathers c.args.symbols.now.items c.group-then-begins-2.new.symbols.items) (sym (ap (λ i. symbols_in (i ∷ [])) (choice_level c.in_ok-inner-2.inner) ∙ symbols_all (rights_seen c.in_ok-inner-2.inner))) c.in_ok-inner-2.ensures.gathers

pub item-returns-in_err-symbol-clause-gives : goal.item-returns-in_err-symbol-clause-gives
item-returns-in_err-symbol-clause-gives t c =
    let s = right_left c.args.symbols.now.items c.args.self.now.rest.now in
    let p = err_from_is_err_and c.from_residual-in_err-symbol.result c.from_residual-in_err-symbol.ensures.1 in
    rw (p.1, p.2) (subst (Fails c.in_err-symbol.field-0.0 c.right_symbol.new.self.rest.now) (sym (item_symbol c.args.levels s (sym c.begins.ensures ∙ c.if-begins.false) (sym c.begins-2.ensures ∙ c.if-begins-2.false))) c.in_err-symbol.ensures.gives)

pub item-returns-clause-gives : goal.item-returns-clause-gives
item-returns-clause-gives t c =
    let s = right_left c.args.symbols.now.items c.args.self.now.rest.now in
    item_symbol c.args.levels s (sym c.begins.ensures ∙ c.if-begins.false) (sym c.begins-2.ensures ∙ c.if-begins-2.false) ∙ c.in_ok-symbol.ensures.gives ∙ ap (λ i. Got i (right_left c.right_symbol.new.symbols.items c.right_symbol.new.self.rest.now)) (sym (symbol_level c.in_ok-symbol.symbol))

pub more_items-returns-in_err-item-clause-gives : goal.more_items-returns-in_err-item-clause-gives
more_items-returns-in_err-item-clause-gives t c =
    let read = item by_id true c.args.levels in
    let l = c.loop-self in
    let p = err_from_is_err_and c.from_residual.result c.from_residual.ensures.1 in
    rw (p.1, p.2) (fails_in (many_items (begins_right c.args.outside) read (none_begins c.args.outside)) c.in_err-item.field-0.0 (map item_seen l.found.items) (right_left l.symbols.items l.self.rest.now) c.item.new.self.rest.now
    (onto (map item_seen c.args.found.items) (star_right by_id (begins_right c.args.outside) read (right_left c.args.symbols.now.items c.args.self.now.rest.now))) (sym c.begins_item.ensures ∙ c.loop-self-test.true) l.invariant.read c.in_err-item.ensures.gives)

pub more_items-loop-self-preserved : goal.more_items-loop-self-preserved
more_items-loop-self-preserved t c =
    let read = item by_id true c.args.levels in
    let starts = begins_right c.args.outside in
    let l = c.loop-self in
    let x = c.in_ok-item.item in
    let s = right_left l.symbols.items l.self.rest.now in
    let after = right_left c.item.new.symbols.items c.item.new.self.rest.now in
    let total = onto (map item_seen c.args.found.items) (star_right by_id starts read (right_left c.args.symbols.now.items c.args.self.now.rest.now)) in
    let more = ap (map item_seen) c.in_ok-push.ensures.items ∙ map_push item_seen l.found.items x in
    record {
      read = subst (λ (xs : List (Item (SymbolText Id))). IsLeft size (reads_right starts read) xs after total) (sym more)
          (goes_on (many_items starts read (none_begins c.args.outside)) (map item_seen l.found.items) s after (item_seen x) total (sym c.begins_item.ensures ∙ c.loop-self-test.true) c.in_ok-item.ensures.gives c.in_ok-item.ensures.shorter l.invariant.read);
      gathers = λ before g. gathers_more before l.symbols.items c.item.new.symbols.items (symbols_in (map item_seen l.found.items)) (symbols_in (item_seen x ∷ [])) (symbols_in (map item_seen c.push.new.self.items)) (ap symbols_in more ∙ symbols_push (map item_seen l.found.items) (item_seen x)) (l.invariant.gathers before g) c.in_ok-item.ensures.gathers;
      shorter = omega (arith, c.in_ok-item.ensures.shorter, l.invariant.shorter);
    }

pub more_items-returns-clause-gives : goal.more_items-returns-clause-gives
more_items-returns-clause-gives t c =
    let read = item by_id true c.args.levels in
    let l = c.loop-self in
    ends (many_items (begins_right c.args.outside) read (none_begins c.args.outside)) (map item_seen l.found.items) (right_left l.symbols.items l.self.rest.now)
    (onto (map item_seen c.args.found.items) (star_right by_id (begins_right c.args.outside) read (right_left c.args.symbols.now.items c.args.self.now.rest.now))) (sym c.begins_item.ensures ∙ c.loop-self-test.false) l.invariant.read

pub alternatives-returns-in_err-next-clause-gives : goal.alternatives-returns-in_err-next-clause-gives
alternatives-returns-in_err-next-clause-gives t c =
    let read = item by_id true c.args.levels in
    let l = c.loop-self in
    let start = right_left c.args.symbols.now.items c.args.self.now.rest.now in
    let s = right_left l.symbols.items l.self.rest.now in
    let f = c.in_err-next.field-0.0 in
    let rest = c.alternative-in-loop-self.new.self.rest.now in
    let slash = sym c.begins.ensures ∙ c.loop-self-test.true in
    let here = next_is read s slash ∙ ap (λ (ts : List Lexeme). row_right by_id read (right_left l.symbols.items ts)) (sym c.pass.ensures.rest) in
    let p = err_from_is_err_and c.from_residual-in_err-next.result c.from_residual-in_err-next.ensures.1 in
    let failed = fails_in (many_items (begins (is_kind by_id Slash)) (next read) refl) f (map (λ v. right_seen v.items) l.found.items) s rest (all read start) slash l.invariant.read (subst (Fails f rest) (sym here) c.in_err-next.ensures.gives) in
    rw (p.1, p.2) (subst (Fails f rest) (sym (alts_are read start)) (fails_at_first f rest (all read start) (λ rs s. Got (rows rs) s) failed))

pub alternatives-loop-self-preserved : goal.alternatives-loop-self-preserved
alternatives-loop-self-preserved t c =
    let read = item by_id true c.args.levels in
    let l = c.loop-self in
    let start = right_left c.args.symbols.now.items c.args.self.now.rest.now in
    let s = right_left l.symbols.items l.self.rest.now in
    let after = right_left c.alternative-in-loop-self.new.symbols.items c.alternative-in-loop-self.new.self.rest.now in
    let slash = sym c.begins.ensures ∙ c.loop-self-test.true in
    let here = next_is read s slash ∙ ap (λ (ts : List Lexeme). row_right by_id read (right_left l.symbols.items ts)) (sym c.pass.ensures.rest) ∙ c.in_ok-next.ensures.gives in
    let seen = map (λ v. right_seen v.items) l.found.items in
    let x = right_seen c.in_ok-next.next.items in
    let more = ap (map (λ v. right_seen v.items)) c.in_ok-push-2.ensures.items ∙ map_push (λ v. right_seen v.items) l.found.items c.in_ok-next.next in
    record {
      read = subst (λ (xs : List (Row (SymbolText Id))). IsLeft size (nexts read) xs after (all read start)) (sym more)
          (goes_on (many_items (begins (is_kind by_id Slash)) (next read) refl) seen s after x (all read start) slash here (omega (arith, c.in_ok-next.ensures.shorter, c.pass.ensures.shorter)) l.invariant.read);
      gathers = gathers_more c.args.symbols.now.items l.symbols.items c.alternative-in-loop-self.new.symbols.items (symbols_in_all l.found) (symbols_in (map item_seen c.in_ok-next.next.items)) (symbols_in_all c.push-in-loop-self.new.self)
          (ap (λ (rs : List (Row (SymbolText Id))). map (λ x. x.symbol) (things_of (rows rs))) more ∙ symbols_push_row seen x) l.invariant.gathers c.in_ok-next.ensures.gathers;
      shorter = omega (arith, c.in_ok-next.ensures.shorter, c.pass.ensures.shorter, l.invariant.shorter);
    }

pub alternatives-returns-clause-gives : goal.alternatives-returns-clause-gives
alternatives-returns-clause-gives t c =
    let read = item by_id true c.args.levels in
    let l = c.loop-self in
    let start = right_left c.args.symbols.now.items c.args.self.now.rest.now in
    alts_are read start ∙ ap (λ p. p >>= λ rs s. Got (rows rs) s)
    (ends (many_items (begins (is_kind by_id Slash)) (next read) refl) (map (λ v. right_seen v.items) l.found.items) (right_left l.symbols.items l.self.rest.now) (all read start) (sym c.begins.ensures ∙ c.loop-self-test.false) l.invariant.read)
