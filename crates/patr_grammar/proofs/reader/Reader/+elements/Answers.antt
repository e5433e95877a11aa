use Rattle.std.proofs.Common.{◌-◌, ◌∙◌, ap, sym, subst, arith, refl, map, length, List}
use Rattle.std.proofs.lemmas.List.{map_push}
use Rattle.std.proofs.lemmas.Result.{err_from_is_err_and}
use Rattle.patr_model.specs.declared.lookahead.Kind.TheVariants.{Slash}
use Rattle.patr_model.specs.declared.notation.What.TheVariants as what
use Rattle.patr_model.specs.Parsing.{plus}
use Rattle.patr_model.specs.Productions.{Choice, alternative, choices, rows}
use Rattle.patr_grammar.proofs.Names.{CloseBrace, Fails, Gives, Got, Item, Lexeme, Row, Written, begins, begins_by, by_id, element_by, is_kind, one, onto, row, seen_by, single_by, star, ◌>>=◌}
use Rattle.patr_grammar.proofs.Choices.{all, braced_choice, braced_deep, braced_single, choices_are, closed, next, next_is, nexts}
use Rattle.patr_grammar.proofs.Heads.{none_begin, one_of_level}
use Rattle.patr_grammar.proofs.Loops.{IsLeft, ends, fails_at_first, fails_in, goes_on, many_things, reads}
use Rattle.patr_grammar.proofs.reader.Reader.+elements.Goals as goal

pub element-returns-then-not-begins-clause-gives : goal.element-returns-then-not-begins-clause-gives
element-returns-then-not-begins-clause-gives t c =
    let h = c.args.head in
    subst (Gives (seen_by h) c.single.result c.single.new.self.rest.now) (sym (braced_single (begins_by h) (single_by h) c.args.levels c.args.self.now.rest.now (sym c.begins.ensures ∙ c.if-not-begins.true))) c.single.ensures.gives

pub element-returns-then-levels-eq0-clause-gives : goal.element-returns-then-levels-eq0-clause-gives
element-returns-then-levels-eq0-clause-gives t c =
    let h = c.args.head in
    braced_deep (begins_by h) (single_by h) c.args.levels c.args.self.now.rest.now c.if-levels-eq0.true (sym c.begins.ensures ∙ c.if-not-begins.false)

pub element-returns-in_err-inner-clause-gives : goal.element-returns-in_err-inner-clause-gives
element-returns-in_err-inner-clause-gives t c =
    let h = c.args.head in
    let f = c.in_err-inner.field-0.0 in
    let rest = c.choices.new.self.rest.now in
    let read = λ (ts : List Lexeme). choices by_id (begins_by h) (element_by h (c.args.levels - 1)) (is_kind by_id CloseBrace) what.CloseBrace ts in
    let here = braced_choice (begins_by h) (single_by h) c.args.levels c.args.self.now.rest.now c.if-levels-eq0.false (sym c.begins.ensures ∙ c.if-not-begins.false) in
    let p = err_from_is_err_and c.from_residual.result c.from_residual.ensures.1 in
    rw (p.1, p.2) (subst (Fails f rest) (sym here) (fails_at_first f rest _ (λ rs ts. Got (Choice rs) ts) (subst (λ (ts : List Lexeme). Fails f rest (read ts)) c.pass.ensures.rest c.in_err-inner.ensures.gives)))

pub element-returns-clause-gives : goal.element-returns-clause-gives
element-returns-clause-gives t c =
    let h = c.args.head in
    let rest = c.choices.new.self.rest.now in
    let read = λ (ts : List Lexeme). choices by_id (begins_by h) (element_by h (c.args.levels - 1)) (is_kind by_id CloseBrace) what.CloseBrace ts in
    braced_choice (begins_by h) (single_by h) c.args.levels c.args.self.now.rest.now c.if-levels-eq0.false (sym c.begins.ensures ∙ c.if-not-begins.false)
    ∙ ap (λ (ts : List Lexeme). read ts >>= λ rs ts. Got (Choice rs) ts) (sym c.pass.ensures.rest) ∙ ap (λ p. p >>= λ rs ts. Got (Choice rs) ts) c.in_ok-inner.ensures.gives ∙ ap (λ i. Got i rest) (sym (one_of_level h c.in_ok-inner.inner))

pub more_elements-returns-in_err-element-clause-gives : goal.more_elements-returns-in_err-element-clause-gives
more_elements-returns-in_err-element-clause-gives t c =
    let h = c.args.head in
    let l = c.loop-self in
    let read = element_by h c.args.levels in
    let p = err_from_is_err_and c.from_residual.result c.from_residual.ensures.1 in
    rw (p.1, p.2) (fails_in (many_things (begins_by h) read (none_begin h)) c.in_err-element.field-0.0 (map (seen_by h) l.found.items) l.self.rest.now c.element.new.self.rest.now
    (onto (map (seen_by h) c.args.found.items) (star (begins_by h) read c.args.self.now.rest.now)) (sym c.begins_element.ensures ∙ c.loop-self-test.true) l.invariant.read c.in_err-element.ensures.gives)

pub more_elements-loop-self-preserved : goal.more_elements-loop-self-preserved
more_elements-loop-self-preserved t c =
    let h = c.args.head in
    let l = c.loop-self in
    let read = element_by h c.args.levels in
    let x = c.in_ok-element.element in
    let after = c.element.new.self.rest.now in
    let total = onto (map (seen_by h) c.args.found.items) (star (begins_by h) read c.args.self.now.rest.now) in
    let more = ap (map (seen_by h)) c.in_ok-push.ensures.items ∙ map_push (seen_by h) l.found.items x in
    record {
      read = subst (λ (xs : List (Item (Written h))). IsLeft length (reads (begins_by h) read) xs after total) (sym more)
          (goes_on (many_things (begins_by h) read (none_begin h)) (map (seen_by h) l.found.items) l.self.rest.now after (seen_by h x) total (sym c.begins_element.ensures ∙ c.loop-self-test.true) c.in_ok-element.ensures.gives c.in_ok-element.ensures.shorter l.invariant.read);
      shorter = omega (arith, c.in_ok-element.ensures.shorter, l.invariant.shorter);
    }

pub more_elements-returns-clause-gives : goal.more_elements-returns-clause-gives
more_elements-returns-clause-gives t c =
    let h = c.args.head in
    let l = c.loop-self in
    let read = element_by h c.args.levels in
    ends (many_things (begins_by h) read (none_begin h)) (map (seen_by h) l.found.items) l.self.rest.now (onto (map (seen_by h) c.args.found.items) (star (begins_by h) read c.args.self.now.rest.now)) (sym c.begins_element.ensures ∙ c.loop-self-test.false) l.invariant.read

pub choices-returns-in_err-next-clause-gives : goal.choices-returns-in_err-next-clause-gives
choices-returns-in_err-next-clause-gives t c =
    let h = c.args.head in
    let l = c.loop-self in
    let starts = begins_by h in
    let read = element_by h c.args.levels in
    let start = c.args.self.now.rest.now in
    let f = c.in_err-next.field-0.0 in
    let rest = c.some_elements-in-loop-self.new.self.rest.now in
    let slash = sym c.begins.ensures ∙ c.loop-self-test.true in
    let here = next_is starts read l.self.rest.now slash ∙ ap (λ (ts : List Lexeme). alternative by_id starts read ts) (sym c.pass.ensures.rest) in
    let p = err_from_is_err_and c.from_residual-in_err-next.result c.from_residual-in_err-next.ensures.1 in
    let one_failed = fails_at_first f rest (plus starts read c.pass.new.self.rest.now) (λ xs ts. Got (row xs) ts) c.in_err-next.ensures.gives in
    let failed = fails_in (many_things (begins (is_kind by_id Slash)) (next starts read) refl) f (map (λ v. row (map (seen_by h) v.items)) l.found.items) l.self.rest.now rest (all starts read start) slash l.invariant.read (subst (Fails f rest) (sym here) one_failed) in
    rw (p.1, p.2) (subst (Fails f rest) (sym (choices_are starts read start)) (fails_at_first f rest (all starts read start) (closed starts read) failed))

pub choices-loop-self-preserved : goal.choices-loop-self-preserved
choices-loop-self-preserved t c =
    let h = c.args.head in
    let l = c.loop-self in
    let starts = begins_by h in
    let read = element_by h c.args.levels in
    let start = c.args.self.now.rest.now in
    let after = c.some_elements-in-loop-self.new.self.rest.now in
    let slash = sym c.begins.ensures ∙ c.loop-self-test.true in
    let here = next_is starts read l.self.rest.now slash ∙ ap (λ (ts : List Lexeme). alternative by_id starts read ts) (sym c.pass.ensures.rest) ∙ ap (λ p. p >>= λ xs ts. Got (row xs) ts) c.in_ok-next.ensures.gives in
    let seen = map (λ v. row (map (seen_by h) v.items)) l.found.items in
    let x = row (map (seen_by h) c.in_ok-next.next.items) in
    let more = ap (map (λ v. row (map (seen_by h) v.items))) c.in_ok-push-2.ensures.items ∙ map_push (λ v. row (map (seen_by h) v.items)) l.found.items c.in_ok-next.next in
    record {
      read = subst (λ (xs : List (Row (Written h))). IsLeft length (nexts starts read) xs after (all starts read start)) (sym more)
          (goes_on (many_things (begins (is_kind by_id Slash)) (next starts read) refl) seen l.self.rest.now after x (all starts read start) slash here (omega (arith, c.in_ok-next.ensures.shorter, c.pass.ensures.shorter)) l.invariant.read);
      shorter = omega (arith, c.in_ok-next.ensures.shorter, c.pass.ensures.shorter, l.invariant.shorter);
    }

pub choices-returns-in_err-one-clause-gives : goal.choices-returns-in_err-one-clause-gives
choices-returns-in_err-one-clause-gives t c =
    let h = c.args.head in
    let l = c.loop-self in
    let starts = begins_by h in
    let read = element_by h c.args.levels in
    let start = c.args.self.now.rest.now in
    let f = c.in_err-one.field-0.0 in
    let rest = c.one.new.self.rest.now in
    let seen = map (λ v. row (map (seen_by h) v.items)) l.found.items in
    let done = ends (many_things (begins (is_kind by_id Slash)) (next starts read) refl) seen l.self.rest.now (all starts read start) (sym c.begins.ensures ∙ c.loop-self-test.false) l.invariant.read in
    let p = err_from_is_err_and c.from_residual-in_err-one.result c.from_residual-in_err-one.ensures.1 in
    rw (p.1, p.2) (subst (Fails f rest) (sym (choices_are starts read start ∙ ap (λ p. p >>= closed starts read) done)) (fails_at_first f rest (one (is_kind by_id CloseBrace) what.CloseBrace l.self.rest.now) (λ _ ts. Got (rows seen) ts) c.in_err-one.ensures.gives))

pub choices-returns-clause-gives : goal.choices-returns-clause-gives
choices-returns-clause-gives t c =
    let h = c.args.head in
    let l = c.loop-self in
    let starts = begins_by h in
    let read = element_by h c.args.levels in
    let start = c.args.self.now.rest.now in
    let seen = map (λ v. row (map (seen_by h) v.items)) l.found.items in
    let done = ends (many_things (begins (is_kind by_id Slash)) (next starts read) refl) seen l.self.rest.now (all starts read start) (sym c.begins.ensures ∙ c.loop-self-test.false) l.invariant.read in
    choices_are starts read start ∙ ap (λ p. p >>= closed starts read) done ∙ ap (λ p. p >>= λ _ ts. Got (rows seen) ts) c.in_ok-one.ensures.gives
