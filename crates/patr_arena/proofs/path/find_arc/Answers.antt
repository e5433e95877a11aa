use Rattle.std.proofs.Common.{◌∙◌, Ok, Err, Some, ap, eqb-true, sym, rules}
use Rattle.std.proofs.lemmas.List.Sorted.{answers_always}
use Rattle.patr_arena.specs.declared.value.Feature.{Feature}
use Rattle.patr_arena.proofs.Arcs.{found_at, nowhere, searched}
use Rattle.patr_arena.proofs.path.find_arc.Goals as goal

pub returns-then-eq : goal.returns-then-eq
returns-then-eq c =
    let there = c.in-Some.ensures.lookup.3 in
    let same = ap (λ (f : Feature). f.attribute.0) (sym (there.1 nowhere)) ∙ eqb-true _ _ (sym c.if-eq.ensures) in
    ap (λ (f : Feature). Some f.to) (there.1 nowhere) ∙ sym (found_at c.args.arcs.now c.requires c.args.attribute.0 c.args.attribute.0 there.0 same)

pub returns-in-Ok : goal.returns-in-Ok
returns-in-Ok c =
    let by_attribute = c.in-Ok.ensures.position (λ arc. arc.attribute.0) (answers_always _ _ _ (λ f a r g called. search rules)) in
    sym (searched c.args.arcs.now c.requires c.args.attribute.0 (Ok c.in-Ok.place) c.in-Ok.ensures.bound by_attribute _)

pub returns-in-Err : goal.returns-in-Err
returns-in-Err c =
    let by_attribute = c.in-Err.ensures.position (λ arc. arc.attribute.0) (answers_always _ _ _ (λ f a r g called. search rules)) in
    sym (searched c.args.arcs.now c.requires c.args.attribute.0 (Err c.in-Err.field-0) c.in-Err.ensures.bound by_attribute)
