use Rattle.std.proofs.Common.{sym, subst}
use Rattle.patr_library.proofs.Names.{ValueIsHeld}
use Rattle.patr_arena.specs.Sentences.{sentence_of}
use Rattle.patr_library.proofs.Keeping.{further, value_still}
use Rattle.patr_library.proofs.Placed.{held_anywhere}
use Rattle.patr_library.proofs.tests.is_same.Goals as goal

pub push-requires : goal.push-requires
push-requires c = held_anywhere (sentence_of c.over-sentence.result) c.args.wanted.block c.requires.rooted.own

pub maps_into-requires-clause-from : goal.maps_into-requires-clause-from
maps_into-requires-clause-from c =
    let v = sentence_of c.over-sentence.result in
    let w = sentence_of c.push.new.self in
    (value_still v w (further v w c.args.wanted.block c.in-Ok.ensures.1) c.args.value (subst (λ u. ValueIsHeld u c.args.value) (sym c.over-sentence.ensures) c.requires.held)).0

pub maps_into-requires-then-branch-clause-to : goal.maps_into-requires-then-branch-clause-to
maps_into-requires-then-branch-clause-to c =
    let v = sentence_of c.over-sentence.result in
    let w = sentence_of c.push.new.self in
    (value_still v w (further v w c.args.wanted.block c.in-Ok.ensures.1) c.args.value (subst (λ u. ValueIsHeld u c.args.value) (sym c.over-sentence.ensures) c.requires.held)).0
