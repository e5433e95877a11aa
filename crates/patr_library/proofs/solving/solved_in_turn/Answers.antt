use Rattle.std.proofs.Common.{◌≡◌, ◌++◌, ◌∷◌, [], sym, subst, arith, take, drop, ◌+◌, Some}
use Rattle.patr_library.proofs.Names.{take_all, append-nil, shown_of, equation_at, equations_at, HasNone, IsSolvedIn, slots_of, stated_of}
use Rattle.patr_library.proofs.Placed.{held_anywhere}
use Rattle.patr_library.proofs.Steps.{taken_more, all_of, none_still, within_left}
use Rattle.patr_library.proofs.Workspaces.{put_least, least_alone}
use Rattle.patr_library.proofs.solving.solved_in_turn.Goals as goal

pub put-requires-clause-block : goal.put-requires-clause-block
put-requires-clause-block c = held_anywhere (shown_of c.new-space.result.arena) c.in_ok-least.least.block c.in_ok-least.ensures.rooted.own

pub with_equation-requires-clause-slots : goal.with_equation-requires-clause-slots
with_equation-requires-clause-slots c = c.loop-equation.invariant.1.0

pub loop-equation-init : goal.loop-equation-init
loop-equation-init c =
    let least = c.in_ok-least.least in
    let put = c.in_ok-so_far.ensures in
    let s = stated_of c.args.start in
    let n = slots_of c.args.start in (
      put.whole,
      subst (λ es. IsSolvedIn (shown_of c.put.new.self.arena) n es (Some c.in_ok-so_far.so_far)) (sym (append-nil s))
          (put_least (shown_of c.new-space.result.arena) (shown_of c.put.new.self.arena) c.new-space.result.arena.lawful least.block put.pushed n s least.root c.in_ok-so_far.so_far
          c.put.new.self.arena.lawful c.requires.any (within_left n s (equations_at c.args.equations.now) c.requires.within) c.in_ok-least.ensures put.held put.value),
    )

pub returns-in_default : goal.returns-in_default
returns-in_default c =
    let xs = c.args.equations.now in
    let i = c.loop-equation.equation-index in
    let e = c.equation-item.result in
    let n = slots_of c.args.start in
    let s = stated_of c.args.start in
    let more = taken_more equation_at n s xs i e (omega (arith, c.loop-equation-test.true, c.loop-equation.auto.equation-index-end)) c.equation-item.is c.requires.within in
    let w = shown_of c.with_equation.new.space.arena in
    let none : HasNone n ((s ++ equations_at (take i xs)) ++ equation_at e ∷ []) =
    subst (IsSolvedIn w n ((s ++ equations_at (take i xs)) ++ equation_at e ∷ [])) c.in_default.is (c.in_ok-next.ensures.solved n (s ++ equations_at (take i xs)) c.loop-equation.invariant.1 more.1) in
    subst (HasNone n) (sym (all_of equation_at s xs (i + 1))) (none_still n (s ++ equations_at (take (i + 1) xs)) (equations_at (drop (i + 1) xs)) (subst (HasNone n) (sym more.0) none))

pub loop-equation-preserved : goal.loop-equation-preserved
loop-equation-preserved c =
    let xs = c.args.equations.now in
    let i = c.loop-equation.equation-index in
    let e = c.equation-item.result in
    let n = slots_of c.args.start in
    let s = stated_of c.args.start in
    let more = taken_more equation_at n s xs i e (omega (arith, c.loop-equation-test.true, c.loop-equation.auto.equation-index-end)) c.equation-item.is c.requires.within in
    let w = shown_of c.with_equation.new.space.arena in (
      c.in_ok-next.ensures.whole,
      subst (λ es. IsSolvedIn w n es (Some c.in-Some.next)) (sym more.0)
          (subst (IsSolvedIn w n ((s ++ equations_at (take i xs)) ++ equation_at e ∷ [])) c.in-Some.is (c.in_ok-next.ensures.solved n (s ++ equations_at (take i xs)) c.loop-equation.invariant.1 more.1)),
    )

pub compacted-requires-clause-from : goal.compacted-requires-clause-from
compacted-requires-clause-from c = c.loop-equation.invariant.1.0

pub returns : goal.returns
returns c =
    let xs = c.args.equations.now in
    let l = c.loop-equation in
    let least = c.in_ok-least-2.least in
    let n = slots_of c.args.start in
    let s = stated_of c.args.start in
    let w = shown_of l.space.arena in
    let all : take l.equation-index xs ≡ xs = take_all l.equation-index xs (omega (arith, c.loop-equation-test.false, l.auto.equation-index-end)) in
    least_alone w n (s ++ equations_at xs) l.so_far least.block least.root c.requires.within (subst (λ ys. IsSolvedIn w n (s ++ equations_at ys) (Some l.so_far)) all l.invariant.1) c.in_ok-least-2.ensures.rooted c.in_ok-least-2.ensures.same
