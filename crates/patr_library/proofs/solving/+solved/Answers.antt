use Rattle.std.proofs.Common.{◌<◌, ◌++◌, rules, sym, subst}
use Rattle.patr_library.proofs.Names.{AreWithin, equation_at, equations_at, HasNone, IsLeastAt, IsSolved, slots_of, stated_of}
use Rattle.patr_library.proofs.Steps.{none_still}
use Rattle.patr_library.proofs.Parts.{cut_at, none_of_back}
use Rattle.patr_library.proofs.solving.+solved.Goals as goal

pub solved-requires : goal.solved-requires
solved-requires t c =
    let n = slots_of c.args.start in
    let s = stated_of c.args.start in
    let cut = cut_at equation_at n s c.args.equations.now c.split_at.result.0.now c.split_at.result.1.now _ c.split_at.ensures.front c.split_at.ensures.back c.requires.within in
    let within : AreWithin n (s ++ equations_at c.split_at.result.0.now) = cut.left in
    search rules

pub solved-requires-2 : goal.solved-requires-2
solved-requires-2 t c =
    let n = slots_of c.args.start in
    let back = equations_at c.split_at.result.1.now in
    let rest = c.without_facts.result in
    let cut = cut_at equation_at n (stated_of c.args.start) c.args.equations.now c.split_at.result.0.now c.split_at.result.1.now _ c.split_at.ensures.front c.split_at.ensures.back c.requires.within in
    let any : 0 < slots_of rest = subst (λ m. 0 < m) (sym c.without_facts.ensures.slots) c.requires.any in
    let within : AreWithin (slots_of rest) (stated_of rest ++ back) =
    subst (λ m. AreWithin m (stated_of rest ++ back)) (sym c.without_facts.ensures.slots) (subst (λ s. AreWithin n (s ++ back)) (sym c.without_facts.ensures.stated) cut.right) in
    search rules

pub returns-in_default : goal.returns-in_default
returns-in_default t c =
    let n = slots_of c.args.start in
    let s = stated_of c.args.start in
    let front = equations_at c.split_at.result.0.now in
    let back = equations_at c.split_at.result.1.now in
    let cut = cut_at equation_at n s c.args.equations.now c.split_at.result.0.now c.split_at.result.1.now _ c.split_at.ensures.front c.split_at.ensures.back c.requires.within in
    let none : HasNone n (s ++ front) = subst (IsSolved n (s ++ front)) c.in_default.is c.in_ok-left.ensures in
    subst (HasNone n) cut.is (none_still n (s ++ front) back none)

pub returns-in_default-2 : goal.returns-in_default-2
returns-in_default-2 t c =
    let n = slots_of c.args.start in
    let s = stated_of c.args.start in
    let front = equations_at c.split_at.result.0.now in
    let back = equations_at c.split_at.result.1.now in
    let rest = c.without_facts.result in
    let cut = cut_at equation_at n s c.args.equations.now c.split_at.result.0.now c.split_at.result.1.now _ c.split_at.ensures.front c.split_at.ensures.back c.requires.within in
    let none : HasNone (slots_of rest) (stated_of rest ++ back) = subst (IsSolved (slots_of rest) (stated_of rest ++ back)) c.in_default-2.is c.in_ok-right.ensures in
    subst (HasNone n) cut.is (none_of_back n (s ++ front) back (subst (λ m. HasNone m back) c.without_facts.ensures.slots (subst (λ l. HasNone (slots_of rest) (l ++ back)) c.without_facts.ensures.stated none)))

pub unified-requires-clause-left : goal.unified-requires-clause-left
unified-requires-clause-left t c =
    let n = slots_of c.args.start in
    let s = stated_of c.args.start in
    let front = equations_at c.split_at.result.0.now in
    let cut = cut_at equation_at n s c.args.equations.now c.split_at.result.0.now c.split_at.result.1.now _ c.split_at.ensures.front c.split_at.ensures.back c.requires.within in
    let left : IsLeastAt n (s ++ front) c.in-Some.left.block c.in-Some.left.root = subst (IsSolved n (s ++ front)) c.in-Some.is c.in_ok-left.ensures in
    (n, s ++ front, (c.requires.any, cut.left, left))

pub unified-requires-clause-right : goal.unified-requires-clause-right
unified-requires-clause-right t c =
    let rest = c.without_facts.result in
    let right : IsLeastAt (slots_of rest) (stated_of rest ++ equations_at c.split_at.result.1.now) c.in-Some-2.right.block c.in-Some-2.right.root =
    subst (IsSolved (slots_of rest) (stated_of rest ++ equations_at c.split_at.result.1.now)) c.in-Some-2.is c.in_ok-right.ensures in
    right.rooted

pub returns : goal.returns
returns t c =
    let n = slots_of c.args.start in
    let s = stated_of c.args.start in
    let front = equations_at c.split_at.result.0.now in
    let back = equations_at c.split_at.result.1.now in
    let rest = c.without_facts.result in
    let left = c.in-Some.left in
    let right = c.in-Some-2.right in
    let cut = cut_at equation_at n s c.args.equations.now c.split_at.result.0.now c.split_at.result.1.now _ c.split_at.ensures.front c.split_at.ensures.back c.requires.within in
    let a : IsLeastAt n (s ++ front) left.block left.root = subst (IsSolved n (s ++ front)) c.in-Some.is c.in_ok-left.ensures in
    let b : IsLeastAt (slots_of rest) (stated_of rest ++ back) right.block right.root = subst (IsSolved (slots_of rest) (stated_of rest ++ back)) c.in-Some-2.is c.in_ok-right.ensures in
    let d : IsLeastAt n back right.block right.root =
    subst (λ m. IsLeastAt m back right.block right.root) c.without_facts.ensures.slots (subst (λ l. IsLeastAt (slots_of rest) (l ++ back) right.block right.root) c.without_facts.ensures.stated b) in
    subst (λ es. IsSolved n es c.in_ok-made.made) cut.is (c.in_ok-made.ensures n (s ++ front) back (c.requires.any, cut.left, a) cut.right d)
