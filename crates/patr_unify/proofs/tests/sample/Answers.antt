use Rattle.patr_unify.proofs.tests.sample.Goals as goal

pub arena_of-requires : goal.arena_of-requires
arena_of-requires c =
    c.in_ok-add-9.ensures.1 (c.in_ok-add-8.ensures.1 (c.in_ok-add-7.ensures.1 (c.in_ok-add-6.ensures.1 (c.in_ok-add-5.ensures.1 (c.in_ok-add-4.ensures.1 (c.in_ok-add-3.ensures.1 (c.in_ok-add-2.ensures.1 (c.in_ok-add.ensures.1 c.in_ok-block.ensures.own))))))))
