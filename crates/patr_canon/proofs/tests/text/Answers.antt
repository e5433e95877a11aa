use Rattle.std.proofs.Common.{length}
use Rattle.patr_canon.proofs.Names.{Node, number_of, shown_of}
use Rattle.patr_canon.proofs.Spelled.{spelled_more}
use Rattle.patr_canon.proofs.tests.text.Goals as goal

pub write_canonical-requires-clause-spelled : goal.write_canonical-requires-clause-spelled
write_canonical-requires-clause-spelled c =
    let v = shown_of c.args.arena.now in
    spelled_more 44 (length c.args.symbols.now) v.structure (Node (number_of v 0 c.args.offset)) c.requires.symbols (c.requires.spelled (number_of v 0 c.args.offset))
