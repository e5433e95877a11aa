use Rattle.std.proofs.Common.{◌<◌, arith, length}
use Rattle.patr_library.proofs.Names.{EntryItem, all_get}
use Rattle.patr_library.proofs.Merged.{words_more}
use Rattle.patr_library.proofs.making.words.Goals as goal

pub word_of-requires : goal.word_of-requires
word_of-requires c = all_get (λ (i : EntryItem). i.entry < length c.args.lexicon.now) c.args.entries.now c.loop-item.item-index _ c.requires (omega (arith, c.loop-item-test.true))

pub loop-item-preserved : goal.loop-item-preserved
loop-item-preserved c =
    rw c.in_ok-push.ensures.items
    (words_more c.args.lexicon.now c.args.entries.now c.loop-item.item-index _ c.word_of.result c.loop-item.keys.items (omega (arith, c.loop-item-test.true)) c.word_of.ensures c.loop-item.invariant)
