use Rattle.std.proofs.Common.{refl}
use Rattle.patr_lexicon.proofs.Names.{EntryText, gloss_of, extends_trans, record_seen}
use Rattle.patr_lexicon.proofs.Grown.{held_text, entry_held}
use Rattle.patr_lexicon.proofs.States.{closed_good}
use Rattle.patr_lexicon.proofs.record.Record.entry.Goals as goal

pub returns-in_err-features-clause-extends : goal.returns-in_err-features-clause-extends
returns-in_err-features-clause-extends c =
    held_text c.args.symbols.now c.intern.new.self c.elements.new.symbols _ c.in_ok-word.ensures.texts (held_text c.intern.new.self c.intern-2.new.self c.elements.new.symbols _ c.in_ok-category.ensures.texts (extends_trans c.intern-2.new.self c.gloss_id.new.symbols c.elements.new.symbols c.in_ok-gloss.ensures.extends c.in_err-features.ensures.extends))

pub returns-clause-extends : goal.returns-clause-extends
returns-clause-extends c =
    held_text c.args.symbols.now c.intern.new.self c.elements.new.symbols _ c.in_ok-word.ensures.texts (held_text c.intern.new.self c.intern-2.new.self c.elements.new.symbols _ c.in_ok-category.ensures.texts (extends_trans c.intern-2.new.self c.gloss_id.new.symbols c.elements.new.symbols c.in_ok-gloss.ensures.extends c.in_ok-features.ensures.extends))

pub returns-clause-reads : goal.returns-clause-reads
returns-clause-reads c =
    let o = record_seen c.args.self.now in
    let w = c.in-Ok.texts.0.now in
    let v = c.in-Ok.texts.1.now in
    let read = c.in_ok-features.ensures.reads in
    let t : EntryText = record { line = o.line; word = w; category = v; gloss = gloss_of o.gloss; features = read.0 } in
    let words = c.intern.new.self in
    let categories = c.intern-2.new.self in
    let glosses = c.gloss_id.new.symbols in
    let new = c.elements.new.symbols in
    let behind = extends_trans categories glosses new c.in_ok-gloss.ensures.extends c.in_ok-features.ensures.extends in (
      t,
      closed_good o w v c.in-Ok.ensures.0 c.in-Ok.ensures.1 read.0 read.1,
      entry_held (record { line = o.line; word = c.in_ok-word.word; category = c.in_ok-category.category; gloss = c.in_ok-gloss.gloss; features = c.in_ok-features.features }) t words categories glosses new (held_text words categories new v c.in_ok-category.ensures.texts behind) behind c.in_ok-features.ensures.extends refl c.in_ok-word.ensures.number c.in_ok-category.ensures.number
          (rw c.as_str.ensures at c.in_ok-gloss.ensures.number) read.2,
    )
