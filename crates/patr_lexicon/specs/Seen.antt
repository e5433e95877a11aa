-- What an entry of the code is.
use Rattle.patr_model.specs.LexiconText.{EntryOf}
use Rattle.patr_text.specs.declared.symbols.Id.{Id}
use Rattle.patr_grammar.specs.Reading.{features_seen}
use Rattle.patr_lexicon.specs.declared.lexicon.Entry.{Entry}

-- an entry of the code
abbrev pub entry_seen : Entry → EntryOf Id
entry_seen e = record { line = e.line; word = e.word; category = e.category; gloss = e.gloss; features = features_seen e.features.items }
