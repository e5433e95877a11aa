use Rattle.std.proofs.Common.{length}
use Rattle.patr_reply.proofs.Names.{string_bytes}
use Rattle.patr_reply.proofs.KnownWords.{of_parsed}
use Rattle.patr_reply.proofs.Listing.{lists_all}
use Rattle.patr_reply.proofs.Sounding.{table_long, are_of_library, all_ready}
use Rattle.patr_reply.proofs.sentence.reply.Goals as goal

pub listed-requires-clause-roots : goal.listed-requires-clause-roots
listed-requires-clause-roots g c =
    let table = c.args.symbols.now in
    let p = c.args.parsed.now in
    rw c.chart-chart.ensures (are_of_library (length table) (table_long table c.len-count.ensures.first) c.args.library.now c.requires.held p.shown p.chart.edges c.requires.sound.2.edges)

pub listed-requires-clause-ready : goal.listed-requires-clause-ready
listed-requires-clause-ready g c =
    let table = c.args.symbols.now in
    let p = c.args.parsed.now in
    let sound = c.requires.sound.2 in
    rw (c.requires.shown, c.chart-chart.ensures, c.analyses.ensures)
    (all_ready (length table) (table_long table c.len-count.ensures.first) c.args.library.now c.requires.held p.shown p.chart.edges sound.edges c.requires.sound.0 33 p.analyses sound.within sound.each)

pub returns-clause-listed : goal.returns-clause-listed
returns-clause-listed g c = λ ws limit names sound agrees.
    lists_all c.args.library.now c.args.symbols.now c.len-count.ensures.first c.requires.held c.args.parsed.now names agrees ws limit sound c.args.features c.args.count
    (string_bytes c.in_ok-text.text) (string_bytes c.write_count.new.out)
    (rw (c.requires.shown, c.chart-chart.ensures, c.analyses.ensures) at (c.in_ok-text.ensures names agrees)) (rw c.chart-chart.ensures at c.in_ok-write_count.ensures)

pub returns-clause-sentence : goal.returns-clause-sentence
returns-clause-sentence g c = λ words limit names parsed agrees.
    of_parsed c.args.library.now c.args.symbols.now names agrees c.requires.held c.len-count.ensures.first words limit c.args.features c.args.count (string_bytes c.write_count.new.out) c.args.parsed.now parsed
    (returns-clause-listed g c parsed.numbers limit names parsed.sound agrees)
