-- What the adapters over std show.
use Rattle.std.specs.Prelude.{ℕ, List, Option, string_bytes}
use Rattle.std.specs.Option.{option_map}
use Rattle.patr_io.specs.declared.std_source.StdSource.{StdSource}
use Rattle.patr_io.specs.declared.std_sink.StdSink.{StdSink}
use Rattle.patr_io.specs.declared.file_shelf.FileShelf.{FileShelf}

-- the reader below a source
abbrev pub source_reader : {R : Type 0} → StdSource R → R
source_reader source = source.reader

-- how often the reader below a source has failed
abbrev pub reader_faults : {R : Type 0} → StdSource R → ℕ
reader_faults source = source.faults

-- the writer below a sink
abbrev pub sink_writer : {W : Type 0} → StdSink W → W
sink_writer sink = sink.writer

-- how often the writer below a sink has failed
abbrev pub writer_faults : {W : Type 0} → StdSink W → ℕ
writer_faults sink = sink.faults

-- how often a shelf of files has failed
abbrev pub files_faults : {D : Type 0} → FileShelf D → ℕ
files_faults shelf = shelf.faults

-- the name of the last load of a shelf of files that failed, none where none did
abbrev pub files_failed_name : {D : Type 0} → FileShelf D → Option (List ℕ)
files_failed_name shelf = option_map string_bytes shelf.failed_name
