-- What the fields of a parsed sentence stand for.
use Rattle.patr_arena.specs.Sentences.{sentence_of}
use Rattle.patr_parse.specs.declared.parsed.Parsed.TheInside.{Inside}
use Rattle.patr_parse.specs.Found.{Found}

-- what the fields stand for
abbrev pub found : Inside → Found
found p = record { chart = p.chart; analyses = p.analyses.items; shown = sentence_of p.arena; decided = p.decided }
