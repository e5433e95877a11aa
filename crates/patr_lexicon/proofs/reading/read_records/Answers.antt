use Rattle.std.proofs.Common.{◌+◌, ◌≤◌, [], Ok, length, Option, Some, refl, sym, ap, ◌∙◌, subst, arith, rules}
use Rattle.patr_lexicon.proofs.Names.{err_from_is_err_and, bad_token, numbered, rest_len, rest_lines, FailsFor, IsKept, ended_before, record_of, most_texts_of}
use Rattle.patr_model.specs.LexiconLines.{comments_after}
use Rattle.patr_lexicon.specs.declared.record.Record.{Record}
use Rattle.patr_lexicon.proofs.Places.{first_begins, line_stands, next_begins, record_later}
use Rattle.patr_lexicon.proofs.Steps.{is_clean, none_read, line_fails, line_read, line_kept, kept_read, fails_behind, last_read, next_read, all_read}
use Rattle.patr_lexicon.proofs.reading.read_records.Goals as goal

pub lines-init : goal.lines-init
lines-init c = record {
  read = rw c.new-entries.ensures.items (none_read c.args.symbols.now c.args.text.now);
  line = omega arith;
  begins = first_begins c.args.text.now c.utf8.text;
  laid = tt;
  utf8 = c.utf8.text;
  clean = refl;
}

pub keep-requires-clause-laid : goal.keep-requires-clause-laid
keep-requires-clause-laid c =
    let stands = line_stands _ _ _ _ _ _ c.lines.invariant.begins c.cut_line.ensures.cut c.cut_line.ensures.no_lf in
    record_later _ _ _ _ stands.ends.0 (c.in_ok-next.ensures.laid _ stands c.lines.invariant.laid).0

pub keep-requires-in_default-behind-clause-laid : goal.keep-requires-in_default-behind-clause-laid
keep-requires-in_default-behind-clause-laid c =
    let stands = line_stands _ _ _ _ _ _ c.lines.invariant.begins c.cut_line.ensures.cut c.cut_line.ensures.no_lf in
    rw c.record.ensures (record_later _ _ _ _ stands.ends.0 (c.in_ok-next.ensures.laid _ stands c.lines.invariant.laid).1)

pub returns-in_err-next-clause-refused : goal.returns-in_err-next-clause-refused
returns-in_err-next-clause-refused c =
    let p = err_from_is_err_and c.from_residual.result c.from_residual.ensures.1 in
    rw (p.1, p.2) (λ _. line_fails _ _ _ _ _ _ c.lines.rest.now _ _ c.cut_line.ensures.lines _ _ c.lines.invariant.read c.in_err-next.ensures.reads)

pub returns-in_err-keep-clause-refused : goal.returns-in_err-keep-clause-refused
returns-in_err-keep-clause-refused c =
    let read = line_read _ _ _ _ _ _ c.lines.rest.now _ _ c.cut_line.ensures.lines _ _ c.lines.invariant.read c.in_ok-next.ensures.reads c.in_ok-next.ensures.most_texts c.cut_line.ensures.len in
    let p = err_from_is_err_and c.from_residual-in_err-keep.result c.from_residual-in_err-keep.ensures.1 in
    rw (p.1, p.2) (λ _. fails_behind _ _ _ _ _ _ _ read (c.in_err-keep.ensures.refused _))

pub returns-in_err-keep-2-clause-refused : goal.returns-in_err-keep-2-clause-refused
returns-in_err-keep-2-clause-refused c =
    let read = c.in_ok-next.ensures in
    let keeps = c.in_ok-keep.ensures in
    let kept = line_kept _ _ _ _ _ _ c.lines.rest.now _ _ c.cut_line.ensures.lines _ _ _ _ c.lines.invariant.read read.reads read.most_texts c.cut_line.ensures.len keeps.extends keeps.growth keeps.kept in
    let fails = subst (λ (r : Option Record). FailsFor (ended_before r (Ok [])) c.in_err-keep-2.field-0.0) c.record.ensures (c.in_err-keep-2.ensures.refused (Ok [])) in
    let p = err_from_is_err_and c.from_residual-in_err-keep-2.result c.from_residual-in_err-keep-2.ensures.1 in
    rw (p.1, p.2) (λ _. fails_behind _ _ _ _ _ _ _ (last_read _ _ _ _ c.in_ok-next.field-0.state c.lines.number _ c.in_default-behind.is kept) fails)

pub returns-in_default-behind-clause-reads : goal.returns-in_default-behind-clause-reads
returns-in_default-behind-clause-reads c =
    let read = c.in_ok-next.ensures in
    let keeps = c.in_ok-keep.ensures in
    let last = c.in_ok-keep-2.ensures in
    let kept = line_kept _ _ _ _ _ _ c.lines.rest.now _ _ c.cut_line.ensures.lines _ _ _ _ c.lines.invariant.read read.reads read.most_texts c.cut_line.ensures.len keeps.extends keeps.growth keeps.kept in
    let growth = subst (λ (r : Option Record). length c.keep-in_default-behind.new.symbols ≤ length c.keep.new.symbols + most_texts_of r) c.record.ensures last.growth in
    let new_kept = subst (IsKept c.keep-in_default-behind.new.symbols c.keep.new.entries.items c.keep-in_default-behind.new.entries.items) c.record.ensures last.kept in
    all_read _ _ _ _ 0 (kept_read _ _ _ _ _ _ _ _ _ (last_read _ _ _ _ c.in_ok-next.field-0.state c.lines.number _ c.in_default-behind.is kept) last.extends growth new_kept)

pub lines-preserved : goal.lines-preserved
lines-preserved c =
    let l = c.lines in
    let line = c.cut_line.result.0.now in
    let cut = c.cut_line.ensures in
    let read = c.in_ok-next.ensures in
    let keeps = c.in_ok-keep.ensures in
    let stands = line_stands _ _ _ _ _ _ l.invariant.begins cut.cut cut.no_lf in
    record {
      read = next_read _ _ _ _ _ _ _ c.in-Some-behind.behind c.in-Some-behind.is (line_kept _ _ _ _ _ _ c.lines.rest.now _ _ cut.lines _ _ _ _ l.invariant.read read.reads read.most_texts cut.len keeps.extends keeps.growth keeps.kept);
      line = omega (arith, l.invariant.line, cut.len, ap rest_len c.in-Some-behind.is);
      begins = next_begins _ _ _ _ _ _ l.invariant.begins cut.cut cut.no_lf c.utf8.text c.in-Some-behind.behind c.in-Some-behind.is;
      laid = record_later _ (l.start + length line) (l.start + (length line + 1)) (record_of c.in_ok-next.field-0.state) (omega arith) (read.laid _ stands l.invariant.laid).1;
      utf8 = search rules;
      clean =
          is_clean c.args.text.now l.comments l.number l.rest.now line c.cut_line.result.1 c.kind_of-kind.result c.bad_in.result cut.lines c.kind_of-kind.ensures.kind c.bad_in.ensures l.invariant.clean c.in_default.is
          ∙ ap (λ b. bad_token (comments_after l.comments c.kind_of-kind.result) (numbered (l.number + 1) (rest_lines b))) c.in-Some-behind.is
          ∙ ap (λ t. bad_token t (numbered (l.number + 1) (rest_lines (Some c.in-Some-behind.behind)))) (sym c.comments_after-comments.ensures);
    }
