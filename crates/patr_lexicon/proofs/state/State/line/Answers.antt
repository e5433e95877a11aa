use Rattle.std.proofs.Common.{◌≡◌, ℕ, ◌+◌, List, length, IfOk, sym, ap, ◌∙◌, subst, arith, length-drop}
use Rattle.patr_lexicon.proofs.Names.{err_from_is_err_and, kind, line_at, line_before, StandsAt, IsLaidBefore, place_at, FailsFor, goes_on, record_of}
use Rattle.patr_model.specs.declared.field.LexiconLine.{LexiconLine}
use Rattle.patr_model.specs.declared.field.LexiconLine.TheVariants.{Text}
use Rattle.patr_lexicon.proofs.Places.{stands_behind, record_later}
use Rattle.patr_lexicon.proofs.state.State.line.Goals as goal

pub returns-in_err-text-in-Text-clause-reads : goal.returns-in_err-text-in-Text-clause-reads
returns-in_err-text-in-Text-clause-reads c = λ fs.
    let p = err_from_is_err_and c.from_residual.result c.from_residual.ensures.1 in
    let e = c.in_err-text-in-Text.field-0.0 in
    let is : kind c.args.line.now ≡ Text = sym c.requires.kind ∙ c.in-Text.is in
    rw (p.1, p.2) (subst (λ (k : LexiconLine). FailsFor (goes_on c.args.self (line_before (line_at c.args.number c.args.line.now) k fs)) e) (sym is) (c.in_err-text-in-Text.ensures.reads fs))

pub returns-in-Begins-clause-laid : goal.returns-in-Begins-clause-laid
returns-in-Begins-clause-laid c = λ text stands laid.
    let n = c.in-Begins.len in
    let start = c.args.start in
    let line = c.args.line.now in
    let l = line_at c.args.number line in
    let cut = rw c.in-Begins.is at c.requires.cut in
    let slice = c.range_from.ensures.value in
    let piece = subst (λ (bs : List ℕ). StandsAt text (start + n) (record { place = place_at c.args.number (1 + n); text = bs })) (sym slice) (stands_behind text start l stands n cut) in
    let before = record_later text start (start + n) (record_of c.args.self) (omega arith) laid in
    let end : start + n + length c.range_from.result.now ≡ start + length line = omega (arith, ap length slice, length-drop n line, cut.0) in
    subst (λ (e : ℕ). IfOk c.begins.result (λ s. IsLaidBefore text e s.ended × IsLaidBefore text e (record_of s.state))) end (c.begins.ensures.laid text piece before)
