use Rattle.std.proofs.Common.{sym, ◌∙◌}
use Rattle.patr_lexicon.proofs.Places.{laid_cut}
use Rattle.patr_lexicon.proofs.Cuts.{elements_cut}
use Rattle.patr_lexicon.proofs.features.Features.elements.Goals as goal

pub range-front-requires-clause-end_boundary : goal.range-front-requires-clause-end_boundary
range-front-requires-clause-end_boundary c = laid_cut c.args.text.now c.args.self.now c.utf8.text c.requires.laid

pub returns-in-Ok-clause-reads : goal.returns-in-Ok-clause-reads
returns-in-Ok-clause-reads c =
    let read = elements_cut c.args.text.now c.range-front.result.now c.args.self.now c.in_ok-tokens.tokens.items c.deref.result.now c.requires.laid c.range-front.ensures.value c.in_ok-tokens.ensures c.deref.ensures.value in
    let r = c.in-Ok.ensures.reads in
    (r.0, sym read ∙ r.1, r.2)

pub cause_of-requires : goal.cause_of-requires
cause_of-requires c = (c.range-front.result.now, c.deref.result.now, rw c.in-Err-Refused.field-0-is at c.in-Err-Refused.ensures.refused)

pub returns-clause-refused : goal.returns-clause-refused
returns-clause-refused c =
    let front = c.range-front.result.now in
    let ts = c.deref.result.now in
    let read = elements_cut c.args.text.now front c.args.self.now c.in_ok-tokens.tokens.items ts c.requires.laid c.range-front.ensures.value c.in_ok-tokens.ensures c.deref.ensures.value in
    let f = c.cause_of.ensures front ts (rw c.in-Err-Refused.field-0-is at c.in-Err-Refused.ensures.refused) in
    (f.0, f.1, sym read ∙ f.2)
