use Rattle.std.proofs.Common.{Err, Vec, Global, subst}
use Rattle.patr_grammar.proofs.Names.{Fault, Gives, after, by_id, elements, features_seen, stage, start_place}
use Rattle.patr_grammar.specs.declared.grammar.Element.{Element}
use Rattle.patr_grammar.specs.declared.reader.Refusal.{Refusal}
use Rattle.patr_grammar.proofs.FeatureMeanings.{features_refused}
use Rattle.patr_grammar.proofs.reading.features.Goals as goal

pub returns-in-Err-Refused : goal.returns-in-Err-Refused
returns-in-Err-Refused c =
    let end = after start_place c.args.text.now in
    let ls = c.args.lexemes.now in
    let rest = c.elements.new.self.rest.now in
    let read = elements by_id stage ls in
    let stops = subst (λ (f : Fault Refusal). Gives (λ (v : Vec Element Global). features_seen v.items) (Err f) rest read) c.in-Err-Refused.field-0-is c.in-Err-Refused.ensures.gives in
    record { answers = rw c.cause_at.ensures (features_refused end c.in-Err-Refused.refusal c.place_of-place.result ls rest stops c.place_of-place.ensures) }
