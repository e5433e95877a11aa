use Rattle.std.proofs.Common.{◌++◌, ◌∷◌, [], flat_map, ap, ◌∙◌, append_assoc}
use Rattle.patr_canon.proofs.Names.{escaped, if_ok_is, string_bytes}
use lib.Utf8.{encode, encodes}
use Rattle.patr_canon.proofs.Quoted.{quoted_more, text_more, text_all}
use Rattle.patr_canon.proofs.printed.write_quoted.Goals as goal

pub loop-character-preserved : goal.loop-character-preserved
loop-character-preserved c = (
  quoted_more (string_bytes c.args.out.now) (string_bytes c.loop-character.out) (string_bytes c.write_escaped.new.out) c.loop-character.yielded c.in-Some.character c.loop-character.invariant.0 c.in_ok-write_escaped.ensures,
  text_more c.args.text.now c.loop-character.character-iterator.rest.now c.next.new.self.rest.now c.loop-character.yielded c.in-Some.character c.loop-character.invariant.1 c.in-Some.ensures.steps.0,
)

pub returns : goal.returns
unfolding encode
returns c =
    let all = text_all c.args.text.now c.loop-character.character-iterator.rest.now c.loop-character.yielded c.loop-character.invariant.1 c.in-None.ensures.steps.0.0 in
    let old = string_bytes c.args.out.now in
    if_ok_is c.push-2.result (string_bytes c.push-2.new.self) (string_bytes c.loop-character.out ++ encode 34) (string_bytes c.loop-character.out) (old ++ 34 ∷ (flat_map escaped c.args.text.now ++ 34 ∷ []))
    c.push-2.ensures.bytes
    (ap (λ l. l ++ 34 ∷ []) c.loop-character.invariant.0 ∙ (append_assoc old (34 ∷ flat_map escaped (encodes c.loop-character.yielded)) (34 ∷ []) ∙ ap (λ l. old ++ 34 ∷ (flat_map escaped l ++ 34 ∷ [])) all))
