use Rattle.std.proofs.Common.{◌≡◌, ◌++◌, ◌∷◌, ℕ, List, true, false, Bool, option_map, sym, ap, ◌∙◌, subst}
use Rattle.patr_canon.proofs.Names.{changed, quoted_front, string_bytes}
use lib.Utf8.{encode}
use Rattle.patr_canon.proofs.Fronts.{char_plain, char_escaped, unquoted_more}
use Rattle.patr_canon.proofs.front.unquote.Goals as goal

pub loop-character-preserved-then-escaped : goal.loop-character-preserved-then-escaped
loop-character-preserved-then-escaped c =
    let next = c.next.new.self.rest.now in
    unquoted_more (string_bytes c.loop-character.out) c.loop-character.chars.rest.now next (string_bytes c.push.new.self) (encode c.in-Some.character) c.loop-character.escaped (quoted_front c.args.text.now false) c.loop-character.invariant
    (ap (quoted_front c.loop-character.chars.rest.now) c.if-escaped.true ∙ (ap (λ (l : List ℕ). quoted_front l true) c.in-Some.ensures.steps.0 ∙ char_escaped c.in-Some.character next)) c.in_ok-push.ensures.bytes

pub loop-character-preserved-then-character-eq92 : goal.loop-character-preserved-then-character-eq92
unfolding encode
loop-character-preserved-then-character-eq92 c =
    let next = c.next.new.self.rest.now in
    let out = string_bytes c.loop-character.out in
    let one : c.loop-character.chars.rest.now ≡ 92 ∷ next = c.in-Some.ensures.steps.0 ∙ ap (λ x. encode x ++ next) c.if-character-eq92.true in
    c.loop-character.invariant ∙ ap (option_map (changed (λ t. out ++ t))) (ap (quoted_front c.loop-character.chars.rest.now) c.if-escaped.false ∙ ap (λ (l : List ℕ). quoted_front l false) one)

pub loop-character-preserved : goal.loop-character-preserved
loop-character-preserved c =
    let next = c.next.new.self.rest.now in
    let plain : quoted_front c.loop-character.chars.rest.now false ≡ option_map (changed (λ t. encode c.in-Some.character ++ t)) (quoted_front next false) =
    ap (λ (l : List ℕ). quoted_front l false) c.in-Some.ensures.steps.0 ∙ char_plain c.in-Some.character next c.if-character-eq34.false c.if-character-eq92.false in
    subst (λ (e : Bool). quoted_front c.args.text.now false ≡ option_map (changed (λ t. string_bytes c.push-in-Some.new.self ++ t)) (quoted_front next e)) (sym c.if-escaped.false)
    (unquoted_more (string_bytes c.loop-character.out) c.loop-character.chars.rest.now next (string_bytes c.push-in-Some.new.self) (encode c.in-Some.character) c.loop-character.escaped (quoted_front c.args.text.now false) c.loop-character.invariant
    (ap (quoted_front c.loop-character.chars.rest.now) c.if-escaped.false ∙ plain) c.in_ok-push-2.ensures.bytes)
