use Rattle.std.proofs.Common.{ℕ, ◌≡◌, ◌<◌, ◌^◌, ◌++◌, ◌∷◌, [], List, lit<, arith, sym, ap, ◌∙◌, append_assoc}
use Rattle.std.specs.Fmt.{decimal}
use Rattle.patr_canon.proofs.Names.{numeral, string_bytes}
use Rattle.patr_model.proofs.Bare.{printing}
use Rattle.patr_canon.proofs.text.write_number.Goals as goal

behind : (old mark mid new : List ℕ) (n : ℕ) → 0 < n → n < 2 ^ 64 → new ≡ mid ++ decimal n → mid ≡ old ++ mark → mark ≡ 35 ∷ [] → new ≡ old ++ 35 ∷ numeral n
behind old mark mid new n pos fits h k m =
    h ∙ (ap (λ t. t ++ decimal n) (k ∙ ap (λ t. old ++ t) m) ∙ (append_assoc old (35 ∷ []) (decimal n) ∙ ap (λ t. old ++ 35 ∷ t) (sym (printing.number n pos fits))))

pub returns : goal.returns
returns c = behind (string_bytes c.args.out.now) _ (string_bytes c.push.new.self) (string_bytes c.write.new.self) c.args.number c.requires (omega arith) c.in_ok-write.ensures.bytes c.in_ok-push.ensures.bytes (c.in_ok-push.ensures.ascii (lit< tt))
