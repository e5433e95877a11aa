-- What stands at the front of a text, as the code gives it.
use Rattle.std.specs.Prelude.{◌≡◌, ℕ, ◌<◌, ◌≤◌, ◌^◌, List, Option, Some, None}
use Rattle.std.specs.Option.{option_map}
use denote.Ref.{Bor}
use Rattle.patr_model.specs.Reading.{Front, digits_front}

-- the text before the closing quote with what is behind it, where there is one
abbrev pub unquoted_front : List ℕ → Option (Bor (List ℕ)) → Option (Front (List ℕ))
unquoted_front t rest = option_map (λ r. record { it = t; rest = r.now }) rest

-- the number at the front with what is behind it; none where it is 2^32 at least
abbrev pub IsNumberFront : List ℕ → Option (ℕ × Bor (List ℕ)) → Type 0
IsNumberFront bs None = 2 ^ 32 ≤ (digits_front bs 0).it
IsNumberFront bs (Some r) = (digits_front bs 0 ≡ record { it = r.0; rest = r.1.now }) × (r.0 < 2 ^ 32)
