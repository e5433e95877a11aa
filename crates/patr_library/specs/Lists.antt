-- The keys by which items are found.
use Rattle.std.specs.Prelude.{ℕ, Bool, nat_eq}
use Rattle.patr_text.specs.declared.symbols.Id.{Id}

-- the symbol has this number
abbrev pub has_key : ℕ → Id → Bool
has_key key x = nat_eq x.0 key
