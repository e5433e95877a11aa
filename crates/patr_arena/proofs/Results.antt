-- What follows in either case of a result.
use Rattle.std.proofs.Common.{Result, Ok, Err, MatchResult}

pub either : {A B C : Type 0} {P : A → Type 0} {Q : B → Type 0} (r : Result A B) → MatchResult r P Q → ((x : A) → P x → C) → ((y : B) → Q y → C) → C
either (Ok x) m f g = f x m
either (Err y) m f g = g y m
