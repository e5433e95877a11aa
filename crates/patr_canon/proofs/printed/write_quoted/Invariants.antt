use Rattle.std.proofs.Common.{◌≡◌, ◌++◌, ◌∷◌, flat_map}
use Rattle.patr_canon.proofs.Names.{escaped, string_bytes}
use lib.Utf8.{encodes}
use Rattle.patr_canon.proofs.printed.write_quoted.Given as goal

abbrev pub invariant-loop-character : goal.invariant-loop-character
invariant-loop-character l =
    (string_bytes l.out ≡ string_bytes l.fn.out ++ 34 ∷ flat_map escaped (encodes l.yielded))
    × (encodes l.yielded ++ l.character-iterator.rest.now ≡ l.text)
