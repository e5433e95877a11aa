use Rattle.std.proofs.Common.{◌≡◌, ◌++◌, length, false, option_map}
use Rattle.patr_canon.proofs.Names.{changed, quoted_front, string_bytes}
use Rattle.patr_canon.proofs.front.unquote.Given as goal

-- what was appended, and then what is read of the rest, is what is read of all
abbrev pub invariant-loop-character : goal.invariant-loop-character
invariant-loop-character l =
    quoted_front l.fn.text false ≡ option_map (changed (λ t. string_bytes l.out ++ t)) (quoted_front l.chars.rest.now l.escaped)

abbrev pub decreases-loop-character : goal.decreases-loop-character
decreases-loop-character l = length l.chars.rest.now
