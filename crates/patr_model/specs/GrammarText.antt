-- The grammars that bytes stand for, and the faults of the others.
use Rattle.std.specs.Prelude.{◌≡◌, ℕ, List, [], ◌∷◌, ◌++◌, Ok, Err, IsUtf8, codes, decimal}
use Rattle.patr_model.specs.declared.notation.What.{What}
use Rattle.patr_model.specs.declared.notation.What.TheVariants as what
use Rattle.patr_model.specs.Tokens.{Place, Token, Scanned, after, start_place, tokens_of}
use Rattle.patr_model.specs.Lexemes.{by_text}
use Rattle.patr_model.specs.Parsing.{Refusal, Expected, NotAConstituent, TwiceNamed, PathTooLong, TooManySymbols, TooManyPaths, TooDeep, LaterForm}
use Rattle.patr_model.specs.Stages.{Stage}
use Rattle.patr_model.specs.Productions as production
use Rattle.patr_model.specs.Productions.{Grammar, Outcome, grammar}
use Rattle.patr_model.specs.Faults.{FileFault, NotText, Misread, RefusesBytes, of_file, at_place}

-- what a text is read as
pub data Reading : Type 0 where
  Reads : Grammar (List ℕ) → Reading
  BadToken : Place → Reading
  Refused : Refusal (List ℕ) → Place → Reading
  NoRules : Reading

-- the place of the first of these tokens, or of the end
abbrev pub place_of : Place → List Token → Place
place_of end [] = end
place_of end (t ∷ ts) = t.place

-- what a text is read as, by what its tokens stand for: a refusal is at the token that was refused, or at the end
abbrev pub of_outcome : Place → Outcome Token (List ℕ) → Reading
of_outcome end (production.Stands g) = Reads g
of_outcome end production.NoRules = NoRules
of_outcome end (production.Refused r rest) = Refused r (place_of end rest)

-- what a text is read as: what its tokens stand for, or a bad character at the place where the scan stopped
abbrev pub of_scanned : Stage → Place → Scanned → Reading
of_scanned s end (Ok ts) = of_outcome end (grammar by_text s (codes "cat") ts)
of_scanned s end (Err p) = BadToken p

-- what the bytes of a text are read as
abbrev pub reading : Stage → List ℕ → Reading
reading s bytes = of_scanned s (after start_place bytes) (tokens_of bytes)

-- the bytes stand for this grammar
abbrev pub ReadsGrammar : Stage → List ℕ → Grammar (List ℕ) → Type 0
ReadsGrammar s bytes g = IsUtf8 bytes × (reading s bytes ≡ Reads g)

-- it is a grammar that was read
abbrev pub IsRead : Reading → Type 0
IsRead (Reads g) = Unit {0}
IsRead _ = ⊥

-- why bytes stand for no grammar
abbrev pub GrammarFault : Type 0
GrammarFault = FileFault Reading

-- the bytes stand for no grammar, for this reason
abbrev pub RefusesGrammar : Stage → List ℕ → GrammarFault → Type 0
RefusesGrammar s = RefusesBytes (reading s) IsRead

-- ---- fault lines

-- what is expected, as it is told
abbrev pub what_text : What → List ℕ
what_text what.Clause = codes "a clause"
what_text what.Symbol = codes "a symbol"
what_text what.Arrow = codes "'->'"
what_text what.CloseBrace = codes "'}'"
what_text what.CloseParen = codes "')'"
what_text what.Name = codes "a name"
what_text what.Be = codes "'be'"
what_text what.As = codes "'as'"
what_text what.EquationOrName = codes "an equation or a name"
what_text what.Equation = codes "an equation"
what_text what.Attribute = codes "an attribute"
what_text what.Greater = codes "'>'"
what_text what.Equal = codes "'='"
what_text what.PathOrAtom = codes "a path or an atom"
what_text what.Parameter = codes "a parameter"
what_text what.SymbolWord = codes "'symbol'"
what_text what.OrderWord = codes "'order'"
what_text what.Is = codes "'is'"
what_text what.Path = codes "a path"

-- a refusal, as it is told
abbrev pub refusal_text : Refusal (List ℕ) → List ℕ
refusal_text (Expected x) = codes "expected " ++ what_text x
refusal_text NotAConstituent = codes "not a constituent"
refusal_text (TwiceNamed name) = codes "name given twice: " ++ name
refusal_text PathTooLong = codes "path too long"
refusal_text TooManySymbols = codes "too many symbols"
refusal_text TooManyPaths = codes "too many paths"
refusal_text TooDeep = codes "too deep"
refusal_text LaterForm = codes "not built yet"

-- the fault line of a text that is read as no grammar
abbrev pub misread_line : Reading → List ℕ
misread_line (Reads g) = []
misread_line (BadToken p) = at_place (codes "grammar") p (codes "bad character")
misread_line (Refused r p) = at_place (codes "grammar") p (refusal_text r)
misread_line NoRules = of_file (codes "grammar") (codes "no rules")

-- the fault line of a grammar
abbrev pub grammar_fault_line : GrammarFault → List ℕ
grammar_fault_line (NotText n) = of_file (codes "grammar") (codes "not UTF-8 at byte " ++ decimal n)
grammar_fault_line (Misread r) = misread_line r

-- the bytes stand for no grammar, and have this fault line
abbrev pub HasGrammarFault : Stage → List ℕ → List ℕ → Type 0
HasGrammarFault s bytes text = (fault : GrammarFault) × RefusesGrammar s bytes fault × (text ≡ grammar_fault_line fault)
