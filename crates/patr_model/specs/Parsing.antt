-- Productions: what each reads from the front of tokens, or the first refusal.
use Rattle.std.specs.Prelude.{ℕ, zero, suc, List, [], ◌∷◌, length, Bool, cond}
use Rattle.patr_model.specs.declared.notation.What.{What}

-- why a token, or the end, is refused; a name that was given before is of the type W
pub data Refusal (W : Type 0) : Type 0 where
  Expected : What → Refusal W
  NotAConstituent : Refusal W
  TwiceNamed : W → Refusal W
  PathTooLong : Refusal W
  TooManySymbols : Refusal W
  TooManyPaths : Refusal W
  TooDeep : Refusal W
  LaterForm : Refusal W

-- A thing and what is left, or a refusal and the tokens from its place on: it stands at the first of these, or at the end where there are none.
pub data Parse (T W S X : Type 0) : Type 0 where
  Got : X → S → Parse T W S X
  Stops : Refusal W → List T → Parse T W S X

-- one reading, and then another over what it left
infixl 10 ◌>>=◌
abbrev pub ◌>>=◌ : {T W S R X Y : Type 0} → Parse T W S X → (X → S → Parse T W R Y) → Parse T W R Y
(Got x s) >>= f = f x s
(Stops r ts) >>= f = Stops r ts

-- a production reads from the tokens
abbrev pub Reads : Type 0 → Type 0 → Type 0 → Type 0
Reads T W X = List T → Parse T W (List T) X

-- one token that passes the test
abbrev pub one : {T W : Type 0} → (T → Bool) → What → Reads T W T
one test what [] = Stops (Expected what) []
one test what (t ∷ ts) = cond (test t) (Got t ts) (Stops (Expected what) (t ∷ ts))

-- without one token that passes the test, where there is one
abbrev pub maybe : {T : Type 0} → (T → Bool) → List T → List T
maybe test [] = []
maybe test (t ∷ ts) = cond (test t) ts (t ∷ ts)

-- things while one may begin, at most so many
unfoldable pub many : {T W X : Type 0} → ℕ → (List T → Bool) → Reads T W X → Reads T W (List X)
many zero starts item ts = Got [] ts
many (suc n) starts item ts = cond (starts ts) (item ts >>= λ x rest. many n starts item rest >>= λ xs rest'. Got (x ∷ xs) rest') (Got [] ts)

-- any number of things
abbrev pub star : {T W X : Type 0} → (List T → Bool) → Reads T W X → Reads T W (List X)
star starts item ts = many (length ts) starts item ts

-- one thing at least
abbrev pub plus : {T W X : Type 0} → (List T → Bool) → Reads T W X → Reads T W (List X)
plus starts item ts = item ts >>= λ x rest. star starts item rest >>= λ xs rest'. Got (x ∷ xs) rest'
