-- The edges of the chart of n words over the two generated rules, as a list.
--     leaf i            the i-th word
--     rule r i          the rule r, which has begun at the position i
--     active i          the first rule behind the i-th word
--     tree d i          the sentence of the i-th word and d more
--     all_edges n       all of them for n words
use Rattle.std.specs.Prelude.{ℕ, zero, suc, List, [], ◌∷◌, ◌++◌}
use Rattle.patr_model.specs.Derivation.{Derivation, Leaf, Begin, Extend}

-- the i-th word
abbrev pub leaf : ℕ → Derivation
leaf i = Leaf i 0 i (suc i)

-- a rule that has begun
abbrev pub rule : ℕ → ℕ → Derivation
rule r i = Begin r 0 i

-- the first rule, behind its word
abbrev pub active : ℕ → Derivation
active i = Extend (rule 0 i) (leaf i)

-- the sentence of the word i and d more: of one word by the second rule, and of more by the first
abbrev pub tree : ℕ → ℕ → Derivation
tree zero i = Extend (rule 1 i) (leaf i)
tree (suc d) i = Extend (active i) (tree d (suc i))

-- the first n of them, the last first
abbrev pub each : (ℕ → Derivation) → ℕ → List Derivation
each f zero = []
each f (suc n) = f n ∷ each f n

-- the sentences of two words or more, m words from the i-th on
abbrev pub longer : ℕ → ℕ → List Derivation
longer i zero = []
longer i (suc m) = each (λ d. tree (suc d) i) m ++ longer (suc i) m

-- the words, both rules at each position, the first one behind each word, and the sentences
abbrev pub all_edges : ℕ → List Derivation
all_edges n =
    each leaf n ++ (each (rule 0) (suc n) ++ (each (rule 1) (suc n)
    ++ (each active n ++ (each (tree 0) n ++ longer 0 n))))
