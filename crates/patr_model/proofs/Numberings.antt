-- A numbering for each table: the table's texts by their places, and the others, behind them, by a number that has its text back.
use Rattle.std.proofs.Common.{◌≡◌, ℕ, zero, suc, Bool, true, false, cond, List, [], ◌∷◌, Some, refl, sym, ap, ◌∙◌, arith}
use Rattle.patr_model.specs.Bytes.{same_text}
use Rattle.patr_model.specs.Session.{Numbering, AgreesWith}
use Rattle.patr_model.specs.Table.{IsTable}
use Rattle.patr_model.proofs.Maps.{some_inj}
use Rattle.patr_model.proofs.Canonical.{same_is, same_true}

-- ---- lists of numbers, counted one after another

abbrev one_more : List ℕ → List ℕ
one_more [] = []
one_more (y ∷ ys) = suc y ∷ ys

abbrev next : List ℕ → List ℕ
next [] = 0 ∷ []
next (zero ∷ xs) = one_more (next xs)
next (suc x ∷ xs) = 0 ∷ x ∷ xs

-- the list at a place of the count
abbrev counted : ℕ → List ℕ
counted zero = []
counted (suc n) = next (counted n)

abbrev twice : ℕ → ℕ
twice zero = zero
twice (suc n) = suc (suc (twice n))

-- 2 ^ x times n
abbrev times : ℕ → ℕ → ℕ
times zero n = n
times (suc x) n = twice (times x n)

-- the place of a list
abbrev count_of : List ℕ → ℕ
count_of [] = 0
count_of (x ∷ xs) = times x (suc (twice (count_of xs)))

has_head : (xs : List ℕ) → (y : ℕ) × (ys : List ℕ) × (next xs ≡ y ∷ ys)
has_head [] = (0, [], refl)
has_head (zero ∷ xs) = let h = has_head xs in (suc h.0, h.1, ap one_more h.2)
has_head (suc x ∷ xs) = (0, x ∷ xs, refl)

next_one_more : (xs : List ℕ) → next (one_more (next xs)) ≡ 0 ∷ next xs
next_one_more xs = let h = has_head xs in ap (λ l. next (one_more l)) h.2 ∙ ap (λ l. 0 ∷ l) (sym h.2)

-- the lists at odd places, and at even ones
odd_even : (n : ℕ) → (counted (suc (twice n)) ≡ 0 ∷ counted n) × (counted (twice (suc n)) ≡ one_more (counted (suc n)))
odd_even zero = (refl, refl)
odd_even (suc n) =
    let odd = ap next (odd_even n).1 ∙ next_one_more (counted n) in
    (odd, ap next odd)

counted_times : (x n : ℕ) → (y : ℕ) × (times x (suc (twice n)) ≡ suc y) × (counted (suc y) ≡ x ∷ counted n)
counted_times zero n = (twice n, refl, (odd_even n).0)
counted_times (suc x) n = let h = counted_times x n in (suc (twice h.0), ap twice h.1, (odd_even h.0).1 ∙ ap one_more h.2)

counted_back : (xs : List ℕ) → counted (count_of xs) ≡ xs
counted_back [] = refl
counted_back (x ∷ xs) = let h = counted_times x (count_of xs) in ap counted h.1 ∙ (h.2 ∙ ap (λ l. x ∷ l) (counted_back xs))

-- ---- the numbering

abbrev table_place : List (List ℕ) → List ℕ → ℕ
table_place [] text = count_of text
table_place (t ∷ ts) text = cond (same_text t text) 0 (suc (table_place ts text))

abbrev text_at : List (List ℕ) → ℕ → List ℕ
text_at [] n = counted n
text_at (t ∷ ts) zero = t
text_at (t ∷ ts) (suc n) = text_at ts n

text_back : (table : List (List ℕ)) (text : List ℕ) → text_at table (table_place table text) ≡ text
text_back [] text = counted_back text
text_back (t ∷ ts) text = go (same_text t text) refl (text_back ts text)
  where
    go : (b : Bool) → same_text t text ≡ b → text_at ts (table_place ts text) ≡ text → text_at (t ∷ ts) (cond b 0 (suc (table_place ts text))) ≡ text
    go true q rest = same_is t text q
    go false q rest = rest

abbrev numbered : List (List ℕ) → Numbering
numbered table = record { number = table_place table; text = text_at table; back = text_back table }

rest_is_table : (t : List ℕ) (ts : List (List ℕ)) → IsTable (t ∷ ts) → IsTable ts
rest_is_table t ts is i j u e f = let s = is (suc i) (suc j) u e f in omega arith

at_its_place : (table : List (List ℕ)) → IsTable table → AgreesWith (numbered table) table
at_its_place [] is i text e = cc
at_its_place (t ∷ ts) is zero text e = ap (λ b. cond b 0 (suc (table_place ts text))) (ap (λ u. same_text u text) (some_inj t text e) ∙ same_true text)
at_its_place (t ∷ ts) is (suc i) text e = go (same_text t text) refl (at_its_place ts (rest_is_table t ts is) i text e)
  where
    go : (b : Bool) → same_text t text ≡ b → table_place ts text ≡ i → cond b 0 (suc (table_place ts text)) ≡ suc i
    go true q rest = absurd (let s = is 0 (suc i) text (ap Some (same_is t text q)) e in omega arith)
    go false q rest = ap suc rest

pub tables_are_numbered : (table : List (List ℕ)) → IsTable table → (N : Numbering) × AgreesWith N table
tables_are_numbered table is = (numbered table, at_its_place table is)
