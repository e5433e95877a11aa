-- A write within what is used.
use Rattle.std.proofs.Common.{◌≡◌, ℕ, zero, suc, ◌<◌, List, [], ◌∷◌, length, length-set, take, set, ap, ◌∙◌, arith}
use Rattle.std.proofs.Math.Seq.{take-set-lt}
use Rattle.patr_scratch.specs.WithRoom.{WithRoom}

filled_same : {T : Type 0} {a b : List T} {m n : ℕ} → a ≡ b → m ≡ n → (let v : WithRoom T = record { list = a; room = m } in v) ≡ record { list = b; room = n }
filled_same p q = cc

length_take : {T : Type 0} (used : ℕ) (items : List T) (k : ℕ) → k < length (take used items) → k < used
length_take zero items k h = absurd (omega (arith, h))
length_take (suc used) [] k h = absurd (omega (arith, h))
length_take (suc used) (x ∷ xs) zero h = omega arith
length_take (suc used) (x ∷ xs) (suc k) h = let r = length_take used xs k (omega (arith, h)) in omega (arith, r)

pub set_view : {T : Type 0} (items : List T) (used at : ℕ) (item : T) (now : WithRoom T) → (let v : WithRoom T = record { list = take used items; room = length items } in v) ≡ now → at < length now.list
    → (let v : WithRoom T = record { list = take used (set items at item); room = length (set items at item) } in v) ≡ record { list = set now.list at item; room = now.room }
set_view {T} items used at item now e l =
    let el : take used items ≡ now.list = ap (λ (v : WithRoom T). v.list) e in
    let er : length items ≡ now.room = ap (λ (v : WithRoom T). v.room) e in
    let lu : at < length (take used items) = omega (arith, l, ap length el) in
    filled_same (take-set-lt used items at item (length_take used items at lu) ∙ ap (λ us. set us at item) el) (length-set items at item ∙ er)
