-- Each step of the counter of tickets keeps its rule.
use Rattle.std.proofs.Common.{◌≡◌, ℕ, zero, suc, ◌+◌, ◌*◌, ◌%◌, ◌^◌, ◌<◌, ◌≤◌, List, [], ◌∷◌, length, set, get_or, slice_index, sum_by, refl, sym, ap, ◌∙◌, subst, arith, length-append, length-set, get_or-set_same}
use Rattle.std.proofs.lemmas.List.Sums.{sum_by-cons}
use mathlib.Core.Logic.{dite}
use mathlib.Core.Option.{none, some, some-ne-none, some-injective}
use native.Mathlib.Decide.{dec_lt}
use lib.ListN.{get_elem?}
use Rattle.atomic_table.specs.Table.{Me, keeps, step, opening, Allows, Splits, Joins, Final, Seen}
use Rattle.patr_claims.specs.declared.passes.PassView.{PassView}
use Rattle.patr_claims.specs.Tasks.{times}
use Rattle.patr_claims.specs.Passes.{pass_view, spent, with_number, one_fewer, one_seat, both, EachPass, AreShared}
use Rattle.patr_claims.specs.Ticketing.{MOST, DrewFew, IsTicketed, DrewTicket}
use Rattle.patr_claims.proofs.Seats.{nothing_left}
use Rattle.patr_claims.proofs.Totals.{at-le-sum_by, sum_by-le-each, times_at}
use Rattle.patr_claims.proofs.Sharing.{shared_none, shared_more, shared_split, shared_joined, shared_whole, each_put, each_split, other_has}

pub opens : (seats : ℕ) → seats ≤ 16 → IsTicketed seats (opening (0 ∷ []) [] (pass_view 0 seats [] 0))
opens seats few_seats = record { one_word = refl; few_seats = few_seats; shared = shared_none 0 seats; few = one }
  where
    one : (port : ℕ) (v : PassView) → get_elem? (pass_view 0 seats [] 0 ∷ []) port ≡ some v → DrewFew v
    one zero v at = subst DrewFew (some-injective (pass_view 0 seats [] 0) v at) (omega arith)
    one (suc port) v at = absurd (some-ne-none v (sym at))

-- no draw wraps the word
word_fits : (seats word : ℕ) (views : List PassView) → AreShared word seats views → EachPass DrewFew views → word ≤ MOST * seats
word_fits seats word views shared each_few =
    let few = sum_by-le-each (λ (v : PassView). length v.drawn) (λ v. MOST * v.seats) views each_few in
    let times_most = scaled views in
    let l = shared.lengths in
    let a = shared.all_seats in
    omega arith
  where
    scaled : (views : List PassView) → sum_by (λ (v : PassView). MOST * v.seats) views ≡ MOST * sum_by (λ (v : PassView). v.seats) views
    scaled [] = refl
    scaled (v ∷ vs) = omega (arith, sum_by-cons (λ (u : PassView). MOST * u.seats) v vs, sum_by-cons (λ (u : PassView). u.seats) v vs, scaled vs)

pub draws : (seats slots id : ℕ) (me : Me (Unit {0}) PassView) → length me.0.drawn < MOST * me.0.seats → Allows (IsTicketed seats) slots id me 0 (λ n. (n + 1) % 2 ^ 64) (DrewTicket (step slots 0 1 0 none) me)
draws seats slots id me room s h _ at _ =
    let n : ℕ = slice_index s.words 0 in
    let few = word_fits seats n s.views h.shared h.few in
    let few_seats = h.few_seats in
    let one = h.one_word in
    let next : (n + 1) % 2 ^ 64 ≡ n + 1 = omega arith in
    let w = with_number me.0 n in (
      w,
      keeps,
      tt,
      record {
        one_word = length-set s.words 0 _ ∙ one;
        few_seats = few_seats;
        shared = subst (λ (k : ℕ). AreShared k seats (set s.views id w)) (sym (get_or-set_same s.words 0 _ 0 (omega arith) ∙ next)) (shared_more n seats s.views h.shared id me.0 at);
        few = each_put DrewFew s.views h.few id w (omega (arith, length-append me.0.drawn (n ∷ [])));
      },
      (
        record {
          drawn = refl;
          above = λ k d below. dite (dec_lt (get_or me.0.drawn k d) n) (λ l. l) (λ not. absurd (
              let some_time = times_at me.0.drawn k d below in
              let none_yet = h.shared.no_other (get_or me.0.drawn k d) (omega arith) in
              let mine = at-le-sum_by (λ (u : PassView). times (get_or me.0.drawn k d) u.drawn) s.views id me.0 at in omega arith));
        },
        refl,
      ),
    )

pub splits : (seats id : ℕ) (v : PassView) → 1 < v.seats → v.drawn ≡ [] → Splits (IsTicketed seats) id v (one_fewer v) (one_seat v)
splits seats id v some_seats fresh s h at =
    let short = ap length fresh in record {
      one_word = h.one_word;
      few_seats = h.few_seats;
      shared = shared_split _ seats s.views h.shared id v at (omega arith);
      few = each_split DrewFew s.views h.few id (one_fewer v) (one_seat v) (omega arith) (omega arith);
    }

pub joins : (seats id : ℕ) (v : PassView) (other : ℕ) (w : PassView) → Joins (IsTicketed seats) id v other w (both v w) spent
joins seats id v other w s h at apart there =
    let mine = h.few id v at in
    let theirs = other_has DrewFew s.views h.few id other (both v w) w apart there in record {
      one_word = h.one_word;
      few_seats = h.few_seats;
      shared = shared_joined _ seats s.views h.shared id v at other w there;
      few = each_put DrewFew (set s.views id (both v w)) (each_put DrewFew s.views h.few id (both v w) (omega (arith, length-append v.drawn w.drawn))) other spent (omega arith);
    }

pub splits_as : (round id seats : ℕ) (v : PassView) → v ≡ pass_view 0 seats [] 0 → 1 < seats → Splits (IsTicketed round) id v (one_fewer v) (one_seat v)
splits_as round id seats v is some_seats = splits round id v (let seats_are = ap (λ (u : PassView). u.seats) is in omega arith) (ap (λ (u : PassView). u.drawn) is)

-- the pass of one seat
pub draws_as : (round slots id : ℕ) (me : Me (Unit {0}) PassView) → me ≡ (pass_view 0 1 me.0.drawn 0, []) → length me.0.drawn < MOST → Allows (IsTicketed round) slots id me 0 (λ n. (n + 1) % 2 ^ 64) (DrewTicket (step slots 0 1 0 none) me)
draws_as round slots id me is few = draws round slots id me (let seats_are = ap (λ (m : Me (Unit {0}) PassView). m.0.seats) is in omega arith)

-- the end of the table, at which the last pass has all seats
pub ended : (seats id total : ℕ) (v : PassView) (words : List ℕ) (slots : List (Unit {0})) → v.seats ≡ seats → get_elem? words 0 ≡ some total → Final (Seen (IsTicketed seats) id v) words slots
    → (total ≡ length v.drawn) × ((x : ℕ) → x < total → times x v.drawn ≡ 1) × ((x : ℕ) → total ≤ x → times x v.drawn ≡ 0)
ended seats id total v words slots all word final =
    let h = final.1.0 in
    let n : ℕ = slice_index final.0.words 0 in
    let t = shared_whole n seats final.0.views h.shared id v final.1.1 (λ p u there no_seat. nothing_left u.drawn (let few = h.few p u there in omega arith)) all in
    let is = at_first words total word ∙ ap (λ ws. slice_index ws 0) (sym final.2) in
    (is ∙ sym t.0, (λ x below. t.1 x (omega arith)), (λ x above. t.2 x (omega arith)))
  where
    at_first : (words : List ℕ) (total : ℕ) → get_elem? words 0 ≡ some total → total ≡ slice_index words 0
    at_first [] total at = absurd (some-ne-none total (sym at))
    at_first (n ∷ ns) total at = sym (some-injective n total at)
