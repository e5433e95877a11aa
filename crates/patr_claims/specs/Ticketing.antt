-- The rule of a counter of tickets: who drew which number.
use Rattle.std.specs.Prelude.{◌≡◌, ℕ, ◌*◌, ◌^◌, ◌<◌, ◌≤◌, List, All, length, slice_index}
use Rattle.atomic_table.specs.Seated.{TableId}
use Rattle.atomic_table.specs.Table.{State, Me, Step}
use Rattle.patr_claims.specs.declared.passes.PassView.{PassView}
use Rattle.patr_claims.specs.Passes.{with_number, EachPass, AreShared}

abbrev pub MOST : ℕ
MOST = 2 ^ 59

-- no pass drew more than so many for each of its seats
abbrev pub DrewFew : PassView → Type 0
DrewFew v = length v.drawn ≤ MOST * v.seats

pub record IsTicketed (seats : ℕ) (s : State (Unit {0}) PassView) : Type 0 where
  pub one_word : length s.words ≡ 1
  pub few_seats : seats ≤ 16
  pub shared : AreShared (slice_index s.words 0) seats s.views
  pub few : EachPass DrewFew s.views

-- a draw is a new number, above all that the pass drew
pub record DrawsTicket (v : PassView) (n : ℕ) (w : PassView) : Type 0 where
  pub drawn : w ≡ with_number v n
  pub above : All (λ x. x < n) v.drawn

abbrev pub DrewTicket : Step (Unit {0}) → Me (Unit {0}) PassView → ℕ → Me (Unit {0}) PassView → Type 0
DrewTicket _ me n new = DrawsTicket me.0 n new.0 × (new.1 ≡ me.1)

-- a seat, as its callers see it: whose it is, and what it drew
pub record Drawn : Type 0 where
  pub table : TableId
  pub numbers : List ℕ

-- tickets, as their callers see them: which they are, and how many seats they have
pub record Issued : Type 0 where
  pub table : TableId
  pub seats : ℕ
