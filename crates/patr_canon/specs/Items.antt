-- What the reader of canonical texts finds, one thing after another.
--     IsLookOf      a Look that has the texts of a table
--     IsItem        what stands at the front of a text that some Look gives
--     HasGrown      the table kept its texts and got few
--     IsFurther     the table grew by no more than the text got shorter
use Rattle.std.specs.Prelude.{◌≡◌, ℕ, ◌+◌, ◌<◌, ◌≤◌, ◌^◌, Bool, true, false, List, [], ◌∷◌, ◌++◌, length, slice_get, Option, Some, None}
use denote.Ref.{Bor}
use Rattle.patr_model.specs.Items.{Expect, AValue, AFirst, ANext, Follows, AnAgain, AnOpening, text_of, with_number}
use Rattle.patr_model.specs.Laws.{TextsDiffer}
use Rattle.patr_model.specs.Reading.{bare_front, digits_front, printed_front, quoted_front}
use Rattle.patr_model.specs.Stack.{Event, OfAtom, OfAgain, Opens, OfArc, Closes}
use Rattle.patr_model.specs.Text.{Look, printed}
use Rattle.patr_text.specs.Texts.{Extends}
use Rattle.patr_text.specs.declared.symbols.Id.{Id}
use Rattle.patr_canon.specs.declared.event.Event as its
use Rattle.patr_canon.specs.declared.event.Event.TheVariants as event
use Rattle.patr_canon.specs.declared.items.Expected.{Expected}
use Rattle.patr_canon.specs.declared.items.Expected.TheVariants as expected
use Rattle.patr_canon.specs.Walks.{EventIsSpelled, event_seen}

-- the Look has the table's texts at their numbers, and different texts for different symbols
pub record IsLookOf (table : List (List ℕ)) (l : Look) : Type 0 where
  pub texts : (a : ℕ) (t : List ℕ) → slice_get table a ≡ Some t → l.text a ≡ t
  pub differ : TextsDiffer l

-- what the code expects
abbrev pub expected_seen : Expected → Expect
expected_seen expected.Value = AValue
expected_seen expected.First = AFirst
expected_seen expected.Next = ANext

-- what is expected in a node: its first attribute or its bracket, or what follows a value
abbrev pub expect_in : Bool → Expect
expect_in true = AFirst
expect_in false = ANext

-- what is expected behind an event
abbrev pub expect_behind : Event → Expect
expect_behind (OfAtom c) = ANext
expect_behind (OfAgain n) = ANext
expect_behind (Opens n) = AFirst
expect_behind (OfArc first a) = AValue
expect_behind Closes = ANext

-- A symbol up to its closing quote: its text is in the table.
abbrev pub IsQuotedFront : List (List ℕ) → List ℕ → Option (Id × Bor (List ℕ)) → Type 0
IsQuotedFront table bs None = quoted_front bs false ≡ None
IsQuotedFront table bs (Some x) = (t : List ℕ) × (slice_get table x.0.0 ≡ Some t) × (quoted_front bs false ≡ Some (record { it = t; rest = x.1.now }))

-- A symbol without quotes: its text is in the table; none where it is empty.
abbrev pub IsBareFront : List (List ℕ) → List ℕ → Option (Id × Bor (List ℕ)) → Type 0
IsBareFront table bs None = (bare_front bs).it ≡ []
IsBareFront table bs (Some x) = (t : List ℕ) × (slice_get table x.0.0 ≡ Some t) × (bare_front bs ≡ record { it = t; rest = x.1.now }) × (bs ≡ [] → ⊥)

-- An atom or attribute: its text is in the table; none where no text prints so.
abbrev pub IsSymbolFront : List (List ℕ) → List ℕ → Option (Id × Bor (List ℕ)) → Type 0
IsSymbolFront table bs None = (t r : List ℕ) → printed t ++ r ≡ bs → printed_front bs ≡ Some (record { it = t; rest = r }) → ⊥
IsSymbolFront table bs (Some x) = (t : List ℕ) × (slice_get table x.0.0 ≡ Some t) × (printed_front bs ≡ Some (record { it = t; rest = x.1.now }))

-- the table kept its texts, and got no more new ones than the text has bytes
pub record HasGrown (old new : List (List ℕ)) (bs : List ℕ) : Type 0 where
  pub table : Extends old new
  pub limit : length new ≤ length old + length bs

-- the symbol that was read is held, and what is left is shorter; the table grew by no more than the text got shorter
abbrev pub IsFurther : {X : Type 0} → List (List ℕ) → List (List ℕ) → List ℕ → Option (X × Bor (List ℕ)) → Type 0
IsFurther old new bs None = Unit {0}
IsFurther old new bs (Some x) = (length x.1.now < length bs) × (length new + length x.1.now ≤ length old + length bs)

-- the attribute that some Look prints at the front, with its `: `
abbrev pub IsArcFront : List (List ℕ) → Bool → List ℕ → Option (its.Event × Bor (List ℕ)) → Type 0
IsArcFront table first bs None = (l : Look) → IsLookOf table l → (a : ℕ) (r : List ℕ) → printed (l.text a) ++ 58 ∷ 32 ∷ r ≡ bs → ⊥
IsArcFront table first bs (Some x) = (l : Look) → IsLookOf table l → (a : ℕ) (r : List ℕ) → printed (l.text a) ++ 58 ∷ 32 ∷ r ≡ bs → (OfArc first a ≡ event_seen x.0) × (r ≡ x.1.now)

-- the number, with the bracket of its node or without
abbrev pub IsNumberItem : List ℕ → its.Event → List ℕ → Type 0
IsNumberItem bs (event.Atom c) rest = ⊥
IsNumberItem bs (event.Again n) rest = with_number (digits_front bs 0) ≡ record { it = AnAgain n; rest = rest }
IsNumberItem bs (event.Open n) rest = with_number (digits_front bs 0) ≡ record { it = AnOpening n; rest = rest }
IsNumberItem bs (event.Arc first a) rest = ⊥
IsNumberItem bs event.Close rest = ⊥

-- a number at the front; none where it is 2^32 at least
abbrev pub IsNumbered : List ℕ → Option (its.Event × Bor (List ℕ)) → Type 0
IsNumbered bs None = 2 ^ 32 ≤ (digits_front bs 0).it
IsNumbered bs (Some x) = IsNumberItem bs x.0 x.1.now × (length x.1.now ≤ length bs)

-- the event's number is below 2^32
abbrev pub EventFits : Event → Type 0
EventFits (OfAtom c) = Unit {0}
EventFits (OfAgain n) = n < 2 ^ 32
EventFits (Opens n) = n < 2 ^ 32
EventFits (OfArc first a) = Unit {0}
EventFits Closes = Unit {0}

-- the event that stands at the front of a text of events, whose symbols some Look gives their texts, and what is behind it
abbrev pub IsItem : List (List ℕ) → Expect → List ℕ → Option (its.Event × Bor (List ℕ)) → Type 0
IsItem table e bs None = (l : Look) → IsLookOf table l → (d : ℕ) (x : Event) (left : List Event) → Follows (x ∷ left) e d → EventFits x → text_of l (x ∷ left) ≡ bs → ⊥
IsItem table e bs (Some r) = (l : Look) → IsLookOf table l → (d : ℕ) (x : Event) (left : List Event) → Follows (x ∷ left) e d → EventFits x → text_of l (x ∷ left) ≡ bs
    → (x ≡ event_seen r.0) × (text_of l left ≡ r.1.now)

-- the symbol of the event is a number below n
abbrev pub IsSpelledItem : ℕ → Option (its.Event × Bor (List ℕ)) → Type 0
IsSpelledItem n None = Unit {0}
IsSpelledItem n (Some x) = EventIsSpelled n (event_seen x.0)

-- what is left behind an event is shorter, and the event's symbol is held
abbrev pub IsFurtherItem : List (List ℕ) → List (List ℕ) → List ℕ → Option (its.Event × Bor (List ℕ)) → Type 0
IsFurtherItem old new bs r = IsFurther old new bs r × IsSpelledItem (length new) r
