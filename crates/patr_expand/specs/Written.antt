-- Features of the code with what each name stands for in its place.
use Rattle.std.specs.Prelude.{◌≡◌, ℕ, ◌+◌, List, map, length, Bool, nat_eq, get_or, slice_get, Option, Some, None, [], Result, Ok, Err}
use Rattle.std.specs.declared.vec.Vec.{Vec}
use Rattle.std.specs.declared.alloc.Global.{Global}
use Rattle.patr_lists.specs.Numbers.{places}
use Rattle.patr_model.specs.Grammar.{Row, Rows, single, variants}
use Rattle.patr_model.specs.Productions.{Item, Single, Choice, Option', EquationText, FeatureText, Equates, Names, row, rows, in_front, things, things_of}
use Rattle.patr_model.specs.Build.{ExpandFault, Meaning, meaning_of, chosen, all_written_out, longest, unknown_name, with_template}
use Rattle.patr_text.specs.declared.symbols.Id.{Id}
use Rattle.patr_text.specs.declared.fault.Fault.{Fault}
use Rattle.patr_grammar.specs.declared.grammar.Element.{Element}
use Rattle.patr_grammar.specs.declared.grammar.Template.{Template}
use Rattle.patr_grammar.specs.Levels.{feature_seen, features_seen}
use Rattle.patr_grammar.specs.Reading.{template_seen}
use Rattle.patr_expand.specs.declared.cause.ExpandCause.{ExpandCause}
use Rattle.patr_expand.specs.declared.measured.Measured.{Measured}
use Rattle.patr_expand.specs.declared.names.Known.{Known}
use Rattle.patr_expand.specs.declared.names.Known.TheVariants.{Among, ByIndex}
use Rattle.patr_expand.specs.Seen.{IsRefusedBy, meant, same}
use Rattle.patr_expand.specs.Sizes.{capped}

-- what a name stands for, as one thing of a row
abbrev pub named : List (Meaning Id) → Id → Item (EquationText Id)
named ms w = Choice (chosen (meaning_of same ms w))

-- a feature with what each name stands for in its place
abbrev pub written_item : List (Meaning Id) → Item (FeatureText Id) → Item (EquationText Id)
written_item ms (Single (Equates e)) = Single e
written_item ms (Single (Names w p)) = named ms w
written_item ms (Choice rs) = Choice (all_written_out same ms rs)
written_item ms (Option' rs) = Option' (all_written_out same ms rs)

-- the same of a feature of the code
abbrev pub element_written : List (Meaning Id) → Element → Item (EquationText Id)
element_written ms e = written_item ms (feature_seen e)

-- of features
abbrev pub written : List (Meaning Id) → List Element → Row (EquationText Id)
written ms es = row (map (element_written ms) es)

-- and of alternatives
abbrev pub choice_written : List (Meaning Id) → List (Vec Element Global) → Rows (EquationText Id)
choice_written ms vs = rows (map (λ v. written ms v.items) vs)

-- it has this name
abbrev pub is_named : ℕ → Meaning Id → Bool
is_named w m = nat_eq m.name.0 w

-- Of these meanings the numbers are found by their names, and the sizes by their numbers.
pub record IsMeasured (ms : List (Meaning Id)) (m : Measured) : Type 0 where
  pub names : (w : ℕ) → get_or m.by_name w [] ≡ places (is_named w) 0 ms
  pub variants : map (λ s. s.variants) m.sizes.items ≡ map (λ x. capped (length (variants single x.body))) ms
  pub equations : map (λ s. s.equations) m.sizes.items ≡ map (λ x. capped (longest (λ e. 1) x.body)) ms

-- the number of what a name stands for; none where it is unknown
abbrev pub IsNumber : List (Meaning Id) → Id → Option ℕ → Type 0
IsNumber ms w None = meaning_of same ms w ≡ None
IsNumber ms w (Some n) = (x : Meaning Id) × (slice_get ms n ≡ Some x) × (meaning_of same ms w ≡ Some x.body)

-- ---- names that are unknown

-- the names are looked up among these meanings
abbrev pub Knows : List (Meaning Id) → Known → Type 0
Knows ms (Among ts) = ms ≡ meant ts.now
Knows ms (ByIndex m) = IsMeasured ms m.now

-- the first unknown name in an element
abbrev pub item_unknown : List (Meaning Id) → Element → Option (ExpandFault Id)
item_unknown ms e = unknown_name same ms (things (in_front (feature_seen e) (row [])))

-- the first unknown name in a choice
abbrev pub choice_unknown : List (Meaning Id) → List (Vec Element Global) → Option (ExpandFault Id)
choice_unknown ms vs = unknown_name same ms (things_of (rows (map (λ v. features_seen v.items) vs)))

-- a template was put behind others, unless a name in it is unknown
abbrev pub IsAdded : {U : Type 0} → List (Meaning Id) → Template → Measured → Result U (Fault ExpandCause) → Type 0
IsAdded ms t new (Ok u) = (unknown_name same ms (things (features_seen t.body.items)) ≡ None) × IsMeasured (with_template same ms (template_seen t)) new
IsAdded ms t new (Err f) = IsRefusedBy (unknown_name same ms (things (features_seen t.body.items))) f
