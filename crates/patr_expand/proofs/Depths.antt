-- How deep choices stand in one another: the measures of what goes down into them.
use Rattle.std.proofs.Common.{◌≡◌, ℕ, suc, zero, ◌+◌, ◌*◌, ◌<◌, ◌≤◌, List, [], ◌∷◌, map, length, get_or, Vec, Global, max, refl, sym, ap, ◌∙◌, arith}
use Rattle.std.specs.formers.vec.Vec.{mapped}
use Rattle.patr_grammar.specs.declared.grammar.Item.{Item}
use Rattle.patr_grammar.specs.declared.grammar.Item.TheVariants as item
use Rattle.patr_grammar.specs.declared.grammar.Item.TheVariants.{rolls-Optional}
use Rattle.patr_grammar.specs.declared.grammar.Item.TheOpen as open_item
use Rattle.patr_grammar.specs.declared.grammar.Item.TheFolds.{fold-Item, fold-roll-Item}
use Rattle.patr_grammar.specs.declared.grammar.Element.{Element}
use Rattle.patr_grammar.specs.declared.grammar.Element.TheVariants as element
use Rattle.patr_grammar.specs.declared.grammar.Element.TheOpen as open_element
use Rattle.patr_grammar.specs.declared.grammar.Element.TheFolds.{fold-Element, fold-roll-Element}

-- the greatest of a list
abbrev pub most : List ℕ → ℕ
most [] = 0
most (n ∷ ns) = max n (most ns)

pub at_most : {X : Type 0} (f : X → ℕ) (xs : List X) (i : ℕ) (x : X) → i < length xs → get_or xs i x ≡ x → f x ≤ most (map f xs)
at_most f [] i x h e = absurd (omega (arith, h))
at_most f (y ∷ xs) zero x h e = omega (arith, ap f e)
at_most f (y ∷ xs) (suc i) x h e = omega (arith, at_most f xs i x (omega (arith, h)) e)

-- of alternatives the greatest of all in them
abbrev pub deepest : {X : Type 0} → (X → ℕ) → List (Vec X Global) → ℕ
deepest f vs = most (map (λ v. most (map f v.items)) vs)

abbrev all : List (Vec ℕ Global) → ℕ
all vs = most (map (λ v. most v.items) vs)

all_mapped : {X : Type 0} (f : X → ℕ) (vs : List (Vec X Global)) → all (map (mapped f) vs) ≡ deepest f vs
all_mapped f [] = refl
all_mapped f (v ∷ vs) = ap (max (most (map f v.items))) (all_mapped f vs)

abbrev item_levels : open_item.Item-F ℕ → ℕ
item_levels (open_item.Symbol s) = 0
item_levels (open_item.Optional vs) = suc (all vs.items)
item_levels (open_item.OneOf vs) = suc (all vs.items)

-- the levels of choices in an item of a right side
abbrev pub item_depth : Item → ℕ
item_depth = fold-Item ℕ item_levels

pub optional_depth : (vs : Vec (Vec Item Global) Global) → item_depth (item.Optional vs) ≡ suc (deepest item_depth vs.items)
optional_depth vs = ap item_depth (sym (rolls-Optional vs)) ∙ fold-roll-Item ℕ item_levels (open_item.Optional vs) ∙ ap suc (all_mapped item_depth vs.items)

pub choice_depth : (vs : Vec (Vec Item Global) Global) → item_depth (item.OneOf vs) ≡ suc (deepest item_depth vs.items)
choice_depth vs = ap item_depth (sym (item.rolls-OneOf vs)) ∙ fold-roll-Item ℕ item_levels (open_item.OneOf vs) ∙ ap suc (all_mapped item_depth vs.items)

abbrev element_levels : open_element.Element-F ℕ → ℕ
element_levels (open_element.Equation e) = 0
element_levels (open_element.Name name line column) = 0
element_levels (open_element.OneOf vs) = suc (all vs.items)

-- the levels of choices in an element
abbrev pub depth : Element → ℕ
depth = fold-Element ℕ element_levels

pub depth_is : (vs : Vec (Vec Element Global) Global) → depth (element.OneOf vs) ≡ suc (deepest depth vs.items)
depth_is vs = ap depth (sym (element.rolls-OneOf vs)) ∙ fold-roll-Element ℕ element_levels (open_element.OneOf vs) ∙ ap suc (all_mapped depth vs.items)
