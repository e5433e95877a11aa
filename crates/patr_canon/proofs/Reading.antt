-- What the reader has after an event.
use Rattle.std.proofs.Common.{◌≡◌, ℕ, ◌+◌, List, [], ◌∷◌, ◌++◌, map, length, Option, Vec, sym, ap, ◌∙◌}
use Rattle.patr_canon.proofs.Names.{Global, Link, Node, Value, end_node, half_seen, length-append, length-map, links_seen, map-append, nodes_seen, put_value, reverse-append, stack_seen}
use Rattle.patr_canon.specs.declared.reader.Begun.{Begun}

-- ---- the begun nodes

pub one_begun : (bs : List Begun) (b : Begun) → stack_seen (bs ++ b ∷ []) ≡ half_seen b ∷ stack_seen bs
one_begun bs b = ap (map half_seen) (reverse-append bs (b ∷ []))

pub nodes_more : (nodes : List (Vec Link Global)) (links : Vec Link Global) → nodes_seen (nodes ++ links ∷ []) ≡ nodes_seen nodes ++ links_seen links.items ∷ []
nodes_more nodes links = map-append (λ links. links_seen links.items) nodes (links ∷ [])

-- the last begun node ends
pub end_is : (olds bs : List Begun) (b : Begun) (root : Option Value) (nodes news : List (Vec Link Global)) (numbers : List ℕ) (place : ℕ) → olds ≡ bs ++ b ∷ [] → news ≡ nodes ++ b.links ∷ [] → place ≡ length nodes
    → put_value (stack_seen bs) root (nodes_seen news) (numbers ++ b.number ∷ []) (Node place) ≡ end_node (stack_seen olds) root (nodes_seen nodes) numbers
end_is olds bs b root nodes news numbers place is more at =
    let len : length (nodes_seen nodes) ≡ length nodes = simp length-map in
    ap (λ (N : List (Vec Link Global)). put_value (stack_seen bs) root (nodes_seen N) (numbers ++ b.number ∷ []) (Node place)) more
    ∙ (ap (λ N. put_value (stack_seen bs) root N (numbers ++ b.number ∷ []) (Node place)) (nodes_more nodes b.links)
    ∙ (ap (λ k. put_value (stack_seen bs) root (nodes_seen nodes ++ links_seen b.links.items ∷ []) (numbers ++ b.number ∷ []) (Node k)) (at ∙ sym len)
    ∙ sym (ap (λ hs. end_node hs root (nodes_seen nodes) numbers) (ap stack_seen is ∙ one_begun bs b))))

pub one_number : (numbers : List ℕ) (n : ℕ) (nodes news : List (Vec Link Global)) (v : Vec Link Global) → length numbers ≡ length nodes → news ≡ nodes ++ v ∷ [] → length (numbers ++ n ∷ []) ≡ length news
one_number numbers n nodes news v is more = length-append numbers (n ∷ []) ∙ (ap (λ k. k + 1) is ∙ sym (ap length more ∙ length-append nodes (v ∷ [])))
