-- The edge that two edges make.
use Rattle.std.proofs.Common.{◌≡◌, ◌≢◌, inl, inr, ℕ, suc, ◌+◌, ◌≤◌, Bool, true, false, List, [], ◌∷◌, length, option_and_then, Some, None, slice_get, refl, sym, ap, ◌∙◌, arith, subst}
use Rattle.patr_lists.proofs.Places.{get_there}
use Rattle.patr_parse.proofs.Names.{Value, Atom, Node, Structure, arc, IsReached, IsUnifier, Rules, Derivation, Extend, size, IsSolvable, IsLeastValue, some_inj, Feature, Ref, Shown, IsShown, ValueIsHeld, value_of, with_block, made_of, EdgeKind, Rule, Edge, kind_passive, AreEdges, is_judged, Stored, IsSoundEdge, daughters, HasMother, IsRootBy, ArePartners, IsReady}
use Rattle.patr_model.specs.Structure.{at}
use Rattle.patr_model.specs.Subsumption.{TakesBoth}
use Rattle.patr_model.specs.Derivation.{seen, IsPartial, IsComplete}
use Rattle.patr_model.specs.Solution.{with_slots}
use Rattle.patr_model.proofs.Maps.{carries_arc}
use Rattle.patr_model.proofs.Steps.{solves_count, takes_of_solution, unifier_of_partial, unifier_of_complete}
use Rattle.patr_unify.specs.Copying.{IsMade}
use Rattle.patr_chart.specs.declared.edge.EdgeKind.TheVariants.{Entry}
use Rattle.patr_chart.specs.Edges.{AreAdjacent}
use Rattle.patr_chart.specs.Charted.{IsMadeOf, IsNext, tree}
use Rattle.patr_chart.specs.Laws.{IsOfKind, KindFits, IsJudged}
use Rattle.patr_chart.proofs.Shown.{is_tree, next_kind, next_fits, kind_complete, kind_partial}
use Rattle.patr_parse.specs.Found.{IsRootOf, IsOfItem}
use Rattle.patr_parse.specs.declared.work.Outcome.TheVariants as outcome
use Rattle.patr_parse.specs.Drafts.{HasCombined}
use Rattle.patr_parse.specs.Joining.{AreWithin}
use Rattle.patr_parse.proofs.Pairs.{tree_in}

-- the two edges that may be decided
pub partners_near : (es : List Edge) (a p : ℕ) (x y : Edge) → ArePartners es a p → slice_get es a ≡ Some x → slice_get es p ≡ Some y → AreAdjacent x y
partners_near es a p x y h at_a at_p =
    subst (λ u. AreAdjacent u y) (some_inj h.0 x (sym h.2 ∙ at_a)) (subst (λ u. AreAdjacent h.0 u) (some_inj h.1 y (sym h.3 ∙ at_p)) h.4)

-- the least value of a partial tree has a next slot
pub next_slot : (g : Rules) (t : Derivation) (M : Structure) (m : Value) → IsPartial g t → IsLeastValue g t M m → (x : Value) × (arc M m (suc (seen t)) ≡ Some x)
next_slot g t M m part l =
    let s = l.solution.2 in
    let G = l.solution.0 in
    let w = l.solution.1 in
    let count = solves_count g t G s.slots part.0 part.1 s.solves in
    let next = get_there s.slots (suc (seen t)) (let short = part.2 in omega (arith, count, short)) in
    let into = l.solution.3.0 in
    let led = carries_arc G M into.by into.is_map w m into.root (suc (seen t)) next.0 (s.value.partial part (suc (seen t)) next.0 next.1) in
    (led.0, led.2)

-- one daughter more
pub next_daughter : (g : Rules) (t : Derivation) (k l : EdgeKind) → IsNext k l → IsOfKind g k t → daughters l ≡ suc (seen t)
next_daughter g t (Entry f v) l h is = absurd h
next_daughter g t (Rule r v i s n) (Entry f w) h is = absurd h
next_daughter g t (Rule r v i s n) (Rule r' v' i' s' n') h is = h.3 ∙ ap (λ x. suc x) (sym is.0)

pub next_item : (s : Stored) (k l : EdgeKind) → IsNext k l → IsOfItem s k → IsOfItem s l
next_item s (Entry f v) l h is = absurd h
next_item s (Rule r v i n m) (Entry f w) h is = absurd h
next_item s (Rule r v i n m) (Rule r' v' i' n' m') h is = (
  is.0,
  ap (λ x. slice_get s.rules x) h.2 ∙ is.1,
  is.2 ∙ sym h.0,
  is.3 ∙ sym h.1,
  is.4 ∙ sym h.4,
)

-- what stands for an edge, by whether a daughter is missing
pub root_of_edge : (v : Shown) (e : Edge) (u : Value) (b : Bool) → kind_passive e.kind ≡ b → IsRootBy b v.structure u (value_of v e.root) → IsRootOf v e u
root_of_edge v e u true q h = inr (q, h)
root_of_edge v e u false q h = inl (q, h)

-- the mother's slot is reached from the node of the slots
pub slot_reached : (S : Structure) (u m : Value) (a : ℕ) → arc S u a ≡ Some m → (k : ℕ) → IsReached S m k → IsReached S u k
slot_reached S u m a h k r = (a ∷ r.0, ap (λ o. option_and_then (λ z. at S z r.0) o) h ∙ r.1)

-- the edge that both make, with the root of the active one
abbrev pub joined : ℕ → ℕ → Edge → Edge → EdgeKind → ℕ → ℕ → Edge
joined a p x y k nodes arcs = record { kind = k; start = x.start; end = y.end; back = Some (record { active = a; passive = p }); root = x.root; nodes = nodes; arcs = arcs; size = x.size + y.size }

-- what holds of two edges that may be decided, of which the second is to stand in the slot of the first
pub record PairFacts (g : Rules) (v : Shown) (limit words : ℕ) (es : List Edge) (a p : ℕ) (x y : Edge) (k : EdgeKind) (slot : ℕ) : Type 0 where
  pub active : kind_passive x.kind ≡ false
  pub left : ValueIsHeld v x.root
  pub right : ValueIsHeld v y.root
  pub node : (c : ℕ) → value_of v x.root ≡ Atom c → ⊥
  pub there : at v.structure (value_of v x.root) (slot ∷ []) ≢ None
  pub within : AreWithin v (value_of v x.root) (value_of v y.root) (x.nodes + y.nodes) (x.arcs + y.arcs)
  pub none : ((G : Structure) (h : Value) → TakesBoth v.structure (value_of v x.root) (slot ∷ []) v.structure (value_of v y.root) G h → ⊥) → IsSolvable g (Extend (tree es a) (tree es p)) → ⊥
  pub some : (U : Structure) (u : Value) → IsUnifier v.structure (value_of v x.root) (slot ∷ []) v.structure (value_of v y.root) U u → IsSolvable g (Extend (tree es a) (tree es p))
  pub sum : x.size + y.size ≡ size (Extend (tree es a) (tree es p))
  pub small : (x.size ≤ limit) × (y.size ≤ limit)
  pub drafted : (left : ℕ) → value_of v x.root ≡ Node left → (block : List (List Feature)) (root : Ref) (nodes arcs : ℕ) → IsMade v left (slot ∷ []) (value_of v y.root) block root nodes arcs
      → size (Extend (tree es a) (tree es p)) ≤ limit → HasCombined g v words es limit (Extend (tree es a) (tree es p)) (outcome.Made (record { edge = joined a p x y k nodes arcs; block = block; root = root }))

module _ (g : Rules) (s : Stored) (v : Shown) (limit words : ℕ) (es : List Edge) (sv : IsShown v) (all : AreEdges words es) (ready : IsReady g s v limit es)
    (a p : ℕ) (x y : Edge) (at_a : slice_get es a ≡ Some x) (at_p : slice_get es p ≡ Some y) (near : AreAdjacent x y)
    (k : EdgeKind) (next : IsNext x.kind k) (slot : ℕ) (is_slot : slot ≡ daughters k) where
  abbrev S : Structure
  S = v.structure

  abbrev l : Value
  l = value_of v x.root

  abbrev r : Value
  r = value_of v y.root

  abbrev t : Derivation
  t = Extend (tree es a) (tree es p)

  first : IsJudged g (tree es a) x
  first = is_judged words es all g ready.fit a x at_a

  part : IsPartial g (tree es a)
  part = first.active near.active

  whole : IsComplete g (tree es p)
  whole = (is_judged words es all g ready.fit p y at_p).passive near.passive

  kind_a : IsOfKind g x.kind (tree es a)
  kind_a = (is_tree words es all a x at_a).kind g

  left : IsSoundEdge g s v es (tree es a) x
  left = ready.sound a x at_a

  right : IsSoundEdge g s v es (tree es p) y
  right = ready.sound p y at_p

  one : slot ≡ suc (seen (tree es a))
  one = is_slot ∙ next_daughter g (tree es a) x.kind k next kind_a

  is_kind : IsOfKind g k t
  is_kind = next_kind g (tree es a) (tree es p) x.kind k next kind_a

  fits : KindFits g k
  fits = next_fits g x.kind k next near.active first.fits

  -- the path to the next slot is defined
  path_there : at S l (slot ∷ []) ≢ None
  path_there none =
      let n = next_slot g (tree es a) S l part left.value in
      let there : arc S l slot ≡ Some n.0 = ap (λ i. arc S l i) one ∙ n.1 in
      let found : at S l (slot ∷ []) ≡ Some n.0 = ap (λ o. option_and_then (λ z. at S z []) o) there in
      some_or_none n.0 (sym found ∙ none)
    where
      some_or_none : (z : Value) → Some z ≡ None → ⊥
      some_or_none z q = cc

  -- no unifier, no solution
  not_solvable : ((G : Structure) (h : Value) → TakesBoth S l (slot ∷ []) S r G h → ⊥) → IsSolvable g t → ⊥
  not_solvable none sol =
      let both = takes_of_solution g (tree es a) (tree es p) part whole S l S r left.value right.value sol.0 sol.1 sol.2 in
      let G = with_slots sol.0 sol.2.slots in
      let h = Node (length sol.0) in
      none G h (subst (λ i. TakesBoth S l (i ∷ []) S r G h) (sym one) both)

  -- the least value, from a unifier
  pub least_by : (b : Bool) → kind_passive k ≡ b → (U : Structure) (u root : Value) → IsUnifier S l (slot ∷ []) S r U u → IsRootBy b U u root → IsLeastValue g t U root
  least_by true q U u root un h =
      let m = unifier_of_complete g (tree es a) (tree es p) part whole S l S r left.value right.value U u (subst (λ i. IsUnifier S l (i ∷ []) S r U u) one un) (kind_complete g t k is_kind fits q) in
      subst (λ z. IsLeastValue g t U z) (some_inj m.0 root (sym m.1 ∙ h)) m.2
  least_by false q U u root un h =
      subst (λ z. IsLeastValue g t U z) (sym h)
      (unifier_of_partial g (tree es a) (tree es p) part whole S l S r left.value right.value U u (subst (λ i. IsUnifier S l (i ∷ []) S r U u) one un) (kind_partial g t k is_kind fits q))

  -- a unifier, a solution
  solvable : (U : Structure) (u : Value) → IsUnifier S l (slot ∷ []) S r U u → IsSolvable g t
  solvable U u un = go (kind_passive k) refl
    where
      of_least : (root : Value) → IsLeastValue g t U root → IsSolvable g t
      of_least root m = (m.solution.0, m.solution.1, m.solution.2)

      go : (b : Bool) → kind_passive k ≡ b → IsSolvable g t
      go true q =
          let m = unifier_of_complete g (tree es a) (tree es p) part whole S l S r left.value right.value U u (subst (λ i. IsUnifier S l (i ∷ []) S r U u) one un) (kind_complete g t k is_kind fits q) in
          of_least m.0 m.2
      go false q = of_least u (least_by false q U u u un refl)

  -- where no daughter is missing, the unifier has a mother's slot
  pub mother_there : (U : Structure) (u : Value) → IsUnifier S l (slot ∷ []) S r U u → kind_passive k ≡ true → HasMother U u
  mother_there U u un q =
      let m = unifier_of_complete g (tree es a) (tree es p) part whole S l S r left.value right.value U u (subst (λ i. IsUnifier S l (i ∷ []) S r U u) one un) (kind_complete g t k is_kind fits q) in
      (m.0, m.1)

  -- an active edge stands for a node
  stands_for_node : (c : ℕ) → l ≡ Atom c → ⊥
  stands_for_node c e = path_there (ap (λ x. at S x (slot ∷ [])) e)

  pub sum_of_sizes : x.size + y.size ≡ size t
  sum_of_sizes = let m = left.sized in let n = right.sized in omega (arith, m, n)

  both : (nodes arcs : ℕ) → IsMadeOf (joined a p x y k nodes arcs) x y
  both nodes arcs = record { adjacent = near; start = refl; end = refl; kind = next }

  drafted : (left : ℕ) → l ≡ Node left → (block : List (List Feature)) (root : Ref) (nodes arcs : ℕ) → IsMade v left (slot ∷ []) r block root nodes arcs → size t ≤ limit
      → HasCombined g v words es limit t (outcome.Made (record { edge = joined a p x y k nodes arcs; block = block; root = root }))
  drafted left is block root nodes arcs made small =
      let U = (with_block v block).structure in
      let un = subst (λ z. IsUnifier S z (slot ∷ []) S r U (made_of v root)) (sym is) made.unifier in
      let one_edge = all a x at_a in
      let other = all p y at_p in
      let meet = near.meet in (
        refl,
        solvable U (made_of v root) un,
        record {
          edges = all;
          after = record {
            order = (let m = one_edge.order in let n = other.order in omega (arith, m, n, meet));
            within = other.within;
            origin = (x, y, at_a, at_p, both nodes arcs);
          };
          small = small;
          back = record { active = a; passive = p };
          back_is = refl;
          active = x;
          passive = y;
          there_active = at_a;
          there_passive = at_p;
          made_of_both = both nodes arcs;
          left = left;
          left_is = is;
          made = subst (λ i. IsMade v left (i ∷ []) r block root nodes arcs) is_slot made;
          mother = mother_there U (made_of v root) un;
          sum = refl;
        },
      )

  -- what the decision of both needs, and what its answers mean
  pub facts : PairFacts g v limit words es a p x y k slot
  facts = record {
    active = near.active;
    left = left.held;
    right = right.held;
    node = stands_for_node;
    there = path_there;
    within = λ n m i j c d. let one = left.bounds n m c in let two = right.bounds i j d in (omega (arith, one.0, two.0), omega (arith, one.1, two.1));
    none = not_solvable;
    some = solvable;
    sum = sum_of_sizes;
    small = (
      (let q = left.sized in let z = ready.small (tree es a) (tree_in es a x at_a) in omega (arith, q, z)),
      (let q = right.sized in let z = ready.small (tree es p) (tree_in es p y at_p) in omega (arith, q, z)),
    );
    drafted = drafted;
  }
