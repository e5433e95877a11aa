-- Solutions without the symbols that no equation names.
use Rattle.std.proofs.Common.{◌≡◌, ℕ, suc, Bool, cond, List, [], ◌∷◌, map, Some, option_and_then, slice_get, sym, ap, ◌∙◌, subst}
use Rattle.patr_reply.proofs.Names.{AllByRecursion, AllPass, AreNamed, Atom, AtomOf, Begin, Chain, Derivation, Equation, Extend, Holds, IsComplete, IsValue, Leaf, LeastValuesNameSymbols, Node, Passes, PathOf, Rules, SlotPath, Solution, Solves, Structure, Term, TermPasses, Value, and_then_some, arc, at, carries, carries_arc, length-map, option_map, reached, seen, side, slice_get-map, some_inj}
use Rattle.patr_model.proofs.Steps.{partial_or_complete}
use Rattle.patr_reply.proofs.Pruned.{pruned, without, at_kept, at_back, arc_back, atom_passes, value_kept, structure_kept}

module _ (test : ℕ → Bool) where
  get_kept : (vs : List Value) (k : ℕ) (x : Value) → slice_get vs k ≡ Some x → slice_get (map (pruned test) vs) k ≡ Some (pruned test x)
  get_kept vs k x h = slice_get-map (pruned test) vs k ∙ ap (option_map (pruned test)) h

  reached_kept : (G : Structure) (vs : List Value) (p : SlotPath) (x : Value) → AllPass test p.path → reached G vs p ≡ Some x → reached (without test G) (map (pruned test) vs) p ≡ Some (pruned test x)
  reached_kept G vs p x all h =
      let step = and_then_some (slice_get vs p.slot) (λ v. at G v p.path) x h in
      ap (λ o. option_and_then (λ v. at (without test G) v p.path) o) (get_kept vs p.slot step.0 step.1) ∙ at_kept test G p.path step.0 x all step.2

  side_kept : (G : Structure) (vs : List Value) (t : Term) (x : Value) → TermPasses test t → side G vs t ≡ Some x → side (without test G) (map (pruned test) vs) t ≡ Some (pruned test x)
  side_kept G vs (AtomOf c) x p h = ap (λ y. Some y) (sym (ap (λ b. cond b (Atom c) (Node 0)) p)) ∙ ap (λ y. Some (pruned test y)) (some_inj (Atom c) x h)
  side_kept G vs (PathOf q) x p h = reached_kept G vs q x p h

  holds_kept : (G : Structure) (vs : List Value) (e : Equation) → Passes test e → Holds G vs e → Holds (without test G) (map (pruned test) vs) e
  holds_kept G vs e p h = (pruned test h.0, reached_kept G vs e.left h.0 p.0 h.1, side_kept G vs e.right h.0 p.1 h.2)

  all_hold : (G : Structure) (vs : List Value) (es : List Equation) → AllByRecursion (Passes test) es → AllByRecursion (Holds G vs) es → AllByRecursion (Holds (without test G) (map (pruned test) vs)) es
  all_hold G vs [] p h = tt
  all_hold G vs (e ∷ es) p h = (holds_kept G vs e p.0 h.0, all_hold G vs es p.1 h.1)

  all_values : (G : Structure) (vs : List Value) → AllByRecursion (IsValue G) vs → AllByRecursion (IsValue (without test G)) (map (pruned test) vs)
  all_values G [] h = tt
  all_values G (v ∷ vs) h = (value_kept test G v h.0, all_values G vs h.1)

  chain_kept : (G : Structure) (rules : List (List Equation)) (x v : Value) → AllByRecursion (AllByRecursion (Passes test)) rules → Chain G rules x v → Chain (without test G) rules (pruned test x) (pruned test v)
  chain_kept G [] x v p h = ap (pruned test) h
  chain_kept G (rule ∷ rules) x v p h = (pruned test h.0, value_kept test G h.0 h.1, all_hold G (x ∷ h.0 ∷ []) rule p.0 h.2, chain_kept G rules h.0 v p.1 h.3)

  solves_kept : (g : Rules) → AreNamed test g → (t : Derivation) (G : Structure) (vs : List Value) → Solves g t G vs → Solves g t (without test G) (map (pruned test) vs)
  solves_kept g named (Leaf e k i j) G vs h =
      let entry = h.0 in
      let solved = h.3 in (
        entry,
        pruned test h.1,
        h.2,
        (pruned test solved.0, value_kept test G solved.0 solved.1, all_hold G (solved.0 ∷ []) entry.equations (named.entries e k entry h.2) solved.2, chain_kept G entry.chain solved.0 h.1 (named.chains e k entry h.2) solved.3),
        ap (map (pruned test)) h.4,
      )
  solves_kept g named (Begin r k i) G vs h = (
    h.0,
    h.1,
    record {
      count = length-map vs (pruned test) ∙ h.2.count;
      held = all_values G vs h.2.held;
      equations = all_hold G vs h.0.equations (named.rules r k h.0 h.1) h.2.equations;
    },
  )
  solves_kept g named (Extend a p) G vs h = (
    solves_kept g named a G vs h.0,
    pruned test h.1,
    map (pruned test) h.2,
    get_kept vs (suc (seen a)) h.1 h.3,
    solves_kept g named p G (h.1 ∷ h.2) h.4,
  )

  pub solution_kept : (g : Rules) → AreNamed test g → (t : Derivation) → IsComplete g t → (G : Structure) (v : Value) → Solution g t G v → Solution g t (without test G) (pruned test v)
  solution_kept g named t complete G v s = record {
    structure = structure_kept test G s.structure;
    slots = map (pruned test) s.slots;
    solves = solves_kept g named t G s.slots s.solves;
    value = record {
      held = value_kept test G v s.value.held;
      complete = λ c. get_kept s.slots 0 v (s.value.complete c);
      partial = λ p. absurd (partial_or_complete g t p complete);
    };
  }

pub least_values_name_symbols : LeastValuesNameSymbols
least_values_name_symbols test g t M m named complete least =
    let G = least.solution.0 in
    let v = least.solution.1 in
    let into = least.least (without test G) (pruned test v) (solution_kept test g named t complete G v least.solution.2) in
    record {
      atoms = λ p c h.
          let there = carries M (without test G) into.by into.is_map p m (pruned test v) into.root (Atom c) h in
          let back = at_back test G p v there.0 there.2 in
          atom_passes test back.0 c (some_inj (Atom c) there.0 there.1 ∙ back.1);
      attributes = λ p x a y h k.
          let there = carries M (without test G) into.by into.is_map p m (pruned test v) into.root x h in
          let back = at_back test G p v there.0 there.2 in
          let step = carries_arc M (without test G) into.by into.is_map x there.0 there.1 a y k in
          (arc_back test G back.0 a step.0 (subst (λ z. arc (without test G) z a ≡ Some step.0) back.1 step.2)).0;
    }
