use Rattle.std.proofs.Common.{◌≡◌, ◌≢◌, ◌∙◌, List, sym, ap, refl, inl, inr}
use Rattle.patr_model.specs.Structure.{Node}
use Rattle.patr_marks.specs.Machine.{Forward}
use Rattle.patr_scratch.specs.declared.Place.{Place}
use Rattle.patr_scratch.specs.declared.Target.TheVariants as target
use Rattle.patr_unify.specs.Reading.{key}
use Rattle.patr_unify.specs.Stepping.{HasLog}
use Rattle.patr_unify.proofs.Outcomes.{AreEnds, keys_apart, ending_of, ends_are, key_below, merge_step, skip_step, bind_outcome, bind_keeps, atoms_outcome}
use Rattle.patr_unify.proofs.unify_pair.unify_pair.Given.{Over}
use Rattle.patr_unify.proofs.unify_pair.unify_pair.Goals.{After-goes_first}
use Rattle.patr_unify.proofs.unify_pair.unify_pair.Goals as goal

pub dereference-requires-clause-ending : goal.dereference-requires-clause-ending
dereference-requires-clause-ending g c = ending_of (g.N.Nodes.shown c.args.nodes.now) c.args.scratch.now c.requires.log.0 c.args.a c.requires.log.1 c.requires.log.2

pub dereference-requires-in-Atom-clause-ending : goal.dereference-requires-in-Atom-clause-ending
dereference-requires-in-Atom-clause-ending g c = ending_of (g.N.Nodes.shown c.args.nodes.now) c.args.scratch.now c.requires.log.0 c.args.b c.requires.log.1 c.requires.log.2

pub dereference-requires-in-Place-clause-ending : goal.dereference-requires-in-Place-clause-ending
dereference-requires-in-Place-clause-ending g c = ending_of (g.N.Nodes.shown c.args.nodes.now) c.args.scratch.now c.requires.log.0 c.args.b c.requires.log.1 c.requires.log.2

pub returns-then-same_place-clause-outcome : goal.returns-then-same_place-clause-outcome
returns-then-same_place-clause-outcome g c log h =
    let v = g.N.Nodes.shown c.args.nodes.now in
    let e = ends_are v c.args.scratch.now log c.args.a c.args.b (target.Place c.in-Place.first) (target.Place c.in-Place-dereference-2.second) h c.in-Place.ensures.0 c.in-Place-dereference-2.ensures.0 in
    let same : c.in-Place.first ≡ c.in-Place-dereference-2.second = c.same_place.ensures.yes c.if-same_place.true in
    skip_step v c.args.scratch.now log c.args.a c.args.b h (e.first ∙ (ap (λ (p : Place). Node (key v p)) same ∙ sym e.second))

pub returns-then-atoms_differ-clause-outcome : goal.returns-then-atoms_differ-clause-outcome
returns-then-atoms_differ-clause-outcome g c log h =
    let v = g.N.Nodes.shown c.args.nodes.now in
    let e = ends_are v c.args.scratch.now log c.args.a c.args.b (target.Place c.in-Place.first) (target.Place c.in-Place-dereference-2.second) h c.in-Place.ensures.0 c.in-Place-dereference-2.ensures.0 in
    record { popped = refl; clash = inr (inr (key v c.in-Place.first, key v c.in-Place-dereference-2.second, inl (e.first, e.second), c.atoms_differ.ensures c.if-atoms_differ.true)) }

-- the two places have two keys, and are ends
place_facts : (g : Over) (c : After-goes_first g) → (key (g.N.Nodes.shown c.args.nodes.now) c.in-Place.first ≢ key (g.N.Nodes.shown c.args.nodes.now) c.in-Place-dereference-2.second)
    × ((log : List Forward) → HasLog (g.N.Nodes.shown c.args.nodes.now) c.args.scratch.now log → AreEnds (g.N.Nodes.shown c.args.nodes.now) log c.args.a c.args.b (target.Place c.in-Place.first) (target.Place c.in-Place-dereference-2.second))
place_facts g c = (
  keys_apart (g.N.Nodes.shown c.args.nodes.now) (g.met.N.Nodes.lawful c.args.nodes.now) c.in-Place.first c.in-Place-dereference-2.second c.in-Place.ensures.0.held c.in-Place-dereference-2.ensures.0.held c.same_place.result c.same_place.ensures.no c.if-same_place.false,
  λ log h. ends_are (g.N.Nodes.shown c.args.nodes.now) c.args.scratch.now log c.args.a c.args.b (target.Place c.in-Place.first) (target.Place c.in-Place-dereference-2.second) h c.in-Place.ensures.0 c.in-Place-dereference-2.ensures.0,
)

pub merge-requires : goal.merge-requires
merge-requires g c =
    let f = place_facts g (goal.at.merge-requires g c).After-goes_first in
    let e = f.1 c.requires.log.0 c.requires.log.1 in
    record { from = c.in-Place.ensures.0.held; to = c.in-Place-dereference-2.ensures.0.held; apart = f.0; held = c.requires.held; pairs_held = c.requires.pairs_held; room = c.requires.log.3 _ _ (inl (e.first, e.second)) f.0 }

pub merge-requires-else-goes_first : goal.merge-requires-else-goes_first
merge-requires-else-goes_first g c =
    let f = place_facts g (goal.at.merge-requires-else-goes_first g c).After-goes_first in
    let e = f.1 c.requires.log.0 c.requires.log.1 in
    record { from = c.in-Place-dereference-2.ensures.0.held; to = c.in-Place.ensures.0.held; apart = λ q. f.0 (sym q); held = c.requires.held; pairs_held = c.requires.pairs_held; room = c.requires.log.3 _ _ (inr (e.first, e.second)) (λ q. f.0 (sym q)) }

pub returns-in-Atom-dereference-clause-outcome : goal.returns-in-Atom-dereference-clause-outcome
returns-in-Atom-dereference-clause-outcome g c log h =
    let v = g.N.Nodes.shown c.args.nodes.now in
    let e = ends_are v c.args.scratch.now log c.args.a c.args.b (target.Atom c.in-Atom.atom) (target.Atom c.in-Atom-dereference.other) h c.in-Atom.ensures c.in-Atom-dereference.ensures in
    atoms_outcome v c.args.scratch.now log c.args.a c.args.b c.in-Atom.atom c.in-Atom-dereference.other _ h refl e.first e.second

pub returns-in-Place-dereference-clause-steady : goal.returns-in-Place-dereference-clause-steady
returns-in-Place-dereference-clause-steady g c =
    bind_keeps (g.N.Nodes.shown c.args.nodes.now) c.args.scratch.now c.bind.new.scratch c.in-Place-dereference.place c.in-Atom.atom c.bind.result (g.met.N.Nodes.lawful c.args.nodes.now) c.requires.held c.requires.pairs_held c.in-Place-dereference.ensures.0.held c.bind.ensures

pub returns-in-Place-dereference-clause-outcome : goal.returns-in-Place-dereference-clause-outcome
returns-in-Place-dereference-clause-outcome g c log h =
    let v = g.N.Nodes.shown c.args.nodes.now in
    let e = ends_are v c.args.scratch.now log c.args.a c.args.b (target.Atom c.in-Atom.atom) (target.Place c.in-Place-dereference.place) h c.in-Atom.ensures c.in-Place-dereference.ensures.0 in
    bind_outcome v c.args.scratch.now c.bind.new.scratch log c.args.a c.args.b c.in-Place-dereference.place c.in-Atom.atom c.bind.result (g.met.N.Nodes.lawful c.args.nodes.now) c.requires.held c.in-Place-dereference.ensures.0.held h c.bind.ensures (inr (e.first, e.second)) e.second_end

pub returns-in-Atom-dereference-2-clause-steady : goal.returns-in-Atom-dereference-2-clause-steady
returns-in-Atom-dereference-2-clause-steady g c =
    bind_keeps (g.N.Nodes.shown c.args.nodes.now) c.args.scratch.now c.bind-in-Atom-dereference-2.new.scratch c.in-Place.first c.in-Atom-dereference-2.atom c.bind-in-Atom-dereference-2.result (g.met.N.Nodes.lawful c.args.nodes.now) c.requires.held c.requires.pairs_held c.in-Place.ensures.0.held c.bind-in-Atom-dereference-2.ensures

pub returns-in-Atom-dereference-2-clause-outcome : goal.returns-in-Atom-dereference-2-clause-outcome
returns-in-Atom-dereference-2-clause-outcome g c log h =
    let v = g.N.Nodes.shown c.args.nodes.now in
    let e = ends_are v c.args.scratch.now log c.args.a c.args.b (target.Place c.in-Place.first) (target.Atom c.in-Atom-dereference-2.atom) h c.in-Place.ensures.0 c.in-Atom-dereference-2.ensures in
    bind_outcome v c.args.scratch.now c.bind-in-Atom-dereference-2.new.scratch log c.args.a c.args.b c.in-Place.first c.in-Atom-dereference-2.atom c.bind-in-Atom-dereference-2.result (g.met.N.Nodes.lawful c.args.nodes.now) c.requires.held c.in-Place.ensures.0.held h c.bind-in-Atom-dereference-2.ensures (inl (e.first, e.second)) e.first_end

pub returns-then-goes_first-clause-outcome : goal.returns-then-goes_first-clause-outcome
returns-then-goes_first-clause-outcome g c log h =
    let v = g.N.Nodes.shown c.args.nodes.now in
    let s = g.met.N.Nodes.lawful c.args.nodes.now in
    let f = place_facts g (goal.at.returns-then-goes_first-clause-outcome g c).After-goes_first in
    let e = f.1 log h in
    merge_step v c.args.scratch.now c.merge.new.scratch log c.args.a c.args.b _ _ h c.merge.ensures f.0 (key_below v s c.in-Place.first c.in-Place.ensures.0.held) (key_below v s c.in-Place-dereference-2.second c.in-Place-dereference-2.ensures.0.held) (inl (e.first, e.second)) e.first_end e.second_end

pub returns-else-goes_first-clause-outcome : goal.returns-else-goes_first-clause-outcome
returns-else-goes_first-clause-outcome g c log h =
    let v = g.N.Nodes.shown c.args.nodes.now in
    let s = g.met.N.Nodes.lawful c.args.nodes.now in
    let f = place_facts g (goal.at.returns-else-goes_first-clause-outcome g c).After-goes_first in
    let e = f.1 log h in
    merge_step v c.args.scratch.now c.merge-else-goes_first.new.scratch log c.args.a c.args.b _ _ h c.merge-else-goes_first.ensures (λ q. f.0 (sym q)) (key_below v s c.in-Place-dereference-2.second c.in-Place-dereference-2.ensures.0.held) (key_below v s c.in-Place.first c.in-Place.ensures.0.held) (inr (e.first, e.second)) e.second_end e.first_end
