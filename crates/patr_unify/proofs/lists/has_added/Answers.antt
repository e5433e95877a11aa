use Rattle.std.proofs.Common.{◌∙◌, ap, sym, subst}
use Rattle.patr_marks.specs.Machine.{has_attribute}
use Rattle.patr_scratch.proofs.Linking.{after_first}
use Rattle.patr_scratch.specs.Contents.{marks, after, EndsOrHas}
use Rattle.patr_unify.specs.Reading.{has_link}
use Rattle.patr_unify.proofs.Keys.{first_has}
use Rattle.patr_unify.proofs.Merges.{has_is, place_room}
use Rattle.patr_unify.proofs.lists.has_added.Goals as goal

pub returns-then-not-extended : goal.returns-then-not-extended
returns-then-not-extended g c = sym (ap (λ es. has_attribute es c.args.attribute) (c.requires.extended c.if-not-extended.true))

pub first_arc-first-requires : goal.first_arc-first-requires
first_arc-first-requires g c =
    place_room (g.N.Nodes.shown c.args.nodes.now) c.args.scratch.now (g.met.N.Nodes.lawful c.args.nodes.now) c.requires.held c.args.place c.number-number.result c.requires.place c.number-number.ensures

pub listed-requires : goal.listed-requires
listed-requires g c =
    let ls = (marks c.args.scratch.now c.args.place.side c.number-number.result).added in
    record {
      place = place_room (g.N.Nodes.shown c.args.nodes.now) c.args.scratch.now (g.met.N.Nodes.lawful c.args.nodes.now) c.requires.held c.args.place c.number-number.result c.requires.place c.number-number.ensures;
      cell = subst (EndsOrHas ls) (sym c.first_arc-first.ensures) (first_has ls);
    }

pub returns : goal.returns
returns g c =
    let ls = (marks c.args.scratch.now c.args.place.side c.number-number.result).added in
    has_is (g.N.Nodes.shown c.args.nodes.now) c.args.scratch.now (g.met.N.Nodes.lawful c.args.nodes.now) c.args.place c.number-number.result c.args.attribute c.listed.result c.requires.place c.number-number.ensures
    (c.listed.ensures ∙ ap (λ us. has_link us c.args.attribute) (ap (after ls) c.first_arc-first.ensures ∙ after_first ls))
