use Rattle.std.proofs.Common.{◌++◌, ◌∷◌, [], option_map, sym, ap, ◌∙◌, subst}
use Rattle.patr_canon.proofs.Names.{ArePlaces, if_ok_both, target_seen}
use Rattle.patr_canon.proofs.Reading.{end_is, one_number}
use Rattle.patr_canon.proofs.reader.Reader.end.Goals as goal

pub returns : goal.returns
returns c =
    if_ok_both c.put.result _ _ _
    (λ put same numbers places len. (
      numbers ++ c.in-Some.begun.number ∷ [],
      subst (λ m. ArePlaces m (numbers ++ c.in-Some.begun.number ∷ [])) (sym same.0) (c.in_ok-note.ensures numbers places (len ∙ sym c.in_ok-place.ensures)),
      one_number numbers c.in-Some.begun.number c.args.self.now.nodes.items c.put.new.self.nodes.items c.in-Some.begun.links len (ap (λ v. v.items) same.1 ∙ c.in_ok-push.ensures.items),
      put (numbers ++ c.in-Some.begun.number ∷ [])
          ∙ end_is c.args.self.now.begun.items c.pop.new.self.items c.in-Some.begun (option_map target_seen c.args.self.now.root) c.args.self.now.nodes.items c.push.new.self.items numbers c.in_ok-place.place c.in-Some.ensures.items
          c.in_ok-push.ensures.items c.in_ok-place.ensures,
    )) c.put.ensures.put c.put.ensures.same
