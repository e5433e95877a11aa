use Rattle.std.proofs.Common.{◌∙◌, ap, map, subst, sym, List}
use Rattle.std.proofs.lemmas.Result.{err_from_is_err_and}
use Rattle.patr_grammar.proofs.Names.{Fails, by_id, begins_feature, feature, feature_seen, onto, stage, star}
use Rattle.patr_grammar.specs.declared.grammar.Element.{Element}
use Rattle.patr_grammar.proofs.Cells.{some_left, none_left}
use Rattle.patr_grammar.proofs.Features.{closed, elements_end, elements_is, elements_left}
use Rattle.patr_grammar.proofs.Loops.{fails_at_first, onto_none}
use Rattle.patr_grammar.proofs.reader.Reader.elements.Goals as goal

pub returns-in_err-features : goal.returns-in_err-features
returns-in_err-features c =
    let ts = c.args.self.now.rest.now in
    let f = c.in_err-features.field-0.0 in
    let rest = c.more_elements.new.self.rest.now in
    let all = star (begins_feature by_id) (feature by_id stage) ts in
    let p = err_from_is_err_and c.from_residual.result c.from_residual.ensures.1 in
    let none = ap (λ (es : List Element). onto (map feature_seen es) all) c.new-none.ensures.items ∙ onto_none all in
    record { gives = rw (p.1, p.2) (subst (Fails f rest) (sym (elements_is by_id stage ts)) (fails_at_first f rest all (closed by_id stage) (subst (Fails f rest) none c.in_err-features.ensures.gives))) }

pub returns-then-not-is_empty : goal.returns-then-not-is_empty
returns-then-not-is_empty c =
    let ts = c.args.self.now.rest.now in
    let all = star (begins_feature by_id) (feature by_id stage) ts in
    let none = ap (λ (es : List Element). onto (map feature_seen es) all) c.new-none.ensures.items ∙ onto_none all in
    record { gives = elements_left by_id stage (map feature_seen c.in_ok-features.features.items) ts c.more_elements.new.self.rest.now (sym none ∙ c.in_ok-features.ensures.gives) (some_left c.more_elements.new.self.rest.now (sym c.if-not-is_empty.ensures)) }

pub returns : goal.returns
returns c =
    let ts = c.args.self.now.rest.now in
    let all = star (begins_feature by_id) (feature by_id stage) ts in
    let none = ap (λ (es : List Element). onto (map feature_seen es) all) c.new-none.ensures.items ∙ onto_none all in
    record { gives = elements_end by_id stage (map feature_seen c.in_ok-features.features.items) ts c.more_elements.new.self.rest.now (sym none ∙ c.in_ok-features.ensures.gives) (none_left c.more_elements.new.self.rest.now (sym c.if-not-is_empty.ensures)) }
