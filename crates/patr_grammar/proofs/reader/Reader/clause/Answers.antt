use Rattle.std.proofs.Common.{◌∙◌, [], sym, refl, nat_eq}
use Rattle.std.specs.HashSet.{contains}
use Rattle.patr_model.specs.Productions.{LetClause}
use Rattle.patr_grammar.proofs.Names.{Id, RuleClause, list_any, names_after, rule_seen, template_seen}
use Rattle.patr_grammar.proofs.Behind.{is_rule, is_template, later_define, later_parameter, put, rule_added, template_added}
use Rattle.patr_grammar.proofs.reader.Reader.clause.Goals as goal
use Rattle.patr_grammar.proofs.reader.Reader.clause.Goals.{then-begins_key-2-via-then-begins_key-2, then-begins_key-2-via-else-begins_key-2+then-begins_key-3}

pub returns-then-begins_key-clause-takes : goal.returns-then-begins_key-clause-takes
returns-then-begins_key-clause-takes c = λ cs h.
    let t = c.in_ok-template.template in
    let names = names_after [] cs in (
      LetClause (template_seen t),
      is_template names c.args.self.now.rest.now (template_seen t) c.template.new.self.rest.now (sym c.begins_key.ensures ∙ c.if-begins_key.true) (c.in_ok-template.ensures.gives names h.named),
      template_added c.args.found.now _ cs t h refl c.in_ok-push.ensures.items (λ n. c.in_ok-insert.ensures.updates.0 n ∙ put t.name.0 n (contains nat_eq c.args.found.now.named n) (list_any (λ (x : Id). nat_eq n x.0) names) (h.named n)),
    )

pub returns-then-begins_key-2-clause-takes : goal.returns-then-begins_key-2-clause-takes
returns-then-begins_key-2-clause-takes c = λ cs h. elim c.then-begins_key-2.branch [
  | then-begins_key-2-via-then-begins_key-2 w ↦ later_define (names_after [] cs) c.args.self.now.rest.now (sym c.if-begins_key.ensures) (sym w.if-begins_key-2.ensures)
  | then-begins_key-2-via-else-begins_key-2+then-begins_key-3 w ↦ later_parameter (names_after [] cs) c.args.self.now.rest.now (sym c.if-begins_key.ensures) (sym w.if-begins_key-2.ensures) (sym w.if-begins_key-3.ensures)
]

pub returns-clause-takes : goal.returns-clause-takes
returns-clause-takes c = λ cs h.
    let r = c.in_ok-rule.rule in (
      RuleClause (rule_seen r),
      is_rule (names_after [] cs) c.args.self.now.rest.now (rule_seen r) c.rule.new.self.rest.now (sym c.if-begins_key.ensures) (sym c.if-begins_key-2.ensures) (sym c.if-begins_key-3.ensures) c.in_ok-rule.ensures.gives,
      rule_added c.args.found.now _ cs r h c.in_ok-push-2.ensures.items refl h.named,
    )
