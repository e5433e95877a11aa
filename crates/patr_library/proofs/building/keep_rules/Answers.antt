use Rattle.std.proofs.Common.{arith}
use Rattle.patr_library.proofs.Names.{err_from_is_err_and, get_there, shown_of, HasNoRule, HasRuleItem, variants_of}
use Rattle.patr_library.proofs.Keeping.{fault_here, next_dealt, rules_first}
use Rattle.patr_library.proofs.building.keep_rules.Goals as goal

pub returns-in_err-keep_one-clause-refused : goal.returns-in_err-keep_one-clause-refused
returns-in_err-keep_one-clause-refused c =
    let rs = c.args.grammar.now.rules.items in
    let r = get_there rs c.loop-rule.rule (omega (arith, c.loop-rule-test.true, c.len-rule-end.ensures)) in
    let p = err_from_is_err_and c.from_residual.result c.from_residual.ensures.1 in
    rw (p.1, p.2) (fault_here rules_first rs c.loop-rule.rule r.0 c.in_err-keep_one.field-0.0 r.1 c.loop-rule.invariant.1 (c.in_err-keep_one.ensures.refused r.0 r.1))

pub loop-rule-preserved : goal.loop-rule-preserved
loop-rule-preserved c =
    let rs = c.args.grammar.now.rules.items in
    let r = get_there rs c.loop-rule.rule (omega (arith, c.loop-rule-test.true, c.len-rule-end.ensures)) in
    next_dealt rules_first HasRuleItem HasNoRule variants_of rs c.loop-rule.rule r.0 (shown_of c.args.arena.now) (shown_of c.loop-rule.arena) (shown_of c.keep_one.new.arena) c.args.items.now.items c.loop-rule.items.items c.keep_one.new.items.items r.1 c.loop-rule.invariant
    (c.in_ok-keep_one.ensures.dealt r.0 r.1) (c.in_ok-keep_one.ensures.faultless r.0 r.1)
