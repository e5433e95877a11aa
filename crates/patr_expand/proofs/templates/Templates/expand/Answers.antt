use Rattle.std.proofs.Common.{◌≡◌, ◌<◌, ◌≤◌, ◌∙◌, [], ap, arith, get_or, length, map, sym}
use Rattle.patr_model.specs.Build.{feature_equation}
use Rattle.patr_model.specs.Grammar.{single, variants}
use Rattle.patr_grammar.specs.Levels.{equation_seen}
use Rattle.patr_expand.specs.Meant.{meant_by}
use Rattle.patr_expand.specs.Seen.{number}
use Rattle.patr_expand.specs.Written.{written}
use Rattle.patr_expand.proofs.Variants.{all_lists, fault_behind, few_lists, lists_more, made_of, place_of, small}
use Rattle.patr_expand.proofs.templates.Templates.expand.Goals as goal

pub returns-in-Some-refusal-clause-refused : goal.returns-in-Some-refusal-clause-refused
returns-in-Some-refusal-clause-refused c =
    let t = c.args.self.now in
    let ms = meant_by t in
    fault_behind ms c.args.line c.args.features.now (sym (c.in_default.ensures ms t.known.measured)) ∙ sym (c.in-Some-refusal.ensures _ _ (c.size-size.ensures ms t.known.measured))

pub variant-requires : goal.variant-requires
variant-requires c =
    let t = c.args.self.now in
    let ms = meant_by t in
    let size = c.size-size.ensures ms t.known.measured in
    place_of (written ms c.args.features.now) c.size-size.result c.loop-number.number size (small c.args.line _ _ (sym (c.in_default-refusal.ensures _ _ size))) c.loop-number-test.true

pub loop-number-preserved : goal.loop-number-preserved
loop-number-preserved c =
    let t = c.args.self.now in
    let ms = meant_by t in
    let row = written ms c.args.features.now in
    let n = c.loop-number.number in
    let size = c.size-size.ensures ms t.known.measured in
    let lt : n < length (variants single row) = omega (arith, c.loop-number-test.true, size.variants) in
    let slice = ap (map (λ e. feature_equation number (equation_seen e.now))) c.deref.ensures.value in
    let here = c.in_ok-equations.ensures ∙ slice ∙ made_of c.in_ok-variant.variant.items (get_or (variants single row) n []) c.in_ok-variant.ensures in
    lists_more (variants single row) n c.loop-number.found.items c.in_ok-equations.equations c.push.new.self.items lt c.loop-number.invariant here c.in_ok-push.ensures.items

pub returns-clause-few : goal.returns-clause-few
returns-clause-few c =
    let t = c.args.self.now in
    let ms = meant_by t in
    let row = written ms c.args.features.now in
    let size = c.size-size.ensures ms t.known.measured in
    let few = small c.args.line _ _ (sym (c.in_default-refusal.ensures _ _ size)) in
    few_lists (variants single row) c.loop-number.number c.loop-number.found.items (omega (arith, c.loop-number-test.false, size.variants, few)) few c.loop-number.invariant

pub returns-clause-variants : goal.returns-clause-variants
returns-clause-variants c =
    let t = c.args.self.now in
    let ms = meant_by t in
    let size = c.size-size.ensures ms t.known.measured in
    let few : length (variants single (written ms c.args.features.now)) ≤ 256 = small c.args.line _ _ (sym (c.in_default-refusal.ensures _ _ size)) in
    all_lists ms c.args.features.now c.loop-number.number c.loop-number.found.items (omega (arith, c.loop-number-test.false, size.variants, few)) c.loop-number.invariant

pub returns-clause-faultless : goal.returns-clause-faultless
returns-clause-faultless c =
    let t = c.args.self.now in
    let ms = meant_by t in
    fault_behind ms c.args.line c.args.features.now (sym (c.in_default.ensures ms t.known.measured)) ∙ sym (c.in_default-refusal.ensures _ _ (c.size-size.ensures ms t.known.measured))
