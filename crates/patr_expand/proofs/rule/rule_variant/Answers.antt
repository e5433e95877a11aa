use Rattle.std.proofs.Common.{◌≡◌, ◌≤◌, ◌/◌, ◌%◌, ◌++◌, ◌∙◌, ap, arith, filter_map, length, map, refl, subst, sym, List}
use Rattle.patr_model.specs.Build.{category_equations, placed_equation}
use Rattle.patr_grammar.specs.declared.grammar.SymbolText.{SymbolText}
use Rattle.patr_grammar.specs.Reading.{equation_seen, equations_seen}
use Rattle.patr_expand.specs.declared.equation.Equation.{Equation}
use Rattle.patr_expand.specs.Meant.{meant_by}
use Rattle.patr_expand.specs.Seen.{cat, equations_at, number, symbols_seen}
use Rattle.patr_expand.specs.Frames.{IsPlace, variant_at}
use Rattle.patr_expand.specs.Written.{written}
use Rattle.patr_expand.proofs.Rules.{equations_place, few_symbols, made_symbols, made_variant, plainly_written, symbols_are}
use Rattle.patr_expand.proofs.rule.rule_variant.Goals as goal

pub variant-requires : goal.variant-requires
variant-requires c =
    let r = c.args.rule.now in
    let p = c.args.parts in
    let row : written (meant_by c.in_ok-templates.templates) c.deref-2.result.now ≡ equations_seen r.equations.items = (λ i. written (c.in_ok-templates.ensures i) (c.deref-2.ensures.value i)) ∙ plainly_written r.equations.items in
    subst (λ row. IsPlace row p.equations (c.from-2.result % p.equations)) (sym row)
    (subst (λ n. IsPlace (equations_seen r.equations.items) p.equations (n % p.equations)) (sym c.from-2.ensures) (equations_place r p c.args.variant c.requires))

pub push_categories-requires : goal.push_categories-requires
push_categories-requires c =
    let r = c.args.rule.now in
    let n = c.args.variant in
    let symbols = symbols_are r c.args.parts n c.requires c.in_ok-symbols.symbols.items c.push_right.new.found.items c.deref.result.now c.from.result c.in_ok-symbols.ensures.items c.deref.ensures.value c.from.ensures c.in_ok-push_right.ensures in
    let few = few_symbols r c.push_right.new.found.items r.mother (n / c.args.parts.equations) symbols in
    record { few = omega (arith, few.1, ap (λ (l : List SymbolText). length l) c.deref-3.ensures.value) }

pub push_written-requires : goal.push_written-requires
push_written-requires c =
    let r = c.args.rule.now in
    let n = c.args.variant in
    let symbols = symbols_are r c.args.parts n c.requires c.in_ok-symbols.symbols.items c.push_right.new.found.items c.deref.result.now c.from.result c.in_ok-symbols.ensures.items c.deref.ensures.value c.from.ensures c.in_ok-push_right.ensures in
    let few = few_symbols r c.push_right.new.found.items r.mother (n / c.args.parts.equations) symbols in
    record { few = omega (arith, few.1, ap (λ (l : List SymbolText). length l) c.deref-4.ensures.value) }

pub invariant_of-result : goal.invariant_of-result
invariant_of-result c =
    let r = c.args.rule.now in
    let n = c.args.variant in
    let symbols = symbols_are r c.args.parts n c.requires c.in_ok-symbols.symbols.items c.push_right.new.found.items c.deref.result.now c.from.result c.in_ok-symbols.ensures.items c.deref.ensures.value c.from.ensures c.in_ok-push_right.ensures in
    let few = few_symbols r c.push_right.new.found.items r.mother (n / c.args.parts.equations) symbols in
    record { some = few.0; few = few.1 }

pub returns : goal.returns
returns c =
    let r = c.args.rule.now in
    let p = c.args.parts in
    let n = c.args.variant in
    let found = c.push_right.new.found.items in
    let symbols = symbols_are r p n c.requires c.in_ok-symbols.symbols.items found c.deref.result.now c.from.result c.in_ok-symbols.ensures.items c.deref.ensures.value c.from.ensures c.in_ok-push_right.ensures in
    let row : written (meant_by c.in_ok-templates.templates) c.deref-2.result.now ≡ equations_seen r.equations.items = (λ i. written (c.in_ok-templates.ensures i) (c.deref-2.ensures.value i)) ∙ plainly_written r.equations.items in
    let es = map (λ e. equation_seen e.now) c.in_ok-written.written.items in
    let taken = c.in_ok-written.ensures ∙ (λ i. variant_at (row i) (c.from-2.ensures i % p.equations)) in
    let categories = c.in_ok-push_categories.ensures ∙ (λ i. equations_at (c.new-equations.ensures.items i) ++ category_equations number cat 0 (symbols_seen (c.deref-3.ensures.value i))) in
    let all = c.in_ok-push_written.ensures ∙ (λ i. categories i ++ filter_map (placed_equation number (symbols_seen (c.deref-4.ensures.value i))) (map (λ e. equation_seen e.now) (c.deref-5.ensures.value i))) in
    record {
      rule = refl;
      variant = refl;
      symbols = made_symbols r p n c.requires found symbols;
      made = λ d. made_variant r p n c.requires found c.push_written.new.equations.items es d symbols taken all;
    }
