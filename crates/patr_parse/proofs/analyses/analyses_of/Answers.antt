use Rattle.std.proofs.Common.{◌≡◌, ℕ, ◌∙◌, List, length, map, sym, ap, subst, arith}
use Rattle.std.specs.List.Sorted.{IsSorted}
use Rattle.std.proofs.lemmas.List.{length-map}
use Rattle.std.proofs.lemmas.Result.{IfOk-weaker}
use Rattle.patr_lists.specs.Numbers.{places}
use Rattle.patr_parse.proofs.Names.{Id, ids, view_of, Shown, Edge, Stored, keys, rules_of, AreAll, edge_of, is_whole}
use Rattle.patr_grammar.specs.declared.grammar.Grammar.{Grammar}
use Rattle.patr_model.proofs.StatedCategories.{are_built}
use Rattle.patr_library.specs.Stored.{entries_of, grammar_of, number, same}
use Rattle.patr_parse.proofs.Pushed.{placed_below}
use Rattle.patr_parse.proofs.Ordered.{analysis_cmp}
use Rattle.patr_parse.proofs.AllAnalyses.{are_all, is_all}
use Rattle.patr_parse.proofs.analyses.analyses_of.Goals as goal

-- the edges that pass, by the start symbol of the library's rules
passing_is : (s : Stored) (v : Shown) (es : List Edge) (words : List Id) (start : Grammar) → start ≡ s.grammar
    → places (is_whole v (length words) start.start.0) 0 es ≡ places (is_whole v (length (ids words)) (rules_of s).start) 0 es
passing_is s v es words start is =
    ap (λ n. places (is_whole v n start.start.0) 0 es) (sym (length-map words (λ (w : Id). w.0))) ∙ ap (λ r. places (is_whole v (length (ids words)) r.start.0) 0 es) is

pub whole_edges-requires : goal.whole_edges-requires
whole_edges-requires c = λ k e at. (c.requires.edges k e at).held

pub with_keys-requires : goal.with_keys-requires
with_keys-requires c = placed_below _ c.args.chart.now.edges _ (c.deref.ensures.value ∙ c.in_ok-edges.ensures.edges)

pub returns-then-len-le1 : goal.returns-then-len-le1
returns-then-len-le1 c =
    let s = c.args.library.now in
    is_all (rules_of s) s c.requires.stored (view_of c.args.view.now) c.args.chart.now.words c.args.chart.now.edges c.in_ok-edges.ensures.chart c.requires.edges (ids c.args.words.now) c.requires.chart
    (are_built number same keys (grammar_of s.grammar) (entries_of s.lexicon)).states c.in_ok-edges.edges.items
    (c.in_ok-edges.ensures.edges ∙ passing_is s (view_of c.args.view.now) c.args.chart.now.edges c.args.words.now c.grammar.result.now c.grammar.ensures) (omega arith)

pub returns : goal.returns
returns c =
    let s = c.args.library.now in
    let g = rules_of s in
    let es = c.args.chart.now.edges in
    let ws : List ℕ = ids c.args.words.now in
    let picked = c.in_ok-found.ensures.edges ∙ c.deref.ensures.value ∙ c.in_ok-edges.ensures.edges ∙ passing_is s (view_of c.args.view.now) es c.args.words.now c.grammar.result.now c.grammar.ensures in
    let sorted : IsSorted analysis_cmp c.sort_unstable.new.self.items = c.sort_unstable.ensures.sorted in
    let all : AreAll g keys.cat ws es (map edge_of c.sort_unstable.new.self.items) =
    are_all g s c.requires.stored (view_of c.args.view.now) c.args.chart.now.words es c.in_ok-edges.ensures.chart c.requires.edges ws c.requires.chart
    (are_built number same keys (grammar_of s.grammar) (entries_of s.lexicon)).states c.in_ok-found.found.items c.sort_unstable.new.self.items
    picked c.in_ok-found.ensures.keys c.sort_unstable.ensures.permutation sorted in
    IfOk-weaker c.edges_of.result (λ edges. edges.items ≡ map edge_of c.deref-2.result.now) (λ found. AreAll g keys.cat ws es found.items)
    (λ found is. subst (λ ns. AreAll g keys.cat ws es ns) (sym (is ∙ ap (map edge_of) c.deref-2.ensures.value)) all) c.edges_of.ensures
