use Rattle.std.proofs.Common.{◌≡◌, ◌∙◌, ◌++◌, ◌∷◌, [], length, refl, sym, ap, subst, rules, arith, append_assoc, append-nil}
use Rattle.std.specs.Vec.Iter.{into_iter_items, into_iter_len}
use Rattle.std.proofs.lemmas.List.{nil_from_length}
use Rattle.patr_parse.proofs.Names.{extends_same, sentence_of, IsEdgeAfter, ArePlaced}
use Rattle.patr_parse.proofs.Drafted.{next_draft, placed_more}
use Rattle.patr_parse.proofs.rounds.push_all.Goals as goal

pub loop-draft-init : goal.loop-draft-init
loop-draft-init c =
    let long : into_iter_len c.into_iter-draft-iterator.result ≡ length (into_iter_items c.into_iter-draft-iterator.result) = search rules in
    record { whole = refl; long = long; placed = ([], sym (append-nil c.args.chart.now.edges), tt, extends_same (sentence_of c.args.arena.now)); words = refl }

pub push_draft-requires-clause-old : goal.push_draft-requires-clause-old
push_draft-requires-clause-old c = (next_draft (sentence_of c.args.arena.now) (sentence_of c.loop-draft.arena) c.args.arena.now.lawful c.loop-draft.arena.lawful c.loop-draft.invariant.placed.3 c.args.chart.now.words c.requires.0 c.args.chart.now.edges c.args.drafts.items c.requires.1 c.loop-draft.yielded (into_iter_items c.next.new.self) c.in-Some.draft (ap (λ l. c.loop-draft.yielded ++ l) (sym c.in-Some.ensures.steps.0) ∙ (c.loop-draft.invariant.whole ∙ c.into_iter-draft-iterator.ensures.into_iter_gives.0))).old

pub push_draft-requires-clause-fits : goal.push_draft-requires-clause-fits
push_draft-requires-clause-fits c = (next_draft (sentence_of c.args.arena.now) (sentence_of c.loop-draft.arena) c.args.arena.now.lawful c.loop-draft.arena.lawful c.loop-draft.invariant.placed.3 c.args.chart.now.words c.requires.0 c.args.chart.now.edges c.args.drafts.items c.requires.1 c.loop-draft.yielded (into_iter_items c.next.new.self) c.in-Some.draft (ap (λ l. c.loop-draft.yielded ++ l) (sym c.in-Some.ensures.steps.0) ∙ (c.loop-draft.invariant.whole ∙ c.into_iter-draft-iterator.ensures.into_iter_gives.0))).fits

pub push_draft-requires-clause-mother : goal.push_draft-requires-clause-mother
push_draft-requires-clause-mother c = (next_draft (sentence_of c.args.arena.now) (sentence_of c.loop-draft.arena) c.args.arena.now.lawful c.loop-draft.arena.lawful c.loop-draft.invariant.placed.3 c.args.chart.now.words c.requires.0 c.args.chart.now.edges c.args.drafts.items c.requires.1 c.loop-draft.yielded (into_iter_items c.next.new.self) c.in-Some.draft (ap (λ l. c.loop-draft.yielded ++ l) (sym c.in-Some.ensures.steps.0) ∙ (c.loop-draft.invariant.whole ∙ c.into_iter-draft-iterator.ensures.into_iter_gives.0))).mother

pub push_draft-requires-clause-edge : goal.push_draft-requires-clause-edge
push_draft-requires-clause-edge c =
    subst (λ n. IsEdgeAfter n c.loop-draft.chart.edges c.in-Some.draft.edge) (sym c.loop-draft.invariant.words) (subst (λ l. IsEdgeAfter c.args.chart.now.words l c.in-Some.draft.edge) (sym c.loop-draft.invariant.placed.1)
    ((next_draft (sentence_of c.args.arena.now) (sentence_of c.loop-draft.arena) c.args.arena.now.lawful c.loop-draft.arena.lawful c.loop-draft.invariant.placed.3 c.args.chart.now.words c.requires.0 c.args.chart.now.edges c.args.drafts.items c.requires.1 c.loop-draft.yielded (into_iter_items c.next.new.self) c.in-Some.draft (ap (λ l. c.loop-draft.yielded ++ l) (sym c.in-Some.ensures.steps.0) ∙ (c.loop-draft.invariant.whole ∙ c.into_iter-draft-iterator.ensures.into_iter_gives.0))).after c.loop-draft.invariant.placed.0))

pub loop-draft-preserved : goal.loop-draft-preserved
loop-draft-preserved c =
    let at = c.loop-draft in
    let x = c.in-Some.draft in
    let steps : into_iter_items at.draft-iterator ≡ x ∷ into_iter_items c.next.new.self = c.in-Some.ensures.steps.0 in
    record {
      whole = append_assoc at.yielded (x ∷ []) _ ∙ rw (← steps) at.invariant.whole;
      long = (let was = at.invariant.long in let gone = c.in-Some.ensures.steps.1 in let short = ap length steps in omega arith);
      placed = placed_more (sentence_of c.args.arena.now) (sentence_of at.arena) (sentence_of c.push_draft.new.arena) at.arena.lawful c.push_draft.new.arena.lawful at.yielded c.args.chart.now.edges at.chart.edges c.push_draft.new.chart.edges x at.invariant.placed c.in_ok-push_draft.ensures.placed;
      words = c.in_ok-push_draft.ensures.words ∙ at.invariant.words;
    }

pub returns-clause-placed : goal.returns-clause-placed
returns-clause-placed c =
    let at = c.loop-draft in
    let empty : into_iter_items at.draft-iterator ≡ [] = nil_from_length _ (sym at.invariant.long ∙ c.in-None.ensures.steps.0) in
    let all = sym (append-nil at.yielded) ∙ rw empty at at.invariant.whole ∙ c.into_iter-draft-iterator.ensures.into_iter_gives.0 in
    subst (λ l. ArePlaced (sentence_of c.args.arena.now) (sentence_of at.arena) l c.args.chart.now.edges at.chart.edges) all at.invariant.placed
