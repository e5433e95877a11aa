-- Without written equations, the replies by categories alone and by solutions are the same.
use Rattle.std.proofs.Common.{inl, inr, ℕ, suc, Bool, true, false, List, [], ◌∷◌, map, ap}
use Rattle.patr_lists.proofs.Alls.{all_weaker}
use Rattle.patr_model.specs.Derivation.{Rules, Derivation}
use Rattle.patr_model.specs.Chart.{Judgement, InChart, IsChart, HasMoreThan, IsAnalysis}
use Rattle.patr_model.specs.Plain.{plain, IsBare}
use Rattle.patr_model.specs.Solved.{solved}
use Rattle.patr_model.specs.Session.{Grounds, State, cat_of, Judge, AreAnalyses, ListsAnalyses, CountsEdges, IsSentenceReply, too_long, unknown, too_many, analyses}
use Rattle.patr_model.specs.Notations.{lines_with_commands}
use Rattle.patr_model.specs.Bytes.{same_text}
use Rattle.patr_model.specs.Build.{keys_of}
use Rattle.patr_model.proofs.PlainSolved.{bare_has, bare_chains, plain_is_solvable, solvable_is_plain}
use Rattle.patr_model.proofs.Wholes.{solved_go_by_category}
use Rattle.patr_totality.specs.Laws.{HasLeast}
use Rattle.patr_totality.proofs.Ready.{bare_ready}
use Rattle.patr_totality.proofs.Least.{decide_least}
use Rattle.patr_totality.proofs.Charts.{plain_charts}
use Rattle.patr_laws.specs.Bare.{by_categories, SameReplies, WithoutEquationsNothingChanges}
use Rattle.patr_laws.proofs.BareBuilds.{builds_are_bare}
use Rattle.patr_laws.proofs.SessionReplies.{lines_replied}

-- ---- replies by one judgement are those by another that has the same edges and the same analyses

more_carried : (j k : Judgement) (g : Rules) (ws : List ℕ) → ((t : Derivation) → InChart j g ws t → InChart k g ws t) → (n : ℕ) → HasMoreThan j g ws n → HasMoreThan k g ws n
more_carried j k g ws f n (inl m) = inl (m.0, m.1, all_weaker (InChart j g ws) (InChart k g ws) f m.0 m.2, m.3)
more_carried j k g ws f n (inr m) = inr (m.0, f m.0 m.1, m.2)

-- what is an edge or an analysis by J is one by K
record Carries (J K : Judge) (s : Grounds) : Type 0 where
  edges : (ws : List ℕ) (t : Derivation) → InChart (J s.rules (cat_of s)) s.rules ws t → InChart (K s.rules (cat_of s)) s.rules ws t
  whole : (ws : List ℕ) (t : Derivation) → IsAnalysis (J s.rules (cat_of s)) s.rules ws t → IsAnalysis (K s.rules (cat_of s)) s.rules ws t

module _ (J K : Judge) (s : Grounds) (forth : Carries J K s) (back : Carries K J s) where
  abbrev j : Judgement
  j = J s.rules (cat_of s)

  abbrev k : Judgement
  k = K s.rules (cat_of s)

  chart_carried : (ws : List ℕ) (ts : List Derivation) → IsChart j s.rules ws ts → IsChart k s.rules ws ts
  chart_carried ws ts c = record {
    once = c.once;
    edges = all_weaker (InChart j s.rules ws) (InChart k s.rules ws) (forth.edges ws) ts c.edges;
    every = λ t h. c.every t (back.edges ws t h);
  }

  analyses_carried : (ws : List ℕ) (ts : List Derivation) → AreAnalyses J s ws ts → AreAnalyses K s ws ts
  analyses_carried ws ts a = record {
    rises = a.rises;
    each = all_weaker (IsAnalysis j s.rules ws) (IsAnalysis k s.rules ws) (forth.whole ws) ts a.each;
    every = λ t h. a.every t (back.whole ws t h);
  }

  lines_carried : (f : Bool) (n : ℕ) (ts : List Derivation) (text : List ℕ) → ListsAnalyses J s f n ts text → ListsAnalyses K s f n ts text
  lines_carried f n [] text l = l
  lines_carried false n (t ∷ ts) text l = (l.0, lines_carried false (suc n) ts l.0 l.1, l.2)
  lines_carried true n (t ∷ ts) text l = (l.0, l.1, l.2, lines_carried true (suc n) ts l.1 l.3, l.4)

  count_carried : (ws : List ℕ) (f : Bool) (text : List ℕ) → CountsEdges J s ws f text → CountsEdges K s ws f text
  count_carried ws false text c = c
  count_carried ws true text c = (c.0, chart_carried ws c.0 c.1, c.2)

  sentence_carried : (st : State) (ws : List (List ℕ)) (text : List ℕ) → IsSentenceReply J s st ws text → IsSentenceReply K s st ws text
  sentence_carried st ws text (too_long l e) = too_long l e
  sentence_carried st ws text (unknown p w l u e) = unknown p w l u e
  sentence_carried st ws text (too_many l all more e) = too_many l all (more_carried j k s.rules (map s.names.number ws) (forth.edges (map s.names.number ws)) st.limit more) e
  sentence_carried st ws text (analyses l all less a) =
      let vs = map s.names.number ws in
      analyses l all (λ m. less (more_carried k j s.rules vs (back.edges vs) st.limit m)) (a.0, a.1, a.2, analyses_carried vs a.0 a.3, lines_carried st.features 1 a.0 a.1 a.4, count_carried vs st.count a.2 a.5, a.6)

-- ---- categories and solutions

module _ (g : Rules) (cat : ℕ) (is : IsBare g cat) (ws : List ℕ) (t : Derivation) where
  analysis_solved : IsAnalysis (plain g) g ws t → IsAnalysis (solved g cat) g ws t
  analysis_solved a =
      let can = plain_is_solvable g cat is ws t a.derivation a.edge in
      let l : HasLeast g t = elim (decide_least g cat (bare_ready g cat is) ws t a.derivation) [ inl l ↦ l | inr none ↦ absurd (none can) ] in
      record {
        derivation = a.derivation;
        complete = a.complete;
        start = a.start;
        end = a.end;
        edge = can;
        whole = (solved_go_by_category.whole g cat (bare_has g cat is) (bare_chains g cat is) ws t a.derivation a.complete l.0 l.1 l.2).1 a.whole;
      }

  analysis_plain : IsAnalysis (solved g cat) g ws t → IsAnalysis (plain g) g ws t
  analysis_plain a = record {
    derivation = a.derivation;
    complete = a.complete;
    start = a.start;
    end = a.end;
    edge = solvable_is_plain g cat is ws t a.derivation a.edge;
    whole = (solved_go_by_category.whole g cat (bare_has g cat is) (bare_chains g cat is) ws t a.derivation a.complete a.whole.0 a.whole.1 a.whole.2).0 a.whole;
  }

same_replies : (s : Grounds) → IsBare s.rules (cat_of s) → SameReplies s
same_replies s is =
    let forth : Carries by_categories solved s = record { edges = λ ws t. (plain_charts s.rules (cat_of s) is ws t).0; whole = λ ws t. analysis_solved s.rules (cat_of s) is ws t } in
    let back : Carries solved by_categories s = record { edges = λ ws t. (plain_charts s.rules (cat_of s) is ws t).1; whole = λ ws t. analysis_plain s.rules (cat_of s) is ws t } in
    record {
      sentences = λ st ws text. (sentence_carried by_categories solved s forth back st ws text, sentence_carried solved by_categories s back forth st ws text);
      sessions = λ st ls text quit. (
        lines_replied by_categories solved s s (sentence_carried by_categories solved s forth back) lines_with_commands (λ st c text m. m) st ls text quit,
        lines_replied solved by_categories s s (sentence_carried solved by_categories s back forth) lines_with_commands (λ st c text m. m) st ls text quit,
      );
    }

pub nothing_changes : WithoutEquationsNothingChanges
nothing_changes = record {
  over_variants = same_replies;
  as_built = λ N g l none paths. same_replies _ (builds_are_bare.by_texts N.number same_text (keys_of N) g l (builds_are_bare.keys N) (ap (map (map N.number)) paths) none);
}
