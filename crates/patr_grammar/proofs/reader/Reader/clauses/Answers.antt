use Rattle.std.proofs.Common.{◌++◌, ◌∷◌, [], ap, arith, length, nat_eq, sym, List, ℕ}
use Rattle.std.proofs.lemmas.Result.{err_from_is_err_and}
use Rattle.patr_grammar.proofs.Names.{by_id, clauses, list_any, of_rules, stage}
use Rattle.patr_grammar.proofs.Behind.{clauses_end, clauses_fail, clauses_more}
use Rattle.patr_grammar.proofs.Cells.{some_left, none_left}
use Rattle.patr_grammar.proofs.Loops.{onto_none}
use Rattle.patr_grammar.proofs.reader.Reader.clauses.Goals as goal

pub loop-self-init : goal.loop-self-init
loop-self-init c =
    let ts = c.args.self.now.rest.now in
    record {
      read = (
        [],
        record { settings = λ i. of_rules (sym c.new.ensures.items i) (sym c.new-2.ensures.items i); named = λ n. ap (λ (ks : List ℕ). list_any (nat_eq n) ks) c.new-3.ensures.empty },
        record { most = length ts; enough = omega arith; is = onto_none (clauses by_id stage (length ts) [] ts) },
      );
      few = omega (arith, ap length c.new.ensures.items);
    }

pub loop-self-preserved : goal.loop-self-preserved
loop-self-preserved c =
    let i = c.loop-self.invariant in
    let ts = c.loop-self.self.rest.now in
    let start = c.args.self.now.rest.now in
    let taken = c.in_ok-clause.ensures.takes i.read.0 i.read.1 in
    record {
      read = (i.read.0 ++ taken.0 ∷ [], taken.2, clauses_more i.read.0 taken.0 ts c.clause.new.self.rest.now (clauses by_id stage (length start) [] start) (some_left ts (sym c.loop-self-test.ensures)) c.in_ok-clause.ensures.shorter taken.1 i.read.2);
      few = omega (arith, i.few, c.in_ok-clause.ensures.few, c.in_ok-clause.ensures.shorter);
    }

pub returns-in_err-clause-clause-reads : goal.returns-in_err-clause-clause-reads
returns-in_err-clause-clause-reads c =
    let i = c.loop-self.invariant in
    let ts = c.loop-self.self.rest.now in
    let start = c.args.self.now.rest.now in
    let p = err_from_is_err_and c.from_residual.result c.from_residual.ensures.1 in
    rw (p.1, p.2) (clauses_fail c.in_err-clause.field-0.0 i.read.0 ts c.clause.new.self.rest.now (clauses by_id stage (length start) [] start) (some_left ts (sym c.loop-self-test.ensures)) (c.in_err-clause.ensures.takes i.read.0 i.read.1) i.read.2)

pub returns-clause-reads : goal.returns-clause-reads
returns-clause-reads c =
    let i = c.loop-self.invariant in
    let ts = c.loop-self.self.rest.now in
    let start = c.args.self.now.rest.now in
    (i.read.0, clauses_end i.read.0 ts (clauses by_id stage (length start) [] start) (none_left ts (sym c.loop-self-test.ensures)) i.read.2, i.read.1)
