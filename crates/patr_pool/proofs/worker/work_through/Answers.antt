use Rattle.std.proofs.Common.{◌<◌, ◌++◌, ◌∷◌, [], List, ℕ, Bool, false, true, true≢false, sym, subst}
use Rattle.patr_pool.specs.Outcomes.{AreTasks, Yielded}
use Rattle.patr_pool.proofs.MoreOutcomes.{more_tasks, fewer_left, more_yields, said_stop, stops}
use Rattle.patr_pool.proofs.worker.work_through.Goals as goal

pub returns-then-branch : goal.returns-then-branch
returns-then-branch g c =
    let i = c.loop-task.invariant in
    let taken = c.in-Some.ensures.task in
    let list : List ℕ = g.D.Desk.taken c.loop-task.seat in
    let others = subst (λ (n : ℕ). AreTasks n list) c.requires.tasks.1 i.tasks in
    let second = c.in_ok-do_task.ensures.second list (others, taken.other) i.local in
    let yields = more_yields (g.W.Work.first_fact c.args.work.now) _ list _ _ _ i.yields taken.other c.in_ok-do_task.ensures.yields in record {
      here = c.take.ensures.here;
      ended = λ went_on. absurd (true≢false went_on);
      stopper = λ _. stops (g.W.Work.first_fact c.args.work.now) c.in-Some.task list (g.D.Desk.taken c.take.new.seat) taken.appended
          (said_stop (g.W.Work.first_fact c.args.work.now) _ _ _ _ c.in_ok-do_task.ensures.yields c.if-branch.true);
      local = subst (λ (l : List ℕ). g.W.Work.second_fact c.args.work.now l true c.do_task.new.local) (sym taken.appended)
          (subst (λ (stop : Bool). g.W.Work.second_fact c.args.work.now (list ++ c.in-Some.task ∷ []) stop c.do_task.new.local) c.if-branch.true second);
      yields = subst (λ (l : List ℕ). Yielded (g.W.Work.first_fact c.args.work.now) l true c.do_task.new.yields.items) (sym taken.appended)
          (subst (λ (stop : Bool). Yielded (g.W.Work.first_fact c.args.work.now) (list ++ c.in-Some.task ∷ []) stop c.do_task.new.yields.items) c.if-branch.true yields);
    }

pub loop-task-smaller : goal.loop-task-smaller
loop-task-smaller g c =
    let taken = c.in-Some.ensures.task in
    let below : c.in-Some.task < c.args.of = subst (λ (n : ℕ). c.in-Some.task < n) (sym c.requires.tasks.0) taken.below in
    fewer_left c.args.of c.in-Some.task (g.D.Desk.taken c.loop-task.seat) (g.D.Desk.taken c.take.new.seat) taken.appended c.loop-task.invariant.tasks below taken.other

pub loop-task-preserved : goal.loop-task-preserved
loop-task-preserved g c =
    let i = c.loop-task.invariant in
    let taken = c.in-Some.ensures.task in
    let below : c.in-Some.task < c.args.of = subst (λ (n : ℕ). c.in-Some.task < n) (sym c.requires.tasks.0) taken.below in
    let went = c.if-branch.false in
    let list : List ℕ = g.D.Desk.taken c.loop-task.seat in
    let others = subst (λ (n : ℕ). AreTasks n list) c.requires.tasks.1 i.tasks in
    let second = c.in_ok-do_task.ensures.second list (others, taken.other) i.local in
    let yields = more_yields (g.W.Work.first_fact c.args.work.now) _ list _ _ _ i.yields taken.other c.in_ok-do_task.ensures.yields in record {
      here = c.take.ensures.here;
      before_none = c.in-Some.ensures.going_on;
      tasks = subst (λ (l : List ℕ). AreTasks c.args.of l) (sym taken.appended) (more_tasks _ _ _ i.tasks below taken.other);
      local = subst (λ (l : List ℕ). g.W.Work.second_fact c.args.work.now l false c.do_task.new.local) (sym taken.appended)
          (subst (λ (stop : Bool). g.W.Work.second_fact c.args.work.now (list ++ c.in-Some.task ∷ []) stop c.do_task.new.local) went second);
      yields = subst (λ (l : List ℕ). Yielded (g.W.Work.first_fact c.args.work.now) l false c.do_task.new.yields.items) (sym taken.appended)
          (subst (λ (stop : Bool). Yielded (g.W.Work.first_fact c.args.work.now) (list ++ c.in-Some.task ∷ []) stop c.do_task.new.yields.items) went yields);
    }
