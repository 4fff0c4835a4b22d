use Rattle.std.proofs.Common.{◌+◌, ◌∙◌, get_or, set, sym, subst, arith}
use Rattle.std.proofs.lemmas.List.{get_or_default}
use Rattle.jet_crew.specs.declared.end.EpochEnd.{EpochEnd}
use Rattle.jet_crew.proofs.Places.{SoFar, none_so_far, one_more, all_of_them, epoch_over, all_kept}
use Rattle.jet_crew.proofs.worker.all_turns.Goals as goal

pub loop-task-init : goal.loop-task-init
loop-task-init g c = none_so_far g.T.Turns.went g.T.Turns.said c.args.turns c.args.tasks.now

pub take_turns-next-requires : goal.take_turns-next-requires
take_turns-next-requires g c =
    let ys = c.loop-task.tasks in
    let i = c.loop-task.task-index in
    let t = c.task-item.result in
    record { keeps = subst g.T.Turns.keeps (sym (get_or_default ys i t t (omega arith) ∙ c.loop-task.invariant.others i t (omega arith))) (c.requires.keeps i t (omega arith)) }

pub loop-task-preserved : goal.loop-task-preserved
loop-task-preserved g c =
    let ys = c.loop-task.tasks in
    let i = c.loop-task.task-index in
    let t = c.task-item.result in
    let u = c.take_turns-next.new.task in
    subst (λ (e : EpochEnd). SoFar g.T.Turns.went g.T.Turns.said c.args.turns e c.args.tasks.now (set ys i u) (i + 1)) (sym c.worse-end.ensures)
    (one_more g.T.Turns.went g.T.Turns.said c.args.turns c.loop-task.end c.take_turns-next.result c.args.tasks.now ys i (get_or ys i t) u (omega arith) (get_or_default ys i t (get_or ys i t) (omega arith)) c.loop-task.invariant c.take_turns-next.ensures)

pub returns-clause-took : goal.returns-clause-took
returns-clause-took g c = all_of_them g.T.Turns.went g.T.Turns.said c.args.turns c.loop-task.end c.args.tasks.now c.loop-task.tasks c.loop-task.task-index (omega arith) c.loop-task.invariant

pub returns-clause-over : goal.returns-clause-over
returns-clause-over g c = epoch_over g.T.Turns.went g.T.Turns.said c.args.turns c.requires.some c.law_turns_in_a_row.ensures.went c.law_turns_in_a_row.ensures.said c.loop-task.end c.args.tasks.now c.loop-task.tasks (returns-clause-took g c)

pub returns-clause-kept : goal.returns-clause-kept
returns-clause-kept g c = all_kept g.T.Turns.keeps g.T.Turns.went c.law_turns_in_a_row.ensures.keeps c.args.tasks.now c.loop-task.tasks (returns-clause-over g c).went_all c.requires.keeps
