use Rattle.std.proofs.Common.{◌<◌, length, get_or, arith}
use Rattle.jet_crew.proofs.Places.{all_kept}
use Rattle.jet_crew.proofs.Overall.{over_list, placed_after}
use Rattle.jet_crew.proofs.beside.epoch.Goals as goal

pub returns-clause-over : goal.returns-clause-over
returns-clause-over g c = over_list g.T.Turns.went g.T.Turns.said c.args.turns c.args.workers.now c.work.new.workers c.work.ensures c.came_to.result c.came_to.ensures

pub returns-clause-placed : goal.returns-clause-placed
returns-clause-placed g c = placed_after g.T.Turns.went g.T.Turns.said c.args.turns c.args.workers.now c.work.new.workers c.work.ensures

pub returns-clause-kept : goal.returns-clause-kept
returns-clause-kept g c = λ k d l.
    let inside : k < length c.args.workers.now = let n = c.work.ensures.count in omega (arith, n, l) in
    let was = get_or c.args.workers.now k d in
    let now = get_or c.work.new.workers k d in
    all_kept g.T.Turns.keeps g.T.Turns.went c.law_turns_in_a_row.ensures.keeps was.tasks.items now.tasks.items (c.work.ensures.each k d inside).over.went_all (c.requires.keeps k d inside)
