use Rattle.std.proofs.Common.{List, get_or, set, sym, ap, ◌∙◌}
use Rattle.std.proofs.lemmas.List.{get_or-set_other}
use Rattle.jet_crew.specs.Gather.{gather}
use Rattle.jet_crew.proofs.Places.{both_back}
use Rattle.jet_crew.proofs.spot.trade_both.Goals as goal

pub returns-clause-tasks : goal.returns-clause-tasks
returns-clause-tasks g c = c.trade-2.ensures.tasks ∙ ap (λ (ts : List g.row.T.Denot). set ts c.args.j c.args.b.now) c.trade.ensures.tasks

pub returns-clause-taken_too : goal.returns-clause-taken_too
returns-clause-taken_too g c =
    let ts = gather c.args.workers.now.items c.args.order.now.items in
    let b = c.trade-2.new.task in
    sym (get_or-set_other ts c.args.i c.args.j c.args.a.now b (λ e. c.requires.apart (sym e)))
    ∙ (sym (ap (λ (us : List g.row.T.Denot). get_or us c.args.j b) c.trade.ensures.tasks) ∙ c.trade-2.ensures.taken)

pub returns-clause-back : goal.returns-clause-back
returns-clause-back g c = λ x y.
    let ts = gather c.args.workers.now.items c.args.order.now.items in
    ap (λ (us : List g.row.T.Denot). set (set us c.args.i x) c.args.j y) (returns-clause-tasks g c) ∙ both_back ts c.args.i c.args.j c.args.a.now c.args.b.now x y c.requires.apart

pub returns-clause-epochs : goal.returns-clause-epochs
returns-clause-epochs g c = c.trade-2.ensures.epochs ∙ c.trade.ensures.epochs
