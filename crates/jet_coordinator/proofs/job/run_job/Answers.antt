use Rattle.std.proofs.Common.{◌∙◌}
use Rattle.jet_flow.specs.DataFiles.{data_files}
use Rattle.jet_flow.specs.Inflows.{windows}
use Rattle.jet_coordinator.proofs.EndLemmas.{both_ok, carries_all, never_outside, ok_is, outcome_behind, runs_whole, stops_begun}
use Rattle.jet_coordinator.proofs.Steps.{if_err_then}
use Rattle.jet_coordinator.proofs.BeginLemmas.{if_ok_then}
use Rattle.jet_coordinator.proofs.job.run_job.Goals as goal

pub returns-in-Ok-clause-carried : goal.returns-in-Ok-clause-carried
returns-in-Ok-clause-carried g c =
    let told = g.O.Outside.told in
    if_ok_then c.to_end.result (both_ok _ _ c.to_end.result c.to_end.ensures.came (both_ok _ _ c.to_end.result c.to_end.ensures.fit c.to_end.ensures.over)) (λ r h check is.
    carries_all c.ended_runs_are_whole.ensures.carried check (windows c.args.plan.now.dag) (g.O.Outside.opened c.args.out.now) (g.O.Outside.opened c.begin.new.out) (g.O.Outside.opened c.to_end.new.out) c.in-Ok.running r
    (told c.args.out.now) (told c.begin.new.out) (told c.to_end.new.out) h.1.0 h.1.1 (c.in-Ok.ensures.begun check is) h.0)

pub returns-in-Ok-clause-done : goal.returns-in-Ok-clause-done
returns-in-Ok-clause-done g c =
    let told = g.O.Outside.told in
    ok_is c.to_end.result (both_ok _ _ c.to_end.result c.to_end.ensures.came (both_ok _ _ c.to_end.result c.to_end.ensures.fit c.to_end.ensures.over)) (λ r h check is.
    runs_whole c.ended_runs_are_whole.ensures.run check (windows c.args.plan.now.dag) (g.O.Outside.opened c.args.out.now) (g.O.Outside.opened c.begin.new.out) (g.O.Outside.opened c.to_end.new.out) c.in-Ok.running r
    (told c.args.out.now) (told c.begin.new.out) (told c.to_end.new.out) c.to_end.ensures.outcome.opened_same h.1.0 h.1.1 (c.in-Ok.ensures.begun check is) h.0)

pub returns-in-Ok-clause-stop : goal.returns-in-Ok-clause-stop
returns-in-Ok-clause-stop g c =
    let told = g.O.Outside.told in
    if_err_then c.to_end.result c.to_end.ensures.stop (λ stop h check is.
    stops_begun check (windows c.args.plan.now.dag) (g.O.Outside.opened c.args.out.now) (g.O.Outside.opened c.begin.new.out) c.in-Ok.running stop (told c.args.out.now) (told c.begin.new.out) (told c.to_end.new.out) (c.in-Ok.ensures.begun check is) h)

pub returns-in-Ok-clause-works : goal.returns-in-Ok-clause-works
returns-in-Ok-clause-works g c = λ steady.
    never_outside c.to_end.result (data_files c.args.plan.now.dag) (g.O.Outside.told c.args.out.now) (c.to_end.ensures.outcome.works (c.in-Ok.ensures.outcome.steady_same ∙ steady))

pub returns-in-Ok-clause-outcome : goal.returns-in-Ok-clause-outcome
returns-in-Ok-clause-outcome g c =
    outcome_behind g.O.Outside.opened g.O.Outside.steady g.O.Outside.faults c.args.out.now c.begin.new.out c.to_end.new.out c.to_end.result c.in-Ok.ensures.outcome.steady_same c.in-Ok.ensures.outcome.cause c.to_end.ensures.outcome
