use Rattle.std.proofs.Common.{ap}
use Rattle.jet_cli.specs.Words.{WindowOf, RunOf, PlanOf, CheckOf}
use Rattle.jet_cli.specs.WordsView.{command_in, job_read, window_in}
use Rattle.jet_cli.proofs.FactLemmas.{base_facts, plan_facts, check_facts}
use Rattle.jet_cli.proofs.MeetLemmas.{meets_as}
use Rattle.jet_cli.proofs.RunFacts.{run_facts}
use Rattle.jet_cli.proofs.commands.run_command.Goals as goal

pub returns-in-Window : goal.returns-in-Window
returns-in-Window g c =
    let o = g.O.Outside in
    let e = c.run_base.ensures in
    let words = window_in c.in-Window.words in
    meets_as o.told o.opened o.steady o.faults (WindowOf words) c.args.out.now c.run_base.new.out (command_in c.args.command.now) c.status_of.result c.run_base.result (ap command_in c.in-Window.is) c.status_of.ensures
    (base_facts c.none_is_behind.ensures o.told o.opened o.steady o.faults words c.args.out.now c.run_base.new.out c.run_base.result e.slide e.done e.valid e.halt e.untouched e.outcome e.works)

pub returns-in-Run : goal.returns-in-Run
returns-in-Run g c =
    let o = g.O.Outside in
    let e = c.run_files.ensures in
    let words = job_read c.in-Run.words in
    meets_as o.told o.opened o.steady o.faults (RunOf words) c.args.out.now c.run_files.new.out (command_in c.args.command.now) c.status_of-in-Run.result c.run_files.result (ap command_in c.in-Run.is) c.status_of-in-Run.ensures
    (run_facts o.told o.opened o.steady o.faults words c.args.out.now c.run_files.new.out c.run_files.result e.done e.halt e.known e.outcome e.works)

pub returns-in-Plan : goal.returns-in-Plan
returns-in-Plan g c =
    let o = g.O.Outside in
    let e = c.run_plan.ensures in
    let words = job_read c.in-Plan.words in
    meets_as o.told o.opened o.steady o.faults (PlanOf words) c.args.out.now c.run_plan.new.out (command_in c.args.command.now) c.status_of-in-Plan.result c.run_plan.result (ap command_in c.in-Plan.is) c.status_of-in-Plan.ensures
    (plan_facts o.told o.opened o.steady o.faults words c.args.out.now c.run_plan.new.out c.run_plan.result e.done e.halt e.no_bad_line e.known e.outcome e.works)

pub returns-in-Check : goal.returns-in-Check
returns-in-Check g c =
    let o = g.O.Outside in
    let e = c.run_check.ensures in
    let words = job_read c.in-Check.words in
    meets_as o.told o.opened o.steady o.faults (CheckOf words) c.args.out.now c.run_check.new.out (command_in c.args.command.now) c.status_of-in-Check.result c.run_check.result (ap command_in c.in-Check.is) c.status_of-in-Check.ensures
    (check_facts o.told o.opened o.steady o.faults words c.args.out.now c.run_check.new.out c.run_check.result e.done e.halt e.known e.outcome e.works)
