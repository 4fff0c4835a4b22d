use Rattle.std.proofs.Common.{◌≡◌, ◌∙◌, ◌++◌, ap, sym, subst, ℕ, Bool, List}
use Rattle.std.proofs.lemmas.Result.{err_from_is_err_and}
use Rattle.jet_file.specs.Outside.{WhereTold}
use Rattle.jet_plan.specs.PlanText.{plan_text}
use Rattle.jet_worker.specs.Calls.{Calling}
use Rattle.jet_cli.specs.Planned.{IsPlanned}
use Rattle.jet_cli.specs.WordsView.{job_read}
use Rattle.jet_cli.proofs.CommandLemmas.{goes_plan_lost, goes_plan_stops, goes_planned, goes_read_halts}
use Rattle.jet_cli.proofs.commands.run_plan.Goals as goal

pub returns-in_err-write_text-clause-halt : goal.returns-in_err-write_text-clause-halt
returns-in_err-write_text-clause-halt g c =
    let p = err_from_is_err_and c.from_residual-in_err-write_text.result c.from_residual-in_err-write_text.ensures.1 in
    let plan = c.in_ok-plan.plan in
    let is : c.deref.result.now ≡ plan_text plan.dag plan.settings =
    c.deref.ensures.value ∙ c.in_ok-print_plan.ensures.ok ∙ ap (λ (l : List ℕ). l ++ plan_text plan.dag plan.settings) c.new-text.ensures.items in
    rw (p.1, p.2) (goes_plan_stops (job_read c.args.words.now) plan c.deref.result.now c.in_err-write_text.field-0.0 (g.O.Outside.opened c.args.out.now) (g.O.Outside.opened c.read_plan.new.out)
    (g.O.Outside.told c.args.out.now) (g.O.Outside.told c.read_plan.new.out) (g.O.Outside.told c.write_text.new.out) c.in_ok-plan.ensures.valid is c.in_ok-plan.ensures.plan c.in_err-write_text.ensures.told)

pub returns-in_err-print_plan-clause-halt : goal.returns-in_err-print_plan-clause-halt
returns-in_err-print_plan-clause-halt g c =
    let p = err_from_is_err_and c.from_residual-in_err-print_plan.result c.from_residual-in_err-print_plan.ensures.1 in
    rw (p.1, p.2) (goes_plan_lost (job_read c.args.words.now) c.in_ok-plan.plan (g.O.Outside.opened c.args.out.now) (g.O.Outside.opened c.read_plan.new.out)
    (g.O.Outside.told c.args.out.now) (g.O.Outside.told c.read_plan.new.out) c.in_ok-plan.ensures.plan)

pub returns-clause-done : goal.returns-clause-done
returns-clause-done g c =
    let plan = c.in_ok-plan.plan in
    let is : c.deref.result.now ≡ plan_text plan.dag plan.settings =
    c.deref.ensures.value ∙ c.in_ok-print_plan.ensures.ok ∙ ap (λ (l : List ℕ). l ++ plan_text plan.dag plan.settings) c.new-text.ensures.items in
    subst (λ (now : ℕ → Bool). WhereTold (Calling (IsPlanned (job_read c.args.words.now) (g.O.Outside.opened c.args.out.now) now)) (g.O.Outside.told c.args.out.now) (g.O.Outside.told c.write_text.new.out))
    (sym c.in_ok-write_text.ensures.outcome.opened_same)
    (goes_planned (job_read c.args.words.now) plan c.deref.result.now (g.O.Outside.opened c.args.out.now) (g.O.Outside.opened c.read_plan.new.out) (g.O.Outside.told c.args.out.now) (g.O.Outside.told c.read_plan.new.out)
    (g.O.Outside.told c.write_text.new.out) c.in_ok-plan.ensures.valid is c.in_ok-plan.ensures.plan c.in_ok-write_text.ensures.told)

pub returns-in_err-plan-clause-halt : goal.returns-in_err-plan-clause-halt
returns-in_err-plan-clause-halt g c =
    let p = err_from_is_err_and c.from_residual.result c.from_residual.ensures.1 in
    rw (p.1, p.2) (goes_read_halts (job_read c.args.words.now) c.in_err-plan.field-0.0 (g.O.Outside.told c.args.out.now) (g.O.Outside.told c.read_plan.new.out) c.in_err-plan.ensures.halt)
