use Rattle.std.proofs.Common.{◌≡◌, pos, ◌∙◌, sym, ap, to_z, w64, arith, Option, None}
use Rattle.std.specs.Prelude.{option_map}
use Rattle.jet_file.specs.Outside.{Told}
use Rattle.jet_items.specs.declared.no_memory.Refused.{Refused}
use Rattle.jet_items.specs.declared.no_memory.Refused.TheVariants as refused
use Rattle.std.proofs.lemmas.Int.{ints}
use Rattle.jet_plan.specs.Defaults.{defaults}
use Rattle.jet_plan.specs.Faults.{fault}
use Rattle.jet_plan.specs.Plans.{IsFirst}
use Rattle.jet_plan.specs.declared.dag.Dag.{Dag}
use Rattle.jet_plan.specs.declared.fault.PlanFault.{PlanFault}
use Rattle.jet_plan.specs.declared.settings.Settings.{Settings}
use Rattle.jet_cli.specs.BaseJob.{base_fault}
use Rattle.jet_cli.specs.Halts.{plan_halt}
use Rattle.jet_cli.specs.LineStops.{BaseHalts}
use Rattle.jet_cli.specs.Words.{WindowCommand}
use Rattle.jet_cli.specs.WordsView.{window_in}
use Rattle.jet_cli.specs.declared.status.Refusal.TheVariants.{Plan}
use Rattle.jet_cli.proofs.BaseLemmas.{policy_is}
use Rattle.std.proofs.lemmas.Result.{err_from_is_err_and}
use Rattle.jet_cli.proofs.StopLemmas.{goes_nowhere}
use Rattle.jet_cli.proofs.commands.run_base.Goals as goal

pub unwrap-policy-requires : goal.unwrap-policy-requires
unwrap-policy-requires g c =
    let w = c.args.words.now in
    let valid : base_fault (window_in w) ≡ None = ap (λ (d : Dag). fault d defaults) (sym c.in_ok-dag.ensures) ∙ ap (λ (s : Settings). fault c.in_ok-dag.dag s) (sym c.default.ensures) ∙ c.in_ok-check.ensures.2 in
    let size : to_z w64 w.size ≡ pos w.size = omega (arith, ints, c.requires.small.0) in
    let slide : to_z w64 w.slide ≡ pos w.slide = omega (arith, ints, c.requires.small.1) in
    policy_is (window_in w) (to_z w64 w.size) (to_z w64 w.slide) _ c.new.result size slide c.requires.small.2 valid c.new.ensures.ok

pub returns-in_err-dag-clause-halt : goal.returns-in_err-dag-clause-halt
returns-in_err-dag-clause-halt g c =
    let p = err_from_is_err_and c.from_residual.result c.from_residual.ensures.1 in
    rw (p.1, p.2) (goes_nowhere (window_in c.args.words.now) (g.O.Outside.told c.args.out.now), tt)

-- the planner refused the job, or wanted memory, before any call was made
base_refused : (c : WindowCommand) (dag : Dag) (s : Settings) (told : Option Told) (r : Refused PlanFault) → base_fault c ≡ fault dag s → IsFirst dag s r → BaseHalts c told told (plan_halt r)
base_refused c dag s told (refused.Fault why) same first = ap (option_map Plan) (same ∙ first)
base_refused c dag s told refused.NoMemory same first = (goes_nowhere c told, tt)

pub returns-in_err-check-clause-halt : goal.returns-in_err-check-clause-halt
returns-in_err-check-clause-halt g c =
    let w = c.args.words.now in
    let p = err_from_is_err_and c.from_residual-in_err-check.result c.from_residual-in_err-check.ensures.1 in
    let same : base_fault (window_in w) ≡ fault c.in_ok-dag.dag c.default.result = ap (λ (d : Dag). fault d defaults) (sym c.in_ok-dag.ensures) ∙ ap (λ (s : Settings). fault c.in_ok-dag.dag s) (sym c.default.ensures) in
    rw (p.1, p.2) (base_refused (window_in w) c.in_ok-dag.dag c.default.result (g.O.Outside.told c.args.out.now) c.in_err-check.field-0.0 same c.in_err-check.ensures)
