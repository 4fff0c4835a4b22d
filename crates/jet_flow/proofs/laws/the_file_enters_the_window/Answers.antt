use Rattle.std.proofs.Common.{sym, subst, unsigned_abs}
use Rattle.jet_plan.specs.declared.dag.Dag.{Dag}
use Rattle.jet_flow.specs.Grain.{IsGrain}
use Rattle.jet_flow.proofs.Divisors.{of_one}
use Rattle.jet_flow.proofs.laws.the_file_enters_the_window.Goals as goal

pub returns-clause-grain : goal.returns-clause-grain
returns-clause-grain c = λ file lag size slide is. subst (λ (dag : Dag). IsGrain dag (unsigned_abs slide)) (sym is) (of_one (unsigned_abs slide))
