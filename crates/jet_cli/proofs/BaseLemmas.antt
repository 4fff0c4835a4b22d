-- The job of `window` has no fault but that of its sizes.
use Rattle.std.proofs.Common.{◌≡◌, ℕ, ◌≤◌, pos, ℤ, [], ◌∷◌, Option, Some, None, refl, sym, ◌∙◌, ap, Bool, true, false, arith, Result, Ok, Err}
use Rattle.std.specs.Prelude.{option_map, int_le, MatchResult}
use Rattle.std.specs.Result.{IsOk}
use Rattle.std.proofs.lemmas.Int.{ints}
use Rattle.jet_items.specs.Ranges.{most_time}
use Rattle.jet_policy.specs.PolicyCause.{policy_fault}
use Rattle.jet_policy.specs.declared.policy.PolicyFault.{PolicyFault}
use Rattle.jet_plan.specs.Defaults.{defaults}
use Rattle.jet_plan.specs.Faults.{shape_faults, end_faults, edge_faults, range_faults, large_faults}
use Rattle.jet_plan.specs.First.{first_of, at_first}
use Rattle.jet_plan.specs.SettingRanges.{has_wrong_lag, is_between}
use Rattle.jet_plan.specs.declared.fault.PlanFault.{PlanFault}
use Rattle.jet_plan.specs.declared.fault.PlanFault.TheVariants.{Policy, Setting}
use Rattle.jet_plan.specs.declared.setting_name.SettingName.TheVariants.{Lag}
use Rattle.jet_cli.specs.BaseJob.{base_dag, base_fault, base_vertices}
use Rattle.jet_cli.specs.Words.{WindowCommand}

shape_none : (c : WindowCommand) → shape_faults (base_dag c) ≡ None ∷ None ∷ None ∷ None ∷ None ∷ []
unfolding shape_faults
shape_none c = refl

end_none : (c : WindowCommand) → end_faults (base_dag c) ≡ None ∷ None ∷ None ∷ None ∷ []
unfolding end_faults
end_none c = refl

edge_none : (c : WindowCommand) → edge_faults (base_dag c) defaults ≡ None ∷ None ∷ None ∷ None ∷ None ∷ []
unfolding edge_faults
edge_none c = refl

large_none : (c : WindowCommand) → large_faults (base_dag c) defaults ≡ None ∷ None ∷ []
unfolding large_faults
large_none c = refl

-- the fault of the sizes, as that of the first vertex that has one
abbrev sizes_fault : Option PolicyFault → Option PlanFault
sizes_fault why = option_map (λ (p : ℕ × PolicyFault). Policy p.0 p.1) (first_of (None ∷ option_map (λ (w : PolicyFault). (1, w)) why ∷ None ∷ None ∷ []))

abbrev lag_fault : Bool → Option PlanFault
lag_fault true = None
lag_fault false = Some (Setting (Lag 0))

lag_is : (c : WindowCommand) (b : Bool) → is_between 0 most_time (pos c.lag) ≡ b → at_first (λ i. Setting (Lag i)) (λ v. has_wrong_lag v.kind) (base_vertices c) ≡ lag_fault b
lag_is c true is = rw is refl
lag_is c false is = rw is refl

range_is : (c : WindowCommand) → range_faults (base_dag c) defaults ≡
    None ∷ sizes_fault (policy_fault (pos c.size) (pos c.slide)) ∷ None ∷ at_first (λ i. Setting (Lag i)) (λ v. has_wrong_lag v.kind) (base_vertices c) ∷ []
unfolding range_faults
range_is c = refl

le_true : (m n : ℕ) → m ≤ n → int_le (pos m) (pos n) ≡ true
le_true m n h = grind (arith, ints)

lag_between : (lag : ℕ) → lag ≤ most_time → is_between 0 most_time (pos lag) ≡ true
lag_between lag h = rw (le_true 0 lag (omega arith), le_true lag most_time h) refl

-- the fault of the sizes alone
sized : (why : Option PolicyFault) → first_of (None ∷ sizes_fault why ∷ None ∷ None ∷ None ∷ None ∷ []) ≡ option_map (Policy 1) why
sized None = refl
sized (Some why) = refl

-- the job of `window` has the fault of its sizes, by the number of the accumulate vertex
pub base_fault_is : (c : WindowCommand) → c.lag ≤ most_time → base_fault c ≡ option_map (Policy 1) (policy_fault (pos c.size) (pos c.slide))
base_fault_is c small =
    rw (shape_none c, end_none c, edge_none c, large_none c, range_is c, lag_is c true (lag_between c.lag small)) (sized (policy_fault (pos c.size) (pos c.slide)))

not_mapped : (why : Option PolicyFault) → option_map (Policy 1) why ≡ None → why ≡ None
not_mapped None h = refl
not_mapped (Some why) h = absurd (cc h)

-- sizes of a valid job are those of a window
pub sizes_are : (c : WindowCommand) → c.lag ≤ most_time → base_fault c ≡ None → policy_fault (pos c.size) (pos c.slide) ≡ None
sizes_are c small h = not_mapped (policy_fault (pos c.size) (pos c.slide)) (sym (base_fault_is c small) ∙ h)

some_fault : (why : PolicyFault) (o : Option PolicyFault) → o ≡ None → o ≡ Some why → ⊥
some_fault why o h k = cc (sym h ∙ k)

pub policy_is : {P : Type 0} (c : WindowCommand) (size slide : ℤ) (Q : P → Type 0) (r : Result P PolicyFault) → size ≡ pos c.size → slide ≡ pos c.slide → c.lag ≤ most_time → base_fault c ≡ None
    → MatchResult r Q (λ why. policy_fault size slide ≡ Some why) → IsOk r
policy_is c size slide Q (Ok p) s l small none h = refl
policy_is c size slide Q (Err why) s l small none h =
    absurd (some_fault why (policy_fault (pos c.size) (pos c.slide)) (sizes_are c small none) (ap (λ (z : ℤ). policy_fault (pos c.size) z) (sym l) ∙ ap (λ (z : ℤ). policy_fault z slide) (sym s) ∙ h))
