-- The faults of a job in their order, and the first of them.
use Rattle.std.specs.Prelude.{◌==◌, ◌^◌, nat_lt, not, List, [], ◌∷◌, ◌++◌, length, Option, option_map}
use Rattle.std.specs.List.{list_any}
use Rattle.jet_plan.specs.declared.dag.Dag.{Dag}
use Rattle.jet_plan.specs.declared.settings.Settings.{Settings}
use Rattle.jet_plan.specs.declared.setting_name.SettingName.TheVariants.{Lag}
use Rattle.jet_plan.specs.declared.large.Large.TheVariants.{Growth, Slots}
use Rattle.jet_plan.specs.declared.fault.PlanFault.{PlanFault}
use Rattle.jet_plan.specs.declared.fault.PlanFault.TheVariants.{NoVertex, TooMany, DoubleName, UnknownEnd, Cycle, NoSource, SinkCount, WrongInputs, WrongOutputs, WindowPath, SideMixed, IsolatedDistributed, BroadcastData, NotGathered, KeyGrowth, Policy, Setting, TooLarge}
use Rattle.jet_plan.specs.First.{first_of, where_true, at_first}
use Rattle.jet_plan.specs.Kinds.{is_fed}
use Rattle.jet_plan.specs.Sizes.{too_many}
use Rattle.jet_plan.specs.Names.{first_double, has_unknown_end}
use Rattle.jet_plan.specs.Ends.{sinks, has_wrong_inputs, has_wrong_outputs}
use Rattle.jet_plan.specs.Paths.{leaves_window_path, mixes_sides}
use Rattle.jet_plan.specs.Gathering.{is_isolated_distributed, broadcasts_events, is_not_gathered}
use Rattle.jet_plan.specs.Growth.{is_cyclic, longest_key, growth}
use Rattle.jet_plan.specs.SettingRanges.{wrong_setting, has_wrong_lag, wrong_sizes_from}
use Rattle.jet_plan.specs.Rings.{slots}

-- sizes, names and cycles
unfoldable pub shape_faults : Dag → List (Option PlanFault)
shape_faults dag =
    where_true (length dag.vertices == 0) NoVertex
    ∷ option_map TooMany (too_many dag)
    ∷ option_map DoubleName (first_double dag.vertices)
    ∷ at_first UnknownEnd (has_unknown_end dag.vertices) dag.edges
    ∷ where_true (is_cyclic dag) Cycle
    ∷ []

-- sources, sinks, inputs and outputs
unfoldable pub end_faults : Dag → List (Option PlanFault)
end_faults dag =
    where_true (not (list_any (λ v. is_fed v.kind) dag.vertices)) NoSource
    ∷ where_true (not (sinks dag.vertices == 1)) (SinkCount (sinks dag.vertices))
    ∷ at_first WrongInputs (has_wrong_inputs dag.edges) dag.vertices
    ∷ at_first WrongOutputs (has_wrong_outputs dag.edges) dag.vertices
    ∷ []

-- which vertices and routes an edge may have
unfoldable pub edge_faults : Dag → Settings → List (Option PlanFault)
edge_faults dag s =
    at_first WindowPath (leaves_window_path dag) dag.edges
    ∷ at_first SideMixed (mixes_sides dag.edges) dag.vertices
    ∷ at_first IsolatedDistributed is_isolated_distributed dag.edges
    ∷ at_first BroadcastData broadcasts_events dag.edges
    ∷ at_first NotGathered (is_not_gathered dag s) dag.edges
    ∷ []

-- keys, window sizes, settings and lags
unfoldable pub range_faults : Dag → Settings → List (Option PlanFault)
range_faults dag s =
    at_first KeyGrowth (λ v. nat_lt 40 (longest_key dag v.name)) dag.vertices
    ∷ option_map (λ p. Policy p.0 p.1) (wrong_sizes_from 0 dag.vertices)
    ∷ option_map Setting (wrong_setting s)
    ∷ at_first (λ i. Setting (Lag i)) (λ v. has_wrong_lag v.kind) dag.vertices
    ∷ []

-- events and ring slots
unfoldable pub large_faults : Dag → Settings → List (Option PlanFault)
large_faults dag s =
    at_first (λ i. TooLarge (Growth i)) (λ v. nat_lt (2 ^ 20) (growth dag v.name)) dag.vertices
    ∷ where_true (nat_lt 4000000 (slots dag s)) (TooLarge (Slots (slots dag s)))
    ∷ []

-- all of them in their order
abbrev pub faults : Dag → Settings → List (Option PlanFault)
faults dag s = shape_faults dag ++ (end_faults dag ++ (edge_faults dag s ++ (range_faults dag s ++ large_faults dag s)))

-- the first fault of a job; a job without one is valid
abbrev pub fault : Dag → Settings → Option PlanFault
fault dag s = first_of (faults dag s)
