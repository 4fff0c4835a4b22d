-- Whether what belongs together comes together behind an edge.
use Rattle.std.specs.Prelude.{pos, int_lt, Bool, not, ◌&&◌, ◌||◌, bytes_eq}
use Rattle.std.specs.List.{list_any}
use Rattle.jet_plan.specs.declared.edge.Edge.{Edge}
use Rattle.jet_plan.specs.declared.dag.Dag.{Dag}
use Rattle.jet_plan.specs.declared.settings.Settings.{Settings}
use Rattle.jet_plan.specs.Kinds.{is_join, is_combine, is_sink, is_isolated, is_partitioned, is_broadcast}
use Rattle.jet_plan.specs.Names.{end_is}

abbrev pub is_isolated_distributed : Edge → Bool
is_isolated_distributed e = is_isolated e.route && e.distributed

-- events that every instance would take
abbrev pub broadcasts_events : Edge → Bool
broadcasts_events e = is_broadcast e.route && not e.build

-- a stream edge into a join whose build edge is partitioned
abbrev pub meets_partitions : Dag → Edge → Bool
meets_partitions dag e = not e.build && end_is dag is_join e.to
    && list_any (λ b. b.build && bytes_eq b.to e.to && is_partitioned b.route) dag.edges

-- the edge has to reach the instances of all members
abbrev pub crosses_members : Dag → Edge → Bool
crosses_members dag e = end_is dag is_combine e.to || end_is dag is_sink e.to || e.build || meets_partitions dag e

-- what belongs together would not come together
abbrev pub is_not_gathered : Dag → Settings → Edge → Bool
is_not_gathered dag s e = (end_is dag is_combine e.to && not (is_partitioned e.route))
    || (e.build && not (is_broadcast e.route || is_partitioned e.route))
    || (meets_partitions dag e && not (is_partitioned e.route))
    || (int_lt (pos 1) s.members && not e.distributed && crosses_members dag e)
