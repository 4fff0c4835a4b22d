-- Which vertices an edge may join.
use Rattle.std.specs.Prelude.{Bool, not, ◌&&◌, ◌||◌, List, bytes_eq, if◌then◌else◌}
use Rattle.std.specs.List.{list_any}
use Rattle.jet_plan.specs.declared.edge.Edge.{Edge}
use Rattle.jet_plan.specs.declared.vertex.Vertex.{Vertex}
use Rattle.jet_plan.specs.declared.dag.Dag.{Dag}
use Rattle.jet_plan.specs.Kinds.{is_side, is_accumulate, is_combine, is_sink}
use Rattle.jet_plan.specs.Names.{end_is}

-- a window is an accumulate vertex, the combine vertex behind it, and then the sink: an edge into a sink comes from a
-- combine vertex, and the other way round; an edge into a combine vertex from an accumulate vertex, and the other way
-- round
abbrev pub leaves_window_path : Dag → Edge → Bool
leaves_window_path dag e = (end_is dag is_sink e.to && not (end_is dag is_combine e.from))
    || (end_is dag is_accumulate e.from && not (end_is dag is_combine e.to))
    || (end_is dag is_combine e.to && not (end_is dag is_accumulate e.from))
    || (end_is dag is_combine e.from && not (end_is dag is_sink e.to))

-- a side vertex has build outputs alone, and only a side vertex has them
abbrev pub mixes_sides : List Edge → Vertex → Bool
mixes_sides edges v = list_any (λ e. bytes_eq e.from v.name && not (if is_side v.kind then e.build else not e.build)) edges
