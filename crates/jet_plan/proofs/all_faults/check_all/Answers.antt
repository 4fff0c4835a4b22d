use Rattle.std.proofs.Common.{◌++◌, Option, List, refl}
use Rattle.jet_items.specs.declared.no_memory.Refused.TheVariants as refused
use Rattle.std.specs.Prelude.{Err}
use Rattle.jet_plan.specs.declared.dag.Dag.{Dag}
use Rattle.jet_plan.specs.declared.settings.Settings.{Settings}
use Rattle.jet_plan.specs.declared.fault.PlanFault.{PlanFault}
use Rattle.jet_plan.specs.Faults.{shape_faults, end_faults, edge_faults, range_faults, large_faults}
use Rattle.jet_plan.proofs.CheckLaws.{later, stays, fault_given, none_given, none_told, shaped_of, limited_of}
use Rattle.jet_plan.proofs.all_faults.check_all.Goals as goal

from_ends : Dag → Settings → List (Option PlanFault)
from_ends dag s = end_faults dag ++ (edge_faults dag s ++ (range_faults dag s ++ large_faults dag s))

from_edges : Dag → Settings → List (Option PlanFault)
from_edges dag s = edge_faults dag s ++ (range_faults dag s ++ large_faults dag s)

from_ranges : Dag → Settings → List (Option PlanFault)
from_ranges dag s = range_faults dag s ++ large_faults dag s

pub returns-in_err-check_shape : goal.returns-in_err-check_shape
unfolding from_ends
returns-in_err-check_shape c =
    stays (shape_faults c.args.dag.now) (from_ends c.args.dag.now c.args.settings.now) c.check_shape.result c.from_residual.result c.in_err-check_shape.field-0.0
    c.check_shape.ensures c.in_err-check_shape.was c.from_residual.ensures.0 c.from_residual.ensures.1

pub check_ends-requires : goal.check_ends-requires
check_ends-requires c = shaped_of c.args.dag.now (none_given (shape_faults c.args.dag.now) c.check_shape.result c.in_ok-check_shape.field-0 c.check_shape.ensures c.in_ok-check_shape.was)

pub returns-in_err-check_ends : goal.returns-in_err-check_ends
unfolding from_edges
returns-in_err-check_ends c =
    let dag = c.args.dag.now in
    let s = c.args.settings.now in
    let q = c.from_residual-in_err-check_ends.result in
    let f = c.in_err-check_ends.field-0.0 in
    later (shape_faults dag) (end_faults dag ++ from_edges dag s) q (none_given (shape_faults dag) c.check_shape.result c.in_ok-check_shape.field-0 c.check_shape.ensures c.in_ok-check_shape.was)
    (stays (end_faults dag) (from_edges dag s) (Err (refused.Fault f)) q (refused.Fault f) (fault_given (end_faults dag) c.check_ends.result f c.check_ends.ensures c.in_err-check_ends.was) refl
    c.from_residual-in_err-check_ends.ensures.0 c.from_residual-in_err-check_ends.ensures.1)

pub check_edges-requires : goal.check_edges-requires
check_edges-requires c = shaped_of c.args.dag.now (none_given (shape_faults c.args.dag.now) c.check_shape.result c.in_ok-check_shape.field-0 c.check_shape.ensures c.in_ok-check_shape.was)

pub returns-in_err-check_edges : goal.returns-in_err-check_edges
unfolding from_ranges
returns-in_err-check_edges c =
    let dag = c.args.dag.now in
    let s = c.args.settings.now in
    let q = c.from_residual-in_err-check_edges.result in
    let f = c.in_err-check_edges.field-0.0 in
    later (shape_faults dag) (end_faults dag ++ (edge_faults dag s ++ from_ranges dag s)) q (none_given (shape_faults dag) c.check_shape.result c.in_ok-check_shape.field-0 c.check_shape.ensures c.in_ok-check_shape.was)
    (later (end_faults dag) (edge_faults dag s ++ from_ranges dag s) q (none_told (end_faults dag) c.check_ends.result c.in_ok-check_ends.field-0 c.check_ends.ensures c.in_ok-check_ends.was)
    (stays (edge_faults dag s) (from_ranges dag s) (Err (refused.Fault f)) q (refused.Fault f) (fault_given (edge_faults dag s) c.check_edges.result f c.check_edges.ensures c.in_err-check_edges.was) refl
    c.from_residual-in_err-check_edges.ensures.0 c.from_residual-in_err-check_edges.ensures.1))

pub check_ranges-requires : goal.check_ranges-requires
check_ranges-requires c = shaped_of c.args.dag.now (none_given (shape_faults c.args.dag.now) c.check_shape.result c.in_ok-check_shape.field-0 c.check_shape.ensures c.in_ok-check_shape.was)

pub returns-in_err-check_ranges : goal.returns-in_err-check_ranges
returns-in_err-check_ranges c =
    let dag = c.args.dag.now in
    let s = c.args.settings.now in
    let q = c.from_residual-in_err-check_ranges.result in
    later (shape_faults dag) (end_faults dag ++ (edge_faults dag s ++ (range_faults dag s ++ large_faults dag s))) q (none_given (shape_faults dag) c.check_shape.result c.in_ok-check_shape.field-0 c.check_shape.ensures c.in_ok-check_shape.was)
    (later (end_faults dag) (edge_faults dag s ++ (range_faults dag s ++ large_faults dag s)) q (none_told (end_faults dag) c.check_ends.result c.in_ok-check_ends.field-0 c.check_ends.ensures c.in_ok-check_ends.was)
    (later (edge_faults dag s) (range_faults dag s ++ large_faults dag s) q (none_told (edge_faults dag s) c.check_edges.result c.in_ok-check_edges.field-0 c.check_edges.ensures c.in_ok-check_edges.was)
    (stays (range_faults dag s) (large_faults dag s) c.check_ranges.result q c.in_err-check_ranges.field-0.0 c.check_ranges.ensures c.in_err-check_ranges.was
    c.from_residual-in_err-check_ranges.ensures.0 c.from_residual-in_err-check_ranges.ensures.1)))

pub check_large-requires-clause-shaped : goal.check_large-requires-clause-shaped
check_large-requires-clause-shaped c = shaped_of c.args.dag.now (none_given (shape_faults c.args.dag.now) c.check_shape.result c.in_ok-check_shape.field-0 c.check_shape.ensures c.in_ok-check_shape.was)

pub check_large-requires-clause-limited : goal.check_large-requires-clause-limited
check_large-requires-clause-limited c =
    let dag = c.args.dag.now in
    let s = c.args.settings.now in
    limited_of dag s (shaped_of dag (none_given (shape_faults dag) c.check_shape.result c.in_ok-check_shape.field-0 c.check_shape.ensures c.in_ok-check_shape.was))
    (none_given (range_faults dag s) c.check_ranges.result c.in_ok-check_ranges.field-0 c.check_ranges.ensures c.in_ok-check_ranges.was)

pub returns : goal.returns
returns c =
    let dag = c.args.dag.now in
    let s = c.args.settings.now in
    let q = c.check_large.result in
    later (shape_faults dag) (end_faults dag ++ (edge_faults dag s ++ (range_faults dag s ++ large_faults dag s))) q (none_given (shape_faults dag) c.check_shape.result c.in_ok-check_shape.field-0 c.check_shape.ensures c.in_ok-check_shape.was)
    (later (end_faults dag) (edge_faults dag s ++ (range_faults dag s ++ large_faults dag s)) q (none_told (end_faults dag) c.check_ends.result c.in_ok-check_ends.field-0 c.check_ends.ensures c.in_ok-check_ends.was)
    (later (edge_faults dag s) (range_faults dag s ++ large_faults dag s) q (none_told (edge_faults dag s) c.check_edges.result c.in_ok-check_edges.field-0 c.check_edges.ensures c.in_ok-check_edges.was)
    (later (range_faults dag s) (large_faults dag s) q (none_given (range_faults dag s) c.check_ranges.result c.in_ok-check_ranges.field-0 c.check_ranges.ensures c.in_ok-check_ranges.was) c.check_large.ensures)))
