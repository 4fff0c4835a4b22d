use Rattle.std.proofs.Common.{◌≤◌, ◌∙◌, ◌++◌, ap, List, length, map}
use Rattle.std.specs.Prelude.{filter, flat_map, bytes_eq}
use Rattle.std.proofs.lemmas.List.{take_all}
use Rattle.jet_items.specs.Rows.{Window}
use Rattle.jet_plan.specs.declared.edge.Edge.{Edge}
use Rattle.jet_sink.specs.Naming.{window_of, windows_along}
use Rattle.jet_sink.proofs.Sizes.{along_all}
use Rattle.jet_sink.proofs.plan.push_windows.Goals as goal

pub returns : goal.returns
returns c =
    let before : List Window = map window_of c.args.windows.now.items in
    let edges : List Edge = c.items-edge-items.result.now in
    let at_end : length edges ≤ c.loop-edge.edge-index = c.loop-edge-test.false in
    let into = λ (e : Edge). bytes_eq e.to c.args.name.now in
    c.loop-edge.invariant
    ∙ (ap (λ (es : List Edge). before ++ flat_map (windows_along c.args.dag.now c.args.number c.args.name.now) (filter into es)) (take_all c.loop-edge.edge-index edges at_end ∙ c.items-edge-items.ensures)
    ∙ ap (λ (ws : List Window). before ++ ws) (along_all c.args.dag.now c.args.number c.args.name.now (filter into c.args.dag.now.edges)))
