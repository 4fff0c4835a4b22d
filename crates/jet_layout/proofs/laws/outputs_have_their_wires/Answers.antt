use Rattle.jet_layout.proofs.Giving.{outputs_counted, instances_have_wires}
use Rattle.jet_layout.proofs.laws.outputs_have_their_wires.Goals as goal

pub returns : goal.returns
returns c =
    let dag = c.args.dag.now in
    let s = c.args.settings.now in
    let l = c.args.layout.now in
    let facts = c.know.ensures in
    let shape = facts.shape in
    let vertices = shape.vertices in
    record {
      wires = instances_have_wires dag s l c.requires.layout facts;
      outputs = λ v. outputs_counted dag s l c.requires.layout facts v.name;
      some = vertices.outputs;
    }
