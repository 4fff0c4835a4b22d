use Rattle.jet_layout.proofs.Hearing.{receivers_have_wires, senders_have_wires}
use Rattle.jet_layout.proofs.laws.links_have_their_wires.Goals as goal

pub returns : goal.returns
returns c =
    let dag = c.args.dag.now in
    let s = c.args.settings.now in
    let l = c.args.layout.now in
    record {
      receivers = receivers_have_wires dag s l c.requires.layout c.know.ensures;
      senders = senders_have_wires dag s l c.requires.layout c.know.ensures;
    }
