use Rattle.std.proofs.lemmas.List.Elements.{All-contains}
use Rattle.jet_layout.specs.Ports.{HasInput, HasPorts}
use Rattle.jet_layout.proofs.Wired.{wires_all, files_all}
use Rattle.jet_layout.proofs.laws.wires_have_their_ports.Goals as goal

pub returns : goal.returns
returns c =
    let dag = c.args.dag.now in
    let s = c.args.settings.now in
    let l = c.args.layout.now in
    record {
      wires = λ w there. All-contains (HasPorts dag l.tasks) l.wires w (wires_all dag s l c.requires.layout c.know.ensures) there;
      files = λ p there. All-contains (HasInput dag l.tasks) l.files p (files_all dag s l c.requires.layout c.know.ensures) there;
    }
