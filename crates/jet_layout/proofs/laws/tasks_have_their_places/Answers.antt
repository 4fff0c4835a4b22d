use Rattle.std.proofs.Common.{inl, inr, refl}
use Rattle.jet_layout.specs.declared.task.Task.TheVariants.{Send, Receive}
use Rattle.jet_layout.proofs.Standing.{instance_stands, link_stands}
use Rattle.jet_layout.proofs.laws.tasks_have_their_places.Goals as goal

pub returns : goal.returns
returns c =
    let dag = c.args.dag.now in
    let s = c.args.settings.now in
    let l = c.args.layout.now in
    record {
      instances = instance_stands dag s l c.requires.layout c.know.ensures;
      senders = λ k x. link_stands dag s l c.requires.layout c.know.ensures k (Send x) x (inl refl);
      receivers = λ k x. link_stands dag s l c.requires.layout c.know.ensures k (Receive x) x (inr refl);
    }
