use Rattle.jet_sink.proofs.Naming.{found_named}
use Rattle.jet_sink.proofs.windows.Windows.find.Goals as goal

pub returns : goal.returns
returns c = found_named c.args.self.now c.self.inside.windows.items c.deref.result.now c.args.vertex c.named.result c.self.view_is c.deref.ensures.value c.named.ensures
