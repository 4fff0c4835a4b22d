use Rattle.std.proofs.Common.{refl, ◌≡◌}
use Rattle.jet_boxes.specs.Entry.{Given}
use Rattle.jet_stages.specs.declared.map.MapP.{MapP}
use Rattle.jet_stages.specs.Map.{remade}
use Rattle.jet_stages.proofs.Calls.{call_puts}
use Rattle.jet_stages.proofs.map.MapPProcessor.accept.Goals as goal

pub returns : goal.returns
returns c =
    call_puts (λ (p : MapP). remade p.set) (λ p q. q.set ≡ p.set) c.args.self.now refl (Given c.args._port c.args._queue c.args.item.now) c.args.out.now c.put.new.self c.put.result c.turned.result c.turned.ensures c.put.ensures.put c.put.ensures.kept c.put.ensures.full
