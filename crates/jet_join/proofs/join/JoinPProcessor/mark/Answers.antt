use Rattle.std.proofs.Common.{refl}
use Rattle.jet_items.specs.declared.item.Item.TheVariants as item
use Rattle.jet_boxes.specs.Entry.{MarkTold}
use Rattle.jet_join.proofs.Calling.{pass_call}
use Rattle.jet_join.proofs.join.JoinPProcessor.mark.Goals as goal

pub returns-clause-call : goal.returns-clause-call
returns-clause-call c = pass_call c.args.self.now (MarkTold c.args.mark) (item.Mark c.args.mark) c.args.out.now _ _ c.put.ensures.put c.put.ensures.kept c.put.ensures.full (λ rows. refl) refl
