use Rattle.std.proofs.Common.{sym, subst}
use Rattle.jet_items.specs.declared.item.Item.{Item}
use Rattle.jet_wire.specs.Noting.{Passes}
use Rattle.jet_wire.proofs.Heard.{pass_mark, pass_done, pass_data}
use Rattle.jet_wire.proofs.note.note.Goals as goal

pub returns-in-Mark : goal.returns-in-Mark
returns-in-Mark c =
    subst (λ (x : Item). Passes c.args.coalescer.now c.observe.new.self (record { queue = c.args.queue; item = x }) c.risen.result) (sym c.in-Mark.is)
    (pass_mark c.args.coalescer.now c.observe.new.self c.args.queue c.in-Mark.mark c.observe.result c.risen.result c.requires.exists c.observe.ensures.heard c.observe.ensures.risen c.risen.ensures)

pub returns-in-Done : goal.returns-in-Done
returns-in-Done c =
    subst (λ (x : Item). Passes c.args.coalescer.now c.done.new.self (record { queue = c.args.queue; item = x }) c.changed.result) (sym c.in-Done.is)
    (pass_done c.args.coalescer.now c.done.new.self c.args.queue c.done.result c.changed.result c.requires.exists c.done.ensures.heard c.done.ensures.change c.changed.ensures)

pub returns-in_default : goal.returns-in_default
returns-in_default c = pass_data c.args.coalescer.now c.args.queue c.args.item c.in_default.not-Mark c.in_default.not-Done
