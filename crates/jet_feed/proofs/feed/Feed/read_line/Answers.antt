use Rattle.std.proofs.Common.{ℕ, List, subst}
use Rattle.jet_items.specs.declared.no_memory.Refused.TheVariants as refused
use Rattle.jet_feed.specs.Bodies.{ReadsItem, RefusesItem}
use Rattle.jet_feed.proofs.BadLemmas.{bad_read}
use Rattle.jet_feed.proofs.FedLemmas.{read_item}
use Rattle.jet_feed.proofs.feed.Feed.read_line.Goals as goal

pub returns-in-Ok-clause-kept : goal.returns-in-Ok-clause-kept
returns-in-Ok-clause-kept c =
    read_item c.args.self.now c.args.number c.in-Ok.item c.read.new.self c.requires.read c.requires.given c.requires.going
    (subst (λ (line : List ℕ). ReadsItem c.args.self.now.part c.args.number line c.in-Ok.item c.args.self.now.body c.read.new.self) c.line-line.ensures c.in-Ok.ensures.read)

pub returns-in-Err-Fault-clause-bad : goal.returns-in-Err-Fault-clause-bad
returns-in-Err-Fault-clause-bad c = λ told items.
    bad_read c.args.self.now c.args.number c.in-Err-Fault.why told items c.requires.read
    (subst (λ (line : List ℕ). RefusesItem c.args.self.now.part c.args.number line c.args.self.now.body (refused.Fault c.in-Err-Fault.why)) c.line-line.ensures (rw c.in-Err-Fault.field-0-is at c.in-Err-Fault.ensures.refused))
