use Rattle.std.proofs.Common.{rules, subst, sym, ◌≡◌, Option, Some}
use Rattle.jet_link.specs.declared.packet.Packet.{Packet}
use Rattle.jet_link.specs.Ends.{IsRecvEnd}
use Rattle.jet_link.specs.Link.{whole_processed, whole_offer}
use Rattle.jet_link.specs.Ends.{recv_of}
use Rattle.jet_link.proofs.Receipt.{end_received, counts_kept}
use Rattle.jet_link.proofs.recv_end.RecvEnd.receive.Goals as goal

pub invariant_of-self-2 : goal.invariant_of-self-2
invariant_of-self-2 c =
    let e = subst (λ (h : Option Packet). IsRecvEnd c.args.self.now.shape c.args.self.now.packets c.args.self.now.acks h c.args.self.now.whole c.args.self.now.processed c.args.self.now.offer c.args.self.now.grant c.args.self.now.part c.args.self.now.turns) c.requires.free c.args.self.now.right in
    record { right = end_received c.args.self.now.shape c.args.self.now.packets c.take.new.self c.args.self.now.acks c.in-Some.packet c.args.self.now.whole c.args.self.now.processed c.args.self.now.offer c.args.self.now.grant c.args.self.now.part c.args.self.now.turns e (search rules) }

pub returns-clause-counts : goal.returns-clause-counts
returns-clause-counts c = λ ok.
    let me = c.args.self.now in
    let p = c.in-Some.packet in
    let e = subst (λ (h : Option Packet). IsRecvEnd me.shape me.packets me.acks h me.whole me.processed me.offer me.grant me.part me.turns) c.requires.free me.right in
    let both = counts_kept me.shape me.packets c.take.new.self me.acks p me.whole me.processed me.offer me.grant me.part me.turns e (search rules) in
    let F : Option Packet → Type 0 = λ h. (whole_processed (recv_of c.take.new.self me.acks (Some p) me.whole me.processed me.offer me.grant) ≡ whole_processed (recv_of me.packets me.acks h me.whole me.processed me.offer me.grant))
    × (whole_offer me.shape (recv_of c.take.new.self me.acks (Some p) me.whole me.processed me.offer me.grant) ≡ whole_offer me.shape (recv_of me.packets me.acks h me.whole me.processed me.offer me.grant)) in
    let same = subst F (sym c.requires.free) both in
    record { processed = same.0; offer = same.1 }
