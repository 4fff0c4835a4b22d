use Rattle.std.proofs.Common.{◌≡◌, sym, ◌∙◌, subst}
use Rattle.std.proofs.lemmas.Option.{get_or_from_slice_get}
use Rattle.jet_tasklet.specs.declared.any.AnyTasklet.{AnyTasklet}
use Rattle.jet_tasklet.specs.Meeting.{AnyLinkMet}
use Rattle.jet_crew.specs.Gather.{gather}
use Rattle.jet_engine.proofs.Linking.{sender_there, receiver_there}
use Rattle.jet_engine.proofs.links.meet_link_at.Goals as goal

abbrev pub returns-clause-others : goal.returns-clause-others
returns-clause-others c =
    let l = c.args.link in
    let ts = gather c.args.workers.now.items c.args.order.now.items in
    let was = c.requires.joined in
    let sender : c.trade_both.new.a ≡ was.sender = sym c.trade_both.ensures.taken ∙ get_or_from_slice_get ts l.sender was.sender c.trade_both.new.a was.at_sender in
    let receiver : c.trade_both.new.b ≡ was.receiver = sym c.trade_both.ensures.taken_too ∙ get_or_from_slice_get ts l.receiver was.receiver c.trade_both.new.b was.at_receiver in
    record {
      sender = was.sender;
      sender_now = c.meet_link.new.sender;
      receiver = was.receiver;
      receiver_now = c.meet_link.new.receiver;
      at_sender = was.at_sender;
      at_receiver = was.at_receiver;
      others = c.trade_both-2.ensures.tasks ∙ c.trade_both.ensures.back c.meet_link.new.sender c.meet_link.new.receiver;
      sender_met = subst (λ (t : AnyTasklet). AnyLinkMet t c.meet_link.new.sender) sender c.meet_link.ensures.sender;
      receiver_met = subst (λ (t : AnyTasklet). AnyLinkMet t c.meet_link.new.receiver) receiver c.meet_link.ensures.receiver;
    }

abbrev pub returns-clause-joined : goal.returns-clause-joined
returns-clause-joined c =
    let ts = gather c.args.workers.now.items c.args.order.now.items in
    let us = gather c.trade_both-2.new.workers.items c.args.order.now.items in
    let m = returns-clause-others c in
    record {
      sender = c.meet_link.new.sender;
      receiver = c.meet_link.new.receiver;
      at_sender = sender_there ts us c.args.link m c.requires.joined.apart;
      at_receiver = receiver_there ts us c.args.link m c.requires.joined.apart;
      apart = c.requires.joined.apart;
      joined = c.meet_link.ensures.joined;
    }

pub returns-clause-met : goal.returns-clause-met
returns-clause-met c =
    let at = returns-clause-joined c in
    record { sender = at.sender; receiver = at.receiver; at_sender = at.at_sender; at_receiver = at.at_receiver; met = c.meet_link.ensures.met }
