use Rattle.std.proofs.Common.{◌≡◌, sym, subst}
use Rattle.jet_wire.specs.Receiver.{receiver_view}
use Rattle.jet_wire.specs.Sender.{sender_view}
use Rattle.jet_wire.specs.declared.progress.Progress.TheVariants as progress
use Rattle.jet_tasklet.specs.declared.any.AnyTasklet.{AnyTasklet}
use Rattle.jet_tasklet.specs.declared.any.AnyTasklet.TheVariants as any
use Rattle.jet_tasklet.specs.Any.{AnyGoes, AnyStays}
use Rattle.jet_tasklet.proofs.Linking.{send_goes, send_stays, receive_goes}
use Rattle.jet_tasklet.proofs.any.AnyTasklet.turn.Goals as goal

pub returns-in-Send-clause-keeps : goal.returns-in-Send-clause-keeps
returns-in-Send-clause-keeps c =
    let now = c.turn-in-Send.new.self in
    subst (λ (t : AnyTasklet). AnyGoes t (any.Send now)) (sym c.in-Send.is) (send_goes (sender_view c.in-Send.sender) (sender_view now) c.turn-in-Send.ensures.keeps)

pub returns-in-Send-clause-same : goal.returns-in-Send-clause-same
returns-in-Send-clause-same c = λ idle.
    let now = c.turn-in-Send.new.self in
    let same : c.turn-in-Send.result ≡ progress.Idle = cc in
    subst (λ (t : AnyTasklet). AnyStays t (any.Send now)) (sym c.in-Send.is) (send_stays (sender_view c.in-Send.sender) (sender_view now) (c.turn-in-Send.ensures.same same))

pub returns-in-Receive-clause-keeps : goal.returns-in-Receive-clause-keeps
returns-in-Receive-clause-keeps c =
    let now = c.turn-in-Receive.new.self in
    subst (λ (t : AnyTasklet). AnyGoes t (any.Receive now)) (sym c.in-Receive.is) (receive_goes (receiver_view c.in-Receive.receiver) (receiver_view now) c.turn-in-Receive.ensures.keeps c.turn-in-Receive.ensures.paced)
