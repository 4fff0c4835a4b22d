use Rattle.std.proofs.Common.{◌≡◌, ◌<◌, length, true, false}
use Rattle.jet_link.specs.Sending.{TookAcks}
use Rattle.jet_link.specs.Views.{send_view}
use Rattle.jet_link.proofs.send_end.SendEnd.take_acks.Given as goal

abbrev pub invariant-loop-took : goal.invariant-loop-took
invariant-loop-took l = record {
  took : TookAcks (send_view l.initial.self) (send_view l.self);
  still : l.took ≡ false → send_view l.self ≡ send_view l.initial.self;
  moved : l.took ≡ true → length (send_view l.initial.self).acks.received < length (send_view l.self).acks.received;
}

abbrev pub decreases-loop-took : goal.decreases-loop-took
decreases-loop-took l = l.self.outstanding
