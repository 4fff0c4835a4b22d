use Rattle.jet_link.specs.Sending.{SameSend}
use Rattle.jet_link.specs.Views.{send_view}
use Rattle.jet_link.proofs.tests.send.Given as goal

abbrev pub invariant-loop : goal.invariant-loop
invariant-loop l = SameSend (send_view l.fn.sender) (send_view l.sender)
