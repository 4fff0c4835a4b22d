use Rattle.jet_wire.specs.Sender.{sender_view}
use Rattle.jet_wire.proofs.SenderLaws.{passes_sound, sends_sound, passes_closed, sends_closed}
use Rattle.jet_wire.proofs.sender.Sender.law_passes_in_order.Goals as goal

pub returns-clause-sound : goal.returns-clause-sound
returns-clause-sound c = λ behind came sent k h. passes_sound (sender_view c.args.self.now) came sent k c.low_is_least.ensures.least c.low_is_least.ensures.reaches behind h

pub returns-clause-sound_sent : goal.returns-clause-sound_sent
returns-clause-sound_sent c = λ behind came sent k h. sends_sound (sender_view c.args.self.now) came sent k c.low_is_least.ensures.least c.low_is_least.ensures.reaches behind h

pub returns-clause-closed : goal.returns-clause-closed
returns-clause-closed c = λ came sent k h. passes_closed (sender_view c.args.self.now) came sent k c.low_is_least.ensures.least c.low_is_least.ensures.reaches h

pub returns-clause-closed_sent : goal.returns-clause-closed_sent
returns-clause-closed_sent c = λ came sent k h. sends_closed (sender_view c.args.self.now) came sent k c.low_is_least.ensures.least c.low_is_least.ensures.reaches h
