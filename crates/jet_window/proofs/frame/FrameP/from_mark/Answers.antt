use Rattle.jet_window.proofs.Framing.{frame_new}
use Rattle.jet_window.proofs.frame.FrameP.from_mark.Goals as goal

pub returns-clause-stands : goal.returns-clause-stands
returns-clause-stands c = rw (c.new.ensures, c.new-2.ensures) (frame_new c.args.vertex c.args.policy.slide c.args.mark)
