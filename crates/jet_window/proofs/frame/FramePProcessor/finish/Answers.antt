use Rattle.std.proofs.Common.{arith}
use Rattle.jet_window.proofs.FrameCalls.{finish_call, none_left}
use Rattle.jet_window.proofs.frame.FramePProcessor.finish.Goals as goal

pub returns-clause-call : goal.returns-clause-call
returns-clause-call c =
    finish_call c.args.self.now c.give_closed.new.self _ c.args.out.now c.give_closed.new.out c.give_closed.result c.give_closed.ensures.moved c.give_closed.ensures.vertex c.give_closed.ensures.times c.give_closed.ensures.room
    (λ is. none_left c.args.self.now.vertex c.args.self.now.held c.give_closed.new.self.held c.args.out.now.items c.give_closed.new.out.items _ c.give_closed.ensures.moved c.requires.2.kept (omega arith) (c.give_closed.ensures.stops is))
    c.give_closed.ensures.full
