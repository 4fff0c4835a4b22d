use Rattle.std.proofs.Common.{◌≤ℤ◌, sym, subst}
use Rattle.std.specs.Prelude.{IfSome}
use Rattle.jet_window.specs.Plain.{PlainValue, HasTaken}
use Rattle.jet_window.proofs.Ends.{open_now, taken_more}
use Rattle.jet_window.proofs.plain.PlainWindow.accept.Goals as goal

pub returns-clause-taken : goal.returns-clause-taken
returns-clause-taken c = λ all taken.
    let closed : IfSome c.self.inside.closed (λ mark. mark ≤ℤ c.args.event.ts) = subst (λ (p : PlainValue). IfSome p.closed (λ mark. mark ≤ℤ c.args.event.ts)) (sym c.self.view_is) c.requires in
    let held : HasTaken (record { vertex = c.self.inside.vertex; size = c.self.inside.policy.size; slide = c.self.inside.policy.slide; closed = c.self.inside.closed; events = c.self.inside.events.items }) all = subst (λ (p : PlainValue). HasTaken p all) (sym c.self.view_is) taken in
    taken_more c.self.inside.policy.size c.self.inside.policy.slide c.self.inside.closed c.self.inside.events.items c.push.new.self.items all c.args.event
    (open_now c.self.inside.policy.size c.self.inside.policy.slide c.self.inside.closed c.args.event.ts c.self.invariant closed) c.in_ok-push.ensures.items held
