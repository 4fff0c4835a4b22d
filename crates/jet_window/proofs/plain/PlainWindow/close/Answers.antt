use Rattle.std.proofs.Common.{rules, ◌≡◌, ◌≤ℤ◌, Some, filter, sym, subst}
use Rattle.std.specs.Prelude.{IfSome}
use Rattle.std.proofs.lemmas.Fn.{filter_same}
use Rattle.jet_items.specs.Values.{EventValue}
use Rattle.jet_window.specs.Plain.{PlainValue, HasTaken, is_open}
use Rattle.jet_window.proofs.Ends.{taken_still}
use Rattle.jet_window.proofs.plain.PlainWindow.close.Goals as goal

pub returns-clause-taken : goal.returns-clause-taken
returns-clause-taken c = λ all taken.
    let closed : IfSome c.self.inside.closed (λ last. last ≤ℤ c.args.mark) = subst (λ (p : PlainValue). IfSome p.closed (λ last. last ≤ℤ c.args.mark)) (sym c.self.view_is) c.requires in
    let held : HasTaken (record { vertex = c.self.inside.vertex; size = c.self.inside.policy.size; slide = c.self.inside.policy.slide; closed = c.self.inside.closed; events = c.self.inside.events.items }) all = subst (λ (p : PlainValue). HasTaken p all) (sym c.self.view_is) taken in
    let kept : c.retain.new.self.items ≡ filter (λ (x : EventValue). is_open c.self.inside.policy.size c.self.inside.policy.slide (Some c.args.mark) x.ts) c.self.inside.events.items =
    filter_same _ (λ (x : EventValue). is_open c.self.inside.policy.size c.self.inside.policy.slide (Some c.args.mark) x.ts) _ (λ x b f' k. search rules) c.self.inside.events.items c.retain.new.self.items c.retain.ensures.filtered in
    taken_still c.self.inside.policy.size c.self.inside.policy.slide c.self.inside.closed c.args.mark c.self.inside.events.items c.retain.new.self.items all closed kept held
