use Rattle.std.proofs.Common.{◌≡◌, Bool, sym, ◌∙◌, ap, subst, inl, inr}
use Rattle.jet_items.specs.declared.item.Item.{Item}
use Rattle.jet_items.specs.Partition.{item_key}
use Rattle.jet_router.specs.Router.{View, view, aim, sent_count}
use Rattle.jet_tasklet.specs.Outputs.{output_view, Waits, Says}
use Rattle.jet_tasklet.proofs.Giving.{given_next, is_all, not_all}
use Rattle.jet_tasklet.proofs.Lasting.{output_stays}
use Rattle.jet_tasklet.proofs.Owing.{gift_says, given_waits, says_true}
use Rattle.jet_tasklet.proofs.output.Output.give.Goals as goal
use Rattle.jet_tasklet.proofs.output.Output.give.Goals.{in-All, in_default}

pub returns-clause-gives : goal.returns-clause-gives
returns-clause-gives c =
    let is : c.match-matches.self ≡ is_all c.give.result = elim c.match-matches.branch [
      | in-All w ↦ w.self-is ∙ sym (ap is_all w.in-All.is)
      | in_default w ↦ w.self-is ∙ sym (not_all c.give.result w.in_default.not-All)
    ] in
    λ gave g.
    given_next c.give.result c.match-matches.self gave c.args.item.now (view c.args.self.now.router) (view c.give.new.self) is c.give.ensures.dealt c.give.ensures.all c.give.ensures.in_hand c.args.self.now.had c.if-self.false g

pub returns-clause-pushed : goal.returns-clause-pushed
returns-clause-pushed c =
    let is : c.match-matches.self ≡ is_all c.give.result = elim c.match-matches.branch [
      | in-All w ↦ w.self-is ∙ sym (ap is_all w.in-All.is)
      | in_default w ↦ w.self-is ∙ sym (not_all c.give.result w.in_default.not-All)
    ] in
    let a : View = view c.args.self.now.router in
    let b : View = view c.give.new.self in
    subst (λ (p : Bool). Says p (sent_count a) (sent_count b)) (sym is) (gift_says a b c.give.result (aim a c.args.item.now) c.args.item.now (c.gives_to_each.ensures.one c.if-gives_to_each.false) c.give.ensures.gives)

pub returns-clause-waits : goal.returns-clause-waits
returns-clause-waits c =
    let is : c.match-matches.self ≡ is_all c.give.result = elim c.match-matches.branch [
      | in-All w ↦ w.self-is ∙ sym (ap is_all w.in-All.is)
      | in_default w ↦ w.self-is ∙ sym (not_all c.give.result w.in_default.not-All)
    ] in
    λ w.
    let a : View = view c.args.self.now.router in
    let b : View = view c.give.new.self in
    let x : Item = c.args.item.now in
    elim (given_waits a b c.give.result a.route a.table (item_key x) x c.args.self.now.had c.give.ensures.same.rings_kept c.give.ensures.gives w) [
      | inl lt ↦ inl (says_true c.match-matches.self (sent_count a) (sent_count b) (returns-clause-pushed c) lt)
      | inr still ↦ inr (subst (λ (h : Bool). Waits (record { router = b; had = h })) (sym is) still)
    ]

pub returns-then-self-clause-waits : goal.returns-then-self-clause-waits
returns-then-self-clause-waits c = λ w. inr w

pub returns-clause-goes : goal.returns-clause-goes
returns-clause-goes c = record { same = c.give.ensures.same; sent = c.give.ensures.more; still_free = c.give.ensures.reach }

pub returns-then-self-clause-goes : goal.returns-then-self-clause-goes
returns-then-self-clause-goes c = output_stays (output_view c.args.self.now)
