use Rattle.std.proofs.Common.{◌≡◌, ℕ, true, List, drop, inl, inr, sym, ◌∙◌, ap, subst}
use Rattle.std.specs.Prelude.{All}
use Rattle.jet_items.specs.declared.item.Item.{Item}
use Rattle.jet_boxes.specs.Held.{BoxView}
use Rattle.jet_tasklet.specs.declared.output.Output.{Output}
use Rattle.jet_tasklet.specs.Outputs.{OutputView, outputs_view, Giving, sent_count, Says}
use Rattle.std.specs.List.{AllZip}
use Rattle.jet_tasklet.specs.Turned.{OutputGoes}
use Rattle.jet_tasklet.proofs.Lasting.{zip_refl, output_stays, outputs_trans, outputs_ready}
use Rattle.jet_tasklet.proofs.Pushed.{count_ready}
use Rattle.jet_tasklet.specs.inner.Leaving.{Leaves, IsStopped}
use Rattle.jet_tasklet.proofs.Owing.{none_waits}
use Rattle.jet_tasklet.proofs.Giving.{front_is, leaves_part, leaves_front, blocked_unless}
use Rattle.jet_tasklet.proofs.outputs.give_front.Goals as goal

pub give_each-pushed-requires : goal.give_each-pushed-requires
give_each-pushed-requires c =
    let f = front_is c.args.outbox.now.items c.in-Some.front.now c.in-Some.ensures in
    (c.requires.0, subst (λ (xs : List Item). Giving c.requires.0 xs (outputs_view c.args.outputs.now)) f.1 c.requires.1)

pub returns-then-not-have_all-clause-leaves : goal.returns-then-not-have_all-clause-leaves
returns-then-not-have_all-clause-leaves c =
    let x : Item = c.in-Some.front.now in
    let f = front_is c.args.outbox.now.items x c.in-Some.ensures in
    let os : List OutputView = outputs_view c.args.outputs.now in
    let ps : List OutputView = outputs_view c.give_each-pushed.new.outputs in
    subst (λ (xs : List Item). Leaves xs os xs ps) (sym f.1) (leaves_part x f.0 os ps c.give_each-pushed.ensures.gives)

pub returns-then-not-have_all-clause-stops : goal.returns-then-not-have_all-clause-stops
returns-then-not-have_all-clause-stops c =
    let x : Item = c.in-Some.front.now in
    let f = front_is c.args.outbox.now.items x c.in-Some.ensures in
    let os : List Output = c.give_each-pushed.new.outputs in
    let some : All (λ o. o.had ≡ true) os → ⊥ = λ all. let is : c.have_all.result ≡ true = c.have_all.ensures.1 all in absurd (cc (is, c.if-not-have_all.true)) in
    λ e. subst (λ (xs : List Item). IsStopped xs (outputs_view os)) (sym f.1) (blocked_unless x os c.give_each-pushed.ensures.full some)

pub returns-clause-leaves : goal.returns-clause-leaves
returns-clause-leaves c =
    let x : Item = c.in-Some.front.now in
    let f = front_is c.args.outbox.now.items x c.in-Some.ensures in
    let os : List OutputView = outputs_view c.args.outputs.now in
    let ps : List Output = c.give_each-pushed.new.outputs in
    let qs : List OutputView = outputs_view c.clear.new.outputs in
    let had : All (λ o. o.had ≡ true) ps = c.have_all.ensures.0 c.if-not-have_all.false in
    let rest : c.skip.new.self.items ≡ f.0 = ap (λ (h : BoxView). h.items) c.skip.ensures ∙ ap (λ (xs : List Item). drop 1 xs) f.1 in
    subst (λ (ys : List Item). Leaves c.args.outbox.now.items os ys qs) (sym rest) (subst (λ (xs : List Item). Leaves xs os f.0 qs) (sym f.1) (leaves_front x f.0 os ps qs c.give_each-pushed.ensures.gives had c.clear.ensures))

pub returns-clause-pushes : goal.returns-clause-pushes
returns-clause-pushes c = λ some e.
    let had : All (λ o. o.had ≡ true) c.give_each-pushed.new.outputs = c.have_all.ensures.0 c.if-not-have_all.false in
    elim (c.give_each-pushed.ensures.waits some) [
      | inl is ↦ is
      | inr still ↦ absurd (none_waits c.give_each-pushed.new.outputs had still)
    ]

pub returns-clause-pushed : goal.returns-clause-pushed
returns-clause-pushed c =
    let same : sent_count (outputs_view c.clear.new.outputs) ≡ sent_count (outputs_view c.give_each-pushed.new.outputs) = ap sent_count c.clear.ensures ∙ count_ready (outputs_view c.give_each-pushed.new.outputs) in
    subst (λ (n : ℕ). Says c.give_each-pushed.result (sent_count (outputs_view c.args.outputs.now)) n) (sym same) c.give_each-pushed.ensures.pushed

pub returns-clause-goes : goal.returns-clause-goes
returns-clause-goes c =
    let os : List OutputView = outputs_view c.args.outputs.now in
    let ps : List OutputView = outputs_view c.give_each-pushed.new.outputs in
    let last : AllZip OutputGoes ps (outputs_view c.clear.new.outputs) = subst (λ (vs : List OutputView). AllZip OutputGoes ps vs) (sym c.clear.ensures) (outputs_ready ps) in
    outputs_trans os ps (outputs_view c.clear.new.outputs) c.give_each-pushed.ensures.goes last

pub returns-in_default-clause-goes : goal.returns-in_default-clause-goes
returns-in_default-clause-goes c = zip_refl OutputGoes output_stays (outputs_view c.args.outputs.now)
