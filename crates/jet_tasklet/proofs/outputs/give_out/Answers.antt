use Rattle.std.proofs.Common.{◌≡◌, Bool, true, false, not, List, refl, ◌∙◌}
use Rattle.jet_tasklet.specs.Outputs.{OutputView, outputs_view, sent_count}
use Rattle.jet_tasklet.specs.Turned.{OutputGoes}
use Rattle.jet_tasklet.proofs.Giving.{leaves_none, leaves_trans}
use Rattle.jet_tasklet.proofs.Lasting.{zip_refl, output_stays, outputs_trans}
use Rattle.jet_tasklet.proofs.Pushed.{says_or}
use Rattle.jet_tasklet.proofs.Turning.{none_of}
use Rattle.jet_tasklet.proofs.outputs.give_out.Goals as goal

was_true : (b : Bool) → not b ≡ false → b ≡ true
was_true true e = refl
was_true false e = absurd (cc)

was_false : (b : Bool) → not b ≡ true → b ≡ false
was_false true e = absurd (cc)
was_false false e = refl

pub loop-pushed-init : goal.loop-pushed-init
loop-pushed-init c =
    let os : List OutputView = outputs_view c.args.outputs.now in
    record { leaves = leaves_none c.args.outbox.now.items os; goes = zip_refl OutputGoes output_stays os; pushed = refl; still = λ h e. (refl, h); room = refl }

pub loop-pushed-preserved : goal.loop-pushed-preserved
loop-pushed-preserved c =
    let os : List OutputView = outputs_view c.args.outputs.now in
    let ps : List OutputView = outputs_view c.loop-pushed.outputs in
    let qs : List OutputView = outputs_view c.give_front-fate.new.outputs in
    record {
      leaves = leaves_trans c.args.outbox.now.items c.loop-pushed.outbox.items c.give_front-fate.new.outbox.items os ps qs c.loop-pushed.invariant.leaves c.give_front-fate.ensures.leaves;
      goes = outputs_trans os ps qs c.loop-pushed.invariant.goes c.give_front-fate.ensures.goes;
      pushed = says_or c.loop-pushed.pushed c.give_front-fate.result.pushed (sent_count os) (sent_count ps) (sent_count qs) c.loop-pushed.invariant.pushed c.give_front-fate.ensures.pushed;
      still = λ h e.
          let none = none_of c.loop-pushed.pushed c.give_front-fate.result.pushed e in
          let was = c.loop-pushed.invariant.still h none.0 in
          let pushed : c.give_front-fate.result.pushed ≡ true = c.give_front-fate.ensures.pushes was.1 (was_true c.give_front-fate.result.left c.if-not-fate.false) in
          let not : c.give_front-fate.result.pushed ≡ false = none.1 in
          absurd (cc);
      room = c.give_front-fate.ensures.room ∙ c.loop-pushed.invariant.room;
    }

pub returns-then-not-fate-clause-stays : goal.returns-then-not-fate-clause-stays
returns-then-not-fate-clause-stays c = λ h e.
    let none = none_of c.loop-pushed.pushed c.give_front-fate.result.pushed e in
    let was = c.loop-pushed.invariant.still h none.0 in
    c.give_front-fate.ensures.stays (was_false c.give_front-fate.result.left c.if-not-fate.true) ∙ was.0

pub returns-then-not-fate-clause-goes : goal.returns-then-not-fate-clause-goes
returns-then-not-fate-clause-goes c =
    let os : List OutputView = outputs_view c.args.outputs.now in
    let ps : List OutputView = outputs_view c.loop-pushed.outputs in
    let qs : List OutputView = outputs_view c.give_front-fate.new.outputs in
    outputs_trans os ps qs c.loop-pushed.invariant.goes c.give_front-fate.ensures.goes
