use Rattle.std.proofs.Common.{◌≡◌, ◌∙◌, ◌<◌, ℕ, true, false, [], Ok, ap, subst, arith, inl, inr}
use Rattle.std.proofs.lemmas.Bool.{cases_Bool}
use Rattle.jet_file.specs.Outside.{WhereTold}
use Rattle.jet_ring.specs.Ring.{sent}
use Rattle.jet_worker.specs.Stopping.{IsCallIn, LastIs}
use Rattle.jet_worker.specs.declared.stop.Spot.TheVariants.{Part}
use Rattle.jet_feed.specs.Fed.{HasRead}
use Rattle.jet_ring.proofs.Lists.{prefix_trans}
use Rattle.jet_feed.proofs.StepLemmas.{bad_later, feeds_then, moved_later, reads_then, tells_as}
use Rattle.jet_feed.proofs.feed.Feed.feed.Goals as goal

not_false : {P : Type 0} → true ≡ false → P
not_false h = absurd (cc h)

pub returns-in-Err-clause-told : goal.returns-in-Err-clause-told
returns-in-Err-clause-told g c =
    let k = c.steps.invariant in
    reads_then (LastIs (IsCallIn (Part c.args.self.now.part) c.args.self.now.file) c.in-Err.stop) c.args.self.now.file (g.O.Outside.told c.args.out.now) (g.O.Outside.told c.steps.out) (g.O.Outside.told c.step.new.out) k.told
    (tells_as c.args.self.now c.steps.self c.in-Err.stop (g.O.Outside.told c.steps.out) (g.O.Outside.told c.step.new.out) k.file c.in-Err.ensures.told)

pub returns-in-Err-clause-bad : goal.returns-in-Err-clause-bad
returns-in-Err-clause-bad g c =
    bad_later c.args.self.now c.steps.self (g.O.Outside.told c.args.out.now) (g.O.Outside.told c.steps.out) (sent c.args.tx.now) (sent c.steps.tx) c.in-Err.stop c.steps.invariant.kept c.in-Err.ensures.bad

pub steps-preserved : goal.steps-preserved
steps-preserved g c =
    let k = c.steps.invariant in
    let s = c.in-Ok-true.ensures in
    record {
      same_ring = s.ring ∙ k.same_ring;
      same_reach = s.reach ∙ k.same_reach;
      front = prefix_trans (sent c.args.tx.now) (sent c.steps.tx) (sent c.step.new.tx) k.front s.sent;
      opened_same = s.outcome.opened_same ∙ k.opened_same;
      steady_same = s.outcome.steady_same ∙ k.steady_same;
      faults_same = s.outcome.cause ∙ k.faults_same;
      told = reads_then (λ last. last ≡ []) c.args.self.now.file (g.O.Outside.told c.args.out.now) (g.O.Outside.told c.steps.out) (g.O.Outside.told c.step.new.out) k.told
          (subst (λ (n : ℕ). WhereTold (HasRead (λ last. last ≡ []) n) (g.O.Outside.told c.steps.out) (g.O.Outside.told c.step.new.out)) k.file.1 s.told);
      kept = feeds_then (g.O.Outside.told c.args.out.now) (g.O.Outside.told c.steps.out) (g.O.Outside.told c.step.new.out) (sent c.args.tx.now) (sent c.steps.tx) (sent c.step.new.tx)
          c.args.self.now c.steps.self c.step.new.self k.kept s.kept;
      file = (s.file.0 ∙ k.file.0, s.file.1 ∙ k.file.1);
      has_moved = λ t.
          moved_later (sent c.args.tx.now) (sent c.steps.tx) (sent c.step.new.tx) c.args.self.now.file (g.O.Outside.told c.args.out.now) (g.O.Outside.told c.steps.out) (g.O.Outside.told c.step.new.out)
          k.front k.told (s.moved (ap Ok c.in-Ok-true.field-0-test));
      none = λ f. not_false f;
      began = λ f. not_false f;
    }

pub returns-clause-moved : goal.returns-clause-moved
returns-clause-moved g c = λ same.
    elim (cases_Bool c.steps.moved) [
      | inl moved ↦ c.steps.invariant.has_moved moved
      | inr none ↦
          let zero : c.steps.counter ≡ 0 = c.steps.invariant.began none in
          let some : 0 < c.steps.counter = omega (arith, c.steps-test.false) in
          let never : ⊥ = omega (arith, zero, some) in absurd never
    ]
