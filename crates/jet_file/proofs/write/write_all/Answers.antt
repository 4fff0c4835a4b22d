use Rattle.std.proofs.Common.{◌≡◌, ◌+◌, ◌-◌, ◌≤◌, ◌<◌, ℕ, List, ◌∙◌, subst, arith, length, take, drop, length-drop}
use Rattle.std.proofs.lemmas.List.{take_all}
use Rattle.std.proofs.lemmas.Result.{err_from_is_err_and}
use Rattle.jet_file.specs.Outside.{WhereTold, WritesBytes}
use Rattle.jet_file.proofs.WriteLemmas.{goes_more, goes_stop}
use Rattle.jet_file.proofs.write.write_all.Goals as goal

-- the slice from an index on is the rest of the list
rest_is : (bytes : List ℕ) (done : ℕ) → take (length bytes - done) (drop done bytes) ≡ drop done bytes
rest_is bytes done = take_all (length bytes - done) (drop done bytes) (omega (arith, length-drop done bytes))

pub loop-done-preserved : goal.loop-done-preserved
loop-done-preserved g c =
    let same : take (length c.args.bytes.now - c.loop-done.done) (drop c.loop-done.done c.args.bytes.now) ≡ drop c.loop-done.done c.args.bytes.now = rest_is c.args.bytes.now c.loop-done.done in
    let some : 0 < c.in_ok-count.count = c.in_ok-count.ensures.bound.0 in
    let fits : c.in_ok-count.count ≤ length (drop c.loop-done.done c.args.bytes.now) = subst (λ (buf : List ℕ). c.in_ok-count.count ≤ length buf) same c.in_ok-count.ensures.bound.1 in
    let within : c.loop-done.done + c.in_ok-count.count ≤ length c.args.bytes.now = omega (arith, length-drop c.loop-done.done c.args.bytes.now, c.loop-done-test.true) in
    record {
      within = within;
      wrote = goes_more c.args.to c.args.bytes.now c.loop-done.done c.in_ok-count.count _ (g.O.Outside.told c.loop-done.out) _ some fits within c.loop-done.invariant.wrote
          (subst (λ (buf : List ℕ). WhereTold (WritesBytes c.args.to buf c.in_ok-count.count) (g.O.Outside.told c.loop-done.out) (g.O.Outside.told c.write.new.self)) same c.in_ok-count.ensures.told);
      opened_same = c.in_ok-count.ensures.opened ∙ c.loop-done.invariant.opened_same;
      steady_same = c.in_ok-count.ensures.steady ∙ c.loop-done.invariant.steady_same;
      faults_same = c.in_ok-count.ensures.cause.cause ∙ c.loop-done.invariant.faults_same;
      untouched = λ none. absurd (omega (arith, c.loop-done-test.true));
    }

pub returns-in_err-count-clause-told : goal.returns-in_err-count-clause-told
returns-in_err-count-clause-told g c =
    let p = err_from_is_err_and c.from_residual.result c.from_residual.ensures.1 in
    rw (p.1, p.2) (goes_stop c.args.to c.args.bytes.now c.loop-done.done c.in_err-count.field-0.0 (g.O.Outside.told c.args.out.now) (g.O.Outside.told c.loop-done.out) (g.O.Outside.told c.write.new.self)
    c.loop-done-test.true c.loop-done.invariant.wrote c.in_err-count.ensures.told)
