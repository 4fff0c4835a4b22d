use Rattle.std.proofs.Common.{rules, arith, ◌≡◌, ◌∙◌, ◌<◌, ℕ, pos, true, List, [], map, length, sym, ap, subst}
use Rattle.std.proofs.lemmas.List.{get_or-map, length-map}
use Rattle.std.proofs.lemmas.List.Elements.{All-get_or}
use Rattle.std.proofs.lemmas.Result.{err_from_is_err_and}
use Rattle.jet_file.specs.Outside.{WhereTold}
use Rattle.jet_flow.specs.DataFiles.{SideFile}
use Rattle.jet_worker.specs.CheckText.{Checks}
use Rattle.jet_worker.specs.inner.FileChecks.{HasChecked, StopsChecking}
use Rattle.jet_worker.specs.Opening.{AreNew, HasLag, HasOpened, Opened, file_in, opened_in, pair_of}
use Rattle.jet_worker.specs.declared.open.OpenFile.{OpenFile}
use Rattle.jet_worker.proofs.AllLemmas.{checking_ends, checking_more, checking_starts, checking_stops, lag_at, opening_stopped, outcome_then}
use Rattle.jet_worker.proofs.check.check_all.Goals as goal

-- what stands for a file where there is none
blank : Opened
blank = record { part = 0; file = SideFile []; at = 0 }

short_in : (items : List OpenFile) (n : ℕ) → n < length items → n < length (map opened_in items)
short_in items n short = let same = length-map items opened_in in omega (arith, same, short)

pub returns-in_err-opened-clause-stop : goal.returns-in_err-opened-clause-stop
returns-in_err-opened-clause-stop g c =
    let p = err_from_is_err_and c.from_residual.result c.from_residual.ensures.1 in rw (p.1, p.2) (λ check files most unit.
    opening_stopped check c.in_err-opened.field-0.0 (g.O.Outside.told c.args.out.now) (g.O.Outside.told c.open_all.new.out) c.in_err-opened.ensures.no_bad_line (c.in_err-opened.ensures.stop check files))

pub loop-file-init : goal.loop-file-init
loop-file-init g c =
    let same = sym (ap (map opened_in) c.deref-file-items.ensures.value) in
    let e = c.in_ok-opened.ensures in
    checking_starts g.O.Outside.told g.O.Outside.opened g.O.Outside.steady g.O.Outside.faults (map file_in c.args.files.now) c.args.limits.most c.args.limits.unit (map opened_in c.deref-file-items.result.now)
    c.args.out.now c.open_all.new.out (λ check files. sym (ap (map pair_of) same) ∙ e.pairs check files)
    (subst (AreNew (g.O.Outside.opened c.args.out.now) (g.O.Outside.opened c.open_all.new.out)) same e.numbers)
    (subst (λ (all : List Opened). WhereTold (HasOpened all) (g.O.Outside.told c.args.out.now) (g.O.Outside.told c.open_all.new.out)) same e.told)
    e.outcome.steady_same e.outcome.cause

pub check_file-requires-clause-opened : goal.check_file-requires-clause-opened
check_file-requires-clause-opened g c =
    subst (λ (o : Opened). g.O.Outside.opened c.loop-file.out o.at ≡ true) (get_or-map opened_in c.deref-file-items.result.now c.loop-file.file-index _ blank c.loop-file-test.true)
    (All-get_or (λ (o : Opened). g.O.Outside.opened c.loop-file.out o.at ≡ true) (map opened_in c.deref-file-items.result.now) c.loop-file.file-index blank
    (short_in c.deref-file-items.result.now c.loop-file.file-index c.loop-file-test.true) c.loop-file.invariant.numbers.added)

pub check_file-requires-clause-lag : goal.check_file-requires-clause-lag
check_file-requires-clause-lag g c =
    subst (λ (o : Opened). HasLag o.file) (get_or-map opened_in c.deref-file-items.result.now c.loop-file.file-index _ blank c.loop-file-test.true)
    (lag_at (map file_in c.args.files.now) (map opened_in c.deref-file-items.result.now) c.loop-file.file-index blank c.loop-file.invariant.pairs
    (short_in c.deref-file-items.result.now c.loop-file.file-index c.loop-file-test.true) c.requires.lags)

pub returns-in_err-check_file-clause-stop : goal.returns-in_err-check_file-clause-stop
returns-in_err-check_file-clause-stop g c =
    let p = err_from_is_err_and c.from_residual-in_err-check_file.result c.from_residual-in_err-check_file.ensures.1 in rw (p.1, p.2)
    (checking_stops g.O.Outside.told g.O.Outside.opened g.O.Outside.steady g.O.Outside.faults (map file_in c.args.files.now) c.args.limits.most c.args.limits.unit (map opened_in c.deref-file-items.result.now)
    c.loop-file.file-index c.args.out.now c.loop-file.out c.check_file.new.out blank c.in_err-check_file.field-0.0 c.loop-file.invariant
    (short_in c.deref-file-items.result.now c.loop-file.file-index c.loop-file-test.true)
    (subst (λ (o : Opened). (check : Checks) → check.most ≡ c.args.limits.most → c.args.limits.unit ≡ pos check.unit
    → WhereTold (StopsChecking check (pair_of o) o.at c.in_err-check_file.field-0.0) (g.O.Outside.told c.loop-file.out) (g.O.Outside.told c.check_file.new.out))
    (sym (get_or-map opened_in c.deref-file-items.result.now c.loop-file.file-index _ blank c.loop-file-test.true)) c.in_err-check_file.ensures.told))

pub returns-in_err-check_file-clause-works : goal.returns-in_err-check_file-clause-works
returns-in_err-check_file-clause-works g c =
    let p = err_from_is_err_and c.from_residual-in_err-check_file.result c.from_residual-in_err-check_file.ensures.1 in rw (p.1, p.2)
    (λ steady outside. absurd (c.in_err-check_file.ensures.outcome.works (c.loop-file.invariant.steady_same ∙ steady) outside))

pub returns-in_err-check_file-clause-outcome : goal.returns-in_err-check_file-clause-outcome
returns-in_err-check_file-clause-outcome g c =
    let p = err_from_is_err_and c.from_residual-in_err-check_file.result c.from_residual-in_err-check_file.ensures.1 in rw (p.1, p.2)
    (outcome_then g.O.Outside.opened g.O.Outside.steady g.O.Outside.faults c.args.out.now c.loop-file.out c.check_file.new.out _ c.loop-file.invariant.steady_same c.loop-file.invariant.faults_same
    c.in_err-check_file.ensures.outcome)

pub loop-file-preserved : goal.loop-file-preserved
loop-file-preserved g c =
    checking_more g.O.Outside.told g.O.Outside.opened g.O.Outside.steady g.O.Outside.faults (map file_in c.args.files.now) c.args.limits.most c.args.limits.unit (map opened_in c.deref-file-items.result.now)
    c.loop-file.file-index c.args.out.now c.loop-file.out c.check_file.new.out blank c.loop-file.invariant
    (short_in c.deref-file-items.result.now c.loop-file.file-index c.loop-file-test.true)
    (subst (λ (o : Opened). (check : Checks) → check.most ≡ c.args.limits.most → c.args.limits.unit ≡ pos check.unit
    → WhereTold (HasChecked check (pair_of o) o.at) (g.O.Outside.told c.loop-file.out) (g.O.Outside.told c.check_file.new.out))
    (sym (get_or-map opened_in c.deref-file-items.result.now c.loop-file.file-index _ blank c.loop-file-test.true)) c.in_ok-check_file.ensures.told)
    c.in_ok-check_file.ensures.outcome.opened_same c.in_ok-check_file.ensures.outcome.steady_same c.in_ok-check_file.ensures.outcome.cause

pub returns-clause-done : goal.returns-clause-done
returns-clause-done g c =
    let same = length-map c.deref-file-items.result.now opened_in in
    checking_ends g.O.Outside.told g.O.Outside.opened g.O.Outside.steady g.O.Outside.faults (map file_in c.args.files.now) c.args.limits.most c.args.limits.unit (map opened_in c.deref-file-items.result.now)
    c.loop-file.file-index c.args.out.now c.loop-file.out c.loop-file.invariant (omega (arith, same, c.loop-file-test.false))

pub returns-clause-outcome : goal.returns-clause-outcome
returns-clause-outcome g c = search rules
