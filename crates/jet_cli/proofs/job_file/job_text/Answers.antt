use Rattle.std.proofs.lemmas.Result.{err_from_is_err_and}
use Rattle.std.proofs.Common.{sym, subst, refl, ℕ, Bool, Option}
use Rattle.jet_file.specs.Outside.{Told, WhereTold, AddsNumber}
use Rattle.jet_worker.specs.Calls.{Calling}
use Rattle.jet_worker.specs.declared.stop.Spot.TheVariants.{Job}
use Rattle.jet_cli.specs.JobFiles.{ReadsJobFile, StopsJob}
use Rattle.jet_cli.specs.inner.TextReading.{ReadsFront, StopsReading}
use Rattle.jet_cli.proofs.PartsOfAnswers.{if_err_weaker, if_ok_weaker}
use Rattle.jet_cli.proofs.JobLemmas.{goes_job_file, goes_stops_after, goes_unopened}
use Rattle.jet_cli.proofs.job_file.job_text.Goals as goal

pub returns-clause-text : goal.returns-clause-text
returns-clause-text g c =
    let old : Option Told = g.O.Outside.told c.args.out.now in
    let mid : Option Told = g.O.Outside.told c.open_data.new.out in
    let new : Option Told = g.O.Outside.told c.read_text.new.out in
    let before : ℕ → Bool = g.O.Outside.opened c.args.out.now in
    let now : ℕ → Bool = g.O.Outside.opened c.read_text.new.out in
    let adds : AddsNumber c.in_ok-file.file before now = subst (λ (n : ℕ → Bool). AddsNumber c.in_ok-file.file before n) (sym c.read_text.ensures.outcome.opened_same) c.in_ok-file.ensures.opened in
    if_ok_weaker c.read_text.result (λ text. WhereTold (ReadsFront c.in_ok-file.file 1048577 text.items) mid new) (λ text. WhereTold (ReadsJobFile c.args.name.now text.items before now) old new)
    (λ text h. goes_job_file c.laws_of_files.ensures c.args.name.now text.items c.in_ok-file.file 1048577 before now old mid new refl adds c.in_ok-file.ensures.told h) c.read_text.ensures.text

pub returns-clause-stop : goal.returns-clause-stop
returns-clause-stop g c =
    let old : Option Told = g.O.Outside.told c.args.out.now in
    let mid : Option Told = g.O.Outside.told c.open_data.new.out in
    let new : Option Told = g.O.Outside.told c.read_text.new.out in
    if_err_weaker c.read_text.result (λ stop. WhereTold (StopsReading Job c.in_ok-file.file 1048577 stop) mid new) (λ stop. WhereTold (Calling (StopsJob c.args.name.now stop)) old new)
    (λ stop h. goes_stops_after c.args.name.now c.in_ok-file.file 1048577 stop old mid new refl c.in_ok-file.ensures.told h) c.read_text.ensures.stop

pub returns-in_err-file-clause-stop : goal.returns-in_err-file-clause-stop
returns-in_err-file-clause-stop g c =
    let p = err_from_is_err_and c.from_residual.result c.from_residual.ensures.1 in
    rw (p.1, p.2) (goes_unopened c.args.name.now c.in_err-file.field-0.0 (g.O.Outside.told c.args.out.now) (g.O.Outside.told c.open_data.new.out) c.in_err-file.ensures.told)
