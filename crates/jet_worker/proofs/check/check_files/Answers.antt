use Rattle.std.proofs.Common.{◌≡◌, ◌≤◌, ◌∙◌, ℕ, ℤ, pos, All, map, length, sym, ap, subst}
use Rattle.std.specs.Prelude.{unsigned_abs}
use Rattle.std.proofs.lemmas.List.{length-map}
use Rattle.jet_file.specs.Outside.{WhereTold}
use Rattle.jet_flow.specs.DataFiles.{data_files}
use Rattle.jet_worker.specs.Calls.{Calling}
use Rattle.jet_worker.specs.CheckText.{Checks}
use Rattle.jet_worker.specs.Checked.{CheckStops, IsCheckOf, IsChecked}
use Rattle.jet_worker.specs.Opening.{HasLag, file_in}
use Rattle.jet_worker.proofs.AllLemmas.{goes_nowhere, if_err, on_ok}
use Rattle.jet_worker.proofs.FilesLemmas.{files_within, lags_within}
use Rattle.jet_worker.proofs.check.check_files.Goals as goal

same_most : (lines : ℤ) (a b : ℕ) → lines ≡ pos a → lines ≡ pos b → a ≡ b
same_most lines a b one two = ap unsigned_abs (sym one ∙ two)

pub check_all-requires-clause-count : goal.check_all-requires-clause-count
check_all-requires-clause-count g c =
    let files : map file_in c.deref.result.now ≡ data_files c.args.plan.now.dag = ap (map file_in) c.deref.ensures.value ∙ c.in-Ok.ensures ∙ ap data_files c.dag.ensures.dag in
    subst (λ (n : ℕ). n ≤ 256) (ap length (sym files) ∙ length-map c.deref.result.now file_in) (files_within c.args.plan.now.dag c.dag.ensures.limited.files)

pub check_all-requires-clause-lags : goal.check_all-requires-clause-lags
check_all-requires-clause-lags g c =
    let files : map file_in c.deref.result.now ≡ data_files c.args.plan.now.dag = ap (map file_in) c.deref.ensures.value ∙ c.in-Ok.ensures ∙ ap data_files c.dag.ensures.dag in
    subst (All HasLag) (sym files) (lags_within c.args.plan.now.dag c.args.plan.now.settings c.dag.ensures.valid)

pub returns-in-Ok-clause-done : goal.returns-in-Ok-clause-done
returns-in-Ok-clause-done g c =
    let files : map file_in c.deref.result.now ≡ data_files c.args.plan.now.dag = ap (map file_in) c.deref.ensures.value ∙ c.in-Ok.ensures ∙ ap data_files c.dag.ensures.dag in
    let l = c.limits_of-limits.ensures in
    on_ok c.check_all.result _
    ((check : Checks) → IsCheckOf c.args.plan.now.dag c.args.plan.now.settings check → WhereTold (Calling (IsChecked check (g.O.Outside.opened c.args.out.now) (g.O.Outside.opened c.check_all.new.out))) (g.O.Outside.told c.args.out.now) (g.O.Outside.told c.check_all.new.out))
    (λ h check is. h check (is.files ∙ sym files) (same_most c.args.plan.now.settings.lines check.most c.limits_of-limits.result.most is.most l.most) (l.unit check.unit is.unit))
    c.check_all.ensures.done

pub returns-in-Ok-clause-stop : goal.returns-in-Ok-clause-stop
returns-in-Ok-clause-stop g c =
    let files : map file_in c.deref.result.now ≡ data_files c.args.plan.now.dag = ap (map file_in) c.deref.ensures.value ∙ c.in-Ok.ensures ∙ ap data_files c.dag.ensures.dag in
    let l = c.limits_of-limits.ensures in
    if_err c.check_all.result _
    (λ stop. (check : Checks) → IsCheckOf c.args.plan.now.dag c.args.plan.now.settings check → WhereTold (Calling (CheckStops check stop)) (g.O.Outside.told c.args.out.now) (g.O.Outside.told c.check_all.new.out))
    (λ stop h check is. h check (is.files ∙ sym files) (same_most c.args.plan.now.settings.lines check.most c.limits_of-limits.result.most is.most l.most) (l.unit check.unit is.unit))
    c.check_all.ensures.stop

pub returns-in-Err-clause-stop : goal.returns-in-Err-clause-stop
returns-in-Err-clause-stop g c = λ check is. goes_nowhere check (g.O.Outside.told c.args.out.now)
