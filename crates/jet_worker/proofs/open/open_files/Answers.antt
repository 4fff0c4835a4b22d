use Rattle.std.proofs.Common.{◌≡◌, ◌≤◌, ◌∙◌, ℕ, List, map, length, sym, ap, subst}
use Rattle.std.proofs.lemmas.List.{length-map}
use Rattle.jet_flow.specs.DataFiles.{DataFile, data_files}
use Rattle.jet_worker.specs.Checked.{LacksSome}
use Rattle.jet_worker.specs.Opening.{file_in}
use Rattle.jet_worker.proofs.AllLemmas.{if_err}
use Rattle.jet_worker.proofs.FilesLemmas.{files_within, lags_within}
use Rattle.jet_worker.proofs.PlanFiles.{count_of, if_ok, lags_of, opens_nowhere}
use Rattle.jet_worker.proofs.open.open_files.Goals as goal

pub open_all-requires : goal.open_all-requires
open_all-requires g c =
    let files : map file_in c.deref.result.now ≡ data_files c.args.plan.now.dag = ap (map file_in) c.deref.ensures.value ∙ c.in-Ok.ensures ∙ ap data_files c.dag.ensures.dag in
    subst (λ (n : ℕ). n ≤ 256) (ap length (sym files) ∙ length-map c.deref.result.now file_in) (files_within c.args.plan.now.dag c.dag.ensures.limited.files)

pub returns-in-Ok-clause-count : goal.returns-in-Ok-clause-count
returns-in-Ok-clause-count g c =
    let files : map file_in c.deref.result.now ≡ data_files c.args.plan.now.dag = ap (map file_in) c.deref.ensures.value ∙ c.in-Ok.ensures ∙ ap data_files c.dag.ensures.dag in
    if_ok c.open_all.result _ _ (λ opened h. count_of (data_files c.args.plan.now.dag) opened.items (λ check is. h check (is ∙ sym files))) c.open_all.ensures.pairs

pub returns-in-Ok-clause-lags : goal.returns-in-Ok-clause-lags
returns-in-Ok-clause-lags g c =
    let files : map file_in c.deref.result.now ≡ data_files c.args.plan.now.dag = ap (map file_in) c.deref.ensures.value ∙ c.in-Ok.ensures ∙ ap data_files c.dag.ensures.dag in
    if_ok c.open_all.result _ _ (λ opened h. lags_of (data_files c.args.plan.now.dag) opened.items (λ check is. h check (is ∙ sym files)) (lags_within c.args.plan.now.dag c.args.plan.now.settings c.dag.ensures.valid)) c.open_all.ensures.pairs

pub returns-in-Ok-clause-pairs : goal.returns-in-Ok-clause-pairs
returns-in-Ok-clause-pairs g c =
    let files : map file_in c.deref.result.now ≡ data_files c.args.plan.now.dag = ap (map file_in) c.deref.ensures.value ∙ c.in-Ok.ensures ∙ ap data_files c.dag.ensures.dag in
    if_ok c.open_all.result _ _ (λ opened h check is. h check (is.files ∙ sym files)) c.open_all.ensures.pairs

pub returns-in-Ok-clause-stop : goal.returns-in-Ok-clause-stop
returns-in-Ok-clause-stop g c =
    let files : map file_in c.deref.result.now ≡ data_files c.args.plan.now.dag = ap (map file_in) c.deref.ensures.value ∙ c.in-Ok.ensures ∙ ap data_files c.dag.ensures.dag in
    if_err c.open_all.result _ _ (λ stop h check is. h check (is.files ∙ sym files)) c.open_all.ensures.stop

pub returns-in-Ok-clause-works : goal.returns-in-Ok-clause-works
returns-in-Ok-clause-works g c = λ steady.
    let files : map file_in c.deref.result.now ≡ data_files c.args.plan.now.dag = ap (map file_in) c.deref.ensures.value ∙ c.in-Ok.ensures ∙ ap data_files c.dag.ensures.dag in
    if_err c.open_all.result _ _ (λ stop h outside. subst (λ (fs : List DataFile). LacksSome fs (g.O.Outside.told c.args.out.now)) files (h outside)) (c.open_all.ensures.works steady)

pub returns-in-Err-clause-stop : goal.returns-in-Err-clause-stop
returns-in-Err-clause-stop g c = λ check is. opens_nowhere check (g.O.Outside.told c.args.out.now)
