use Rattle.std.proofs.Common.{arith, ◌≡◌, ◌∙◌, ◌+◌, ◌++◌, ◌∷◌, [], ℕ, List, map, get_or, refl, sym, ap, subst}
use Rattle.std.specs.List.{enumerate_from}
use Rattle.std.proofs.lemmas.List.{length-map, map-append}
use Rattle.std.proofs.lemmas.Result.{err_from_is_err_and}
use Rattle.jet_file.specs.Outside.{WhereTold, LacksFile, Opening, OpensFile}
use Rattle.jet_flow.specs.DataFiles.{SideFile}
use Rattle.jet_worker.specs.Feeding.{FailsAt}
use Rattle.jet_worker.specs.Opening.{Opened, file_in, opened_in}
use Rattle.jet_worker.specs.declared.stop.Call.TheVariants.{Open}
use Rattle.jet_worker.specs.declared.stop.Spot.TheVariants.{Part}
use Rattle.jet_worker.proofs.OpenLemmas.{SoFar, file_at, file_more, lacks_file, short_in, stops_at_file, stops_at_keep, whole}
use Rattle.jet_worker.proofs.open.open_all.Goals as goal

pub returns-in_err-at-clause-stop : goal.returns-in_err-at-clause-stop
returns-in_err-at-clause-stop g c =
    let p = err_from_is_err_and c.from_residual.result c.from_residual.ensures.1 in rw (p.1, p.2) (λ check same.
    stops_at_file g.O.Outside.told g.O.Outside.opened g.O.Outside.steady g.O.Outside.faults check (map file_in c.args.files.now) c.loop-number.number c.loop-number.number (file_in (get_or c.args.files.now c.loop-number.number _)) (SideFile []) (map opened_in c.loop-number.opened.items)
    c.in_err-at.field-0.0 c.args.out.now c.loop-number.out c.open_data.new.out same (short_in c.args.files.now c.loop-number.number c.loop-number-test.true) refl
    (file_at c.args.files.now c.loop-number.number _ c.loop-number-test.true) c.loop-number.invariant
    (subst (λ (name : List ℕ). WhereTold (FailsAt Open (Part c.loop-number.number) (Opening name) c.in_err-at.field-0.0) (g.O.Outside.told c.loop-number.out) (g.O.Outside.told c.open_data.new.out)) c.name.ensures c.in_err-at.ensures.told))

pub returns-in_err-at-clause-works : goal.returns-in_err-at-clause-works
returns-in_err-at-clause-works g c =
    let p = err_from_is_err_and c.from_residual.result c.from_residual.ensures.1 in rw (p.1, p.2) (λ steady outside.
    lacks_file (map file_in c.args.files.now) c.loop-number.number (file_in (get_or c.args.files.now c.loop-number.number _)) (SideFile []) (map opened_in c.loop-number.opened.items)
    (g.O.Outside.told c.args.out.now) (g.O.Outside.told c.loop-number.out) (short_in c.args.files.now c.loop-number.number c.loop-number-test.true)
    (file_at c.args.files.now c.loop-number.number _ c.loop-number-test.true) c.loop-number.invariant.told_so
    (subst (λ (name : List ℕ). LacksFile name (g.O.Outside.told c.loop-number.out)) c.name.ensures (c.in_err-at.ensures.works (c.loop-number.invariant.steady_same ∙ steady) outside)))

pub loop-number-preserved : goal.loop-number-preserved
loop-number-preserved g c =
    let o : Opened = record { part = c.loop-number.number; file = file_in (get_or c.args.files.now c.loop-number.number _); at = c.in_ok-at.at } in
    let all : map opened_in c.keep.new.opened.items ≡ map opened_in c.loop-number.opened.items ++ o ∷ [] =
    ap (map opened_in) c.in_ok-keep.ensures.ok ∙ map-append opened_in c.loop-number.opened.items _ in
    subst (λ (l : List Opened). SoFar g.O.Outside.told g.O.Outside.opened g.O.Outside.steady g.O.Outside.faults (map file_in c.args.files.now) (c.loop-number.number + 1) l c.args.out.now c.open_data.new.out) (sym all)
    (file_more g.O.Outside.told g.O.Outside.opened g.O.Outside.steady g.O.Outside.faults (map file_in c.args.files.now) c.loop-number.number (map opened_in c.loop-number.opened.items)
    c.args.out.now c.loop-number.out c.open_data.new.out o (SideFile []) c.loop-number.invariant (short_in c.args.files.now c.loop-number.number c.loop-number-test.true) refl
    (file_at c.args.files.now c.loop-number.number _ c.loop-number-test.true) c.in_ok-at.ensures.opened
    (subst (λ (name : List ℕ). WhereTold (OpensFile name c.in_ok-at.at) (g.O.Outside.told c.loop-number.out) (g.O.Outside.told c.open_data.new.out)) c.name.ensures c.in_ok-at.ensures.told)
    c.in_ok-at.ensures.outcome.steady_same c.in_ok-at.ensures.outcome.cause)

pub returns-clause-pairs : goal.returns-clause-pairs
returns-clause-pairs g c = λ check same.
    c.loop-number.invariant.pairs ∙ whole 0 c.loop-number.number (map file_in c.args.files.now) (omega (arith, length-map c.args.files.now file_in, c.loop-number-test.false)) ∙ sym (ap (enumerate_from 0) same)

pub returns-in_err-keep-clause-stop : goal.returns-in_err-keep-clause-stop
returns-in_err-keep-clause-stop g c =
    let p = err_from_is_err_and c.from_residual-in_err-keep.result c.from_residual-in_err-keep.ensures.1 in rw (p.1, p.2) (λ check same.
    let o : Opened = record { part = c.loop-number.number; file = file_in (get_or c.args.files.now c.loop-number.number _); at = c.in_ok-at.at } in
    let short = short_in c.args.files.now c.loop-number.number c.loop-number-test.true in
    stops_at_keep g.O.Outside.told g.O.Outside.opened g.O.Outside.steady g.O.Outside.faults check (map file_in c.args.files.now) (c.loop-number.number + 1) (map opened_in c.loop-number.opened.items ++ o ∷ [])
    c.in_err-keep.field-0.0 c.args.out.now c.open_data.new.out same (omega (arith, short)) c.in_err-keep.ensures.err
    (file_more g.O.Outside.told g.O.Outside.opened g.O.Outside.steady g.O.Outside.faults (map file_in c.args.files.now) c.loop-number.number (map opened_in c.loop-number.opened.items)
    c.args.out.now c.loop-number.out c.open_data.new.out o (SideFile []) c.loop-number.invariant short refl
    (file_at c.args.files.now c.loop-number.number _ c.loop-number-test.true) c.in_ok-at.ensures.opened
    (subst (λ (name : List ℕ). WhereTold (OpensFile name c.in_ok-at.at) (g.O.Outside.told c.loop-number.out) (g.O.Outside.told c.open_data.new.out)) c.name.ensures c.in_ok-at.ensures.told)
    c.in_ok-at.ensures.outcome.steady_same c.in_ok-at.ensures.outcome.cause))
