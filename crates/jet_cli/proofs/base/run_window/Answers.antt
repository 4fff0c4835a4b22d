use Rattle.std.proofs.Common.{arith, ◌≡◌, ◌∙◌, sym, subst, ℕ, pos, Option, to_z, w64, refl, Bool}
use Rattle.std.proofs.lemmas.Result.{err_from_is_err_and}
use Rattle.std.proofs.lemmas.Int.{ints}
use Rattle.jet_file.specs.Outside.{Told, AddsNumber}
use Rattle.jet_cli.specs.Words.{WindowCommand}
use Rattle.jet_cli.specs.WordsView.{window_in}
use Rattle.jet_worker.proofs.LeftLaws.{less_left}
use Rattle.jet_cli.proofs.LoopLemmas.{took_line, took_piece, stops_at_cut, stops_at_line, stops_else, stops_read, stops_at_end, done_at_end, outcome_of, works_on}
use Rattle.jet_cli.proofs.ProgressLemmas.{progress_starts}
use Rattle.jet_cli.proofs.StopLemmas.{goes_unopened}
use Rattle.jet_cli.proofs.base.run_window.Goals as goal

pub cuts-init : goal.cuts-init
cuts-init g c =
    let command : WindowCommand = window_in c.args.words.now in
    let lag : to_z w64 c.args.words.now.lag ≡ pos c.args.words.now.lag = omega (arith, ints, c.requires.lag) in
    let begun = c.new-counter.ensures.counts command c.requires.size c.requires.slide lag in
    record {
      progress = progress_starts command c.in_ok-file.file (g.O.Outside.told c.open_data.new.out) c.new-lines.result c.new-counter.result c.new-lines.ensures begun.0 begun.1 c.new-counter.ensures.rows c.new-counter.ensures.notes;
      opened_same = refl;
      steady_same = refl;
      faults_same = refl;
    }

pub cuts-preserved-in-Continue-branch-2 : goal.cuts-preserved-in-Continue-branch-2
cuts-preserved-in-Continue-branch-2 g c =
    let now : Option Told = g.O.Outside.told c.cuts.out in
    record {
      progress = took_line c.laws_of_lines.ensures (window_in c.args.words.now) c.in_ok-file.file (g.O.Outside.told c.open_data.new.out) now (g.O.Outside.told c.take_line.new.out) c.cuts.lines c.next.new.self
          c.cuts.counter c.take_line.new.counter c.in-Line.number c.line.result.now c.cuts.invariant.progress c.in-Line.ensures c.line.ensures c.in_ok-take_line-in-Line.ensures.took;
      opened_same = c.in_ok-take_line-in-Line.ensures.outcome.opened_same ∙ c.cuts.invariant.opened_same;
      steady_same = c.in_ok-take_line-in-Line.ensures.outcome.steady_same ∙ c.cuts.invariant.steady_same;
      faults_same = c.in_ok-take_line-in-Line.ensures.outcome.cause ∙ c.cuts.invariant.faults_same;
    }

pub cuts-preserved : goal.cuts-preserved
cuts-preserved g c = record {
  progress = took_piece c.laws_of_lines.ensures (window_in c.args.words.now) c.in_ok-file.file (g.O.Outside.told c.open_data.new.out) (g.O.Outside.told c.cuts.out) (g.O.Outside.told c.read_piece.new.out)
      c.cuts.lines c.next.new.self c.read_piece.new.lines c.cuts.counter c.cuts.invariant.progress c.in-More.ensures c.in_ok-read_piece-in-More.ensures.lines c.in_ok-read_piece-in-More.ensures.told;
  opened_same = c.in_ok-read_piece-in-More.ensures.outcome.opened_same ∙ c.cuts.invariant.opened_same;
  steady_same = c.in_ok-read_piece-in-More.ensures.outcome.steady_same ∙ c.cuts.invariant.steady_same;
  faults_same = c.in_ok-read_piece-in-More.ensures.outcome.cause ∙ c.cuts.invariant.faults_same;
}

pub cuts-smaller : goal.cuts-smaller
cuts-smaller g c = less_left c.cuts.lines c.next.new.self c.read_piece.new.lines c.in-More.ensures c.in_ok-read_piece-in-More.ensures.lines

pub returns-in-Bad-clause-stop : goal.returns-in-Bad-clause-stop
returns-in-Bad-clause-stop g c =
    stops_at_cut c.laws_of_files.ensures c.laws_of_lines.ensures (window_in c.args.words.now) c.in_ok-file.file (g.O.Outside.told c.args.out.now) (g.O.Outside.told c.open_data.new.out) (g.O.Outside.told c.cuts.out)
    c.cuts.lines c.next.new.self c.cuts.counter c.in-Bad.line c.in-Bad.why c.cuts.invariant.progress c.in-Bad.ensures c.in_ok-file.ensures.told

pub returns-in_err-take_line-in-Line-clause-stop : goal.returns-in_err-take_line-in-Line-clause-stop
returns-in_err-take_line-in-Line-clause-stop g c =
    let p = err_from_is_err_and c.from_residual-in_err-take_line-in-Line.result c.from_residual-in_err-take_line-in-Line.ensures.1 in rw (p.1, p.2)
    (stops_at_line c.laws_of_files.ensures c.laws_of_lines.ensures (window_in c.args.words.now) c.in_ok-file.file (g.O.Outside.told c.args.out.now) (g.O.Outside.told c.open_data.new.out) (g.O.Outside.told c.cuts.out) (g.O.Outside.told c.take_line.new.out)
    c.cuts.lines c.next.new.self c.cuts.counter c.in-Line.number c.line.result.now c.in_err-take_line-in-Line.field-0.0 c.cuts.invariant.progress c.in-Line.ensures c.line.ensures
    c.in_err-take_line-in-Line.ensures.stop c.in_ok-file.ensures.told)

pub returns-in_err-read_piece-in-More-clause-stop : goal.returns-in_err-read_piece-in-More-clause-stop
returns-in_err-read_piece-in-More-clause-stop g c =
    let p = err_from_is_err_and c.from_residual-in_err-read_piece-in-More.result c.from_residual-in_err-read_piece-in-More.ensures.1 in rw (p.1, p.2)
    (stops_else c.laws_of_files.ensures (window_in c.args.words.now) c.in_ok-file.file (g.O.Outside.told c.args.out.now) (g.O.Outside.told c.open_data.new.out) (g.O.Outside.told c.cuts.out) (g.O.Outside.told c.read_piece.new.out)
    c.cuts.lines c.cuts.counter c.in_err-read_piece-in-More.field-0.0 c.cuts.invariant.progress c.in_err-read_piece-in-More.ensures.no_bad_line
    (stops_read c.in_ok-file.file c.in_err-read_piece-in-More.field-0.0 (g.O.Outside.told c.cuts.out) (g.O.Outside.told c.read_piece.new.out) c.in_err-read_piece-in-More.ensures.told) c.in_ok-file.ensures.told)

pub returns-in-End-clause-done : goal.returns-in-End-clause-done
returns-in-End-clause-done g c =
    let same : g.O.Outside.opened c.end_file.new.out ≡ g.O.Outside.opened c.open_data.new.out = c.end_file.ensures.outcome.opened_same ∙ c.cuts.invariant.opened_same in
    done_at_end c.laws_of_files.ensures c.laws_of_lines.ensures (window_in c.args.words.now) c.in_ok-file.file (g.O.Outside.opened c.args.out.now) (g.O.Outside.opened c.end_file.new.out) (g.O.Outside.told c.args.out.now) (g.O.Outside.told c.open_data.new.out) (g.O.Outside.told c.cuts.out) (g.O.Outside.told c.end_file.new.out)
    c.cuts.lines c.next.new.self c.cuts.counter c.end_file.result c.cuts.invariant.progress c.in-End.ensures c.in_ok-file.ensures.told
    (subst (λ (now : ℕ → Bool). AddsNumber c.in_ok-file.file (g.O.Outside.opened c.args.out.now) now) (sym same) c.in_ok-file.ensures.opened) c.end_file.ensures.ends

pub returns-in-End-clause-stop : goal.returns-in-End-clause-stop
returns-in-End-clause-stop g c =
    stops_at_end c.laws_of_files.ensures (window_in c.args.words.now) c.in_ok-file.file (g.O.Outside.told c.args.out.now) (g.O.Outside.told c.open_data.new.out) (g.O.Outside.told c.cuts.out) (g.O.Outside.told c.end_file.new.out)
    c.cuts.lines c.cuts.counter c.end_file.result c.cuts.invariant.progress c.in_ok-file.ensures.told c.end_file.ensures.stop

pub returns-in-End-clause-works : goal.returns-in-End-clause-works
returns-in-End-clause-works g c = λ h.
    works_on c.end_file.result c.args.words.now.file.now (g.O.Outside.told c.args.out.now)
    (c.end_file.ensures.outcome.works (c.cuts.invariant.steady_same ∙ c.in_ok-file.ensures.outcome.steady_same ∙ h))

pub returns-in-End-clause-outcome : goal.returns-in-End-clause-outcome
returns-in-End-clause-outcome g c =
    outcome_of g.O.Outside.opened g.O.Outside.steady g.O.Outside.faults c.args.out.now c.open_data.new.out c.cuts.out c.end_file.new.out c.end_file.result
    c.in_ok-file.ensures.outcome.steady_same c.in_ok-file.ensures.outcome.cause c.cuts.invariant.steady_same c.cuts.invariant.faults_same c.end_file.ensures.outcome

pub returns-in_err-file-clause-stop : goal.returns-in_err-file-clause-stop
returns-in_err-file-clause-stop g c =
    let p = err_from_is_err_and c.from_residual.result c.from_residual.ensures.1 in rw (p.1, p.2)
    (goes_unopened (window_in c.args.words.now) c.in_err-file.field-0.0 (g.O.Outside.told c.args.out.now) (g.O.Outside.told c.open_data.new.out) c.in_err-file.ensures.no_bad_line c.in_err-file.ensures.told)
