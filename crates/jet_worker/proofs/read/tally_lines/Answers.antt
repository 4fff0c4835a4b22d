use Rattle.std.proofs.Common.{◌≡◌, ◌∙◌, ℕ, [], false, refl, sym, ap, subst}
use Rattle.std.proofs.lemmas.Result.{err_from_is_err_and}
use Rattle.jet_lines.specs.LinesValue.{LinesValue}
use Rattle.jet_worker.specs.inner.Tallying.{IsSmall}
use Rattle.jet_worker.proofs.LoopLemmas.{number_stays, progress_line, progress_piece, progress_starts, stops_at_cut, stops_at_line, stops_at_read}
use Rattle.jet_worker.proofs.read.tally_lines.Goals as goal

pub cuts-init : goal.cuts-init
cuts-init g c = record {
  progress = λ check f most tallied. progress_starts check (c.args.part, f) c.args.file (g.O.Outside.told c.args.out.now) c.new-lines.result c.args.tally.now
      (subst (λ (n : ℕ). c.new-lines.result ≡ record { most = n; number = 0; ended = false; line = []; rest = []; held = 0 }) (sym most) c.new-lines.ensures) tallied;
  small = subst (λ (n : ℕ). IsSmall n c.args.tally.now) (sym (ap (λ (v : LinesValue). v.number) c.new-lines.ensures)) c.requires.small;
  count_is = sym (ap (λ (v : LinesValue). v.number) c.new-lines.ensures);
  opened_same = refl;
  steady_same = refl;
  faults_same = refl;
}

pub cuts-preserved-in-Line : goal.cuts-preserved-in-Line
cuts-preserved-in-Line g c =
    let same : c.next.new.self.number ≡ c.in-Line.number = ap (λ (v : LinesValue). v.number) c.in-Line.ensures.4 in
    record {
      progress = λ check f most tallied.
          progress_line check (c.args.part, f) c.args.file (g.O.Outside.told c.args.out.now) (g.O.Outside.told c.cuts.out) c.cuts.lines c.next.new.self c.cuts.tally c.take_line.new.tally
          c.in-Line.number c.line.result.now (c.cuts.invariant.progress check f most tallied) c.in-Line.ensures c.line.ensures c.in_ok-take_line-in-Line.ensures.took;
      small = subst (λ (n : ℕ). IsSmall n c.take_line.new.tally) (sym same) c.in_ok-take_line-in-Line.ensures.small;
      count_is = sym same;
      opened_same = c.cuts.invariant.opened_same;
      steady_same = c.cuts.invariant.steady_same;
      faults_same = c.cuts.invariant.faults_same;
    }

pub cuts-preserved : goal.cuts-preserved
cuts-preserved g c =
    let same : c.read_piece.new.lines.number ≡ c.cuts.lines.number = number_stays c.cuts.lines c.next.new.self c.read_piece.new.lines c.in-More.ensures c.in_ok-read_piece-in-More.ensures.lines in
    record {
      progress = λ check f most tallied.
          progress_piece c.laws_of_lines.ensures check (c.args.part, f) c.args.file (g.O.Outside.told c.args.out.now) (g.O.Outside.told c.cuts.out) (g.O.Outside.told c.read_piece.new.out)
          c.cuts.lines c.next.new.self c.read_piece.new.lines c.cuts.tally (c.cuts.invariant.progress check f most tallied) c.in-More.ensures c.in_ok-read_piece-in-More.ensures.lines c.in_ok-read_piece-in-More.ensures.told;
      small = subst (λ (n : ℕ). IsSmall n c.cuts.tally) (sym same) c.cuts.invariant.small;
      count_is = c.cuts.invariant.count_is ∙ sym same;
      opened_same = c.in_ok-read_piece-in-More.ensures.outcome.opened_same ∙ c.cuts.invariant.opened_same;
      steady_same = c.in_ok-read_piece-in-More.ensures.outcome.steady_same ∙ c.cuts.invariant.steady_same;
      faults_same = c.in_ok-read_piece-in-More.ensures.outcome.cause ∙ c.cuts.invariant.faults_same;
    }

pub returns-in_err-take_line-in-Line-clause-told : goal.returns-in_err-take_line-in-Line-clause-told
returns-in_err-take_line-in-Line-clause-told g c =
    let p = err_from_is_err_and c.from_residual.result c.from_residual.ensures.1 in rw (p.1, p.2) (λ check f most tallied.
    stops_at_line c.laws_of_lines.ensures check (c.args.part, f) c.args.file (g.O.Outside.told c.args.out.now) (g.O.Outside.told c.cuts.out) c.cuts.lines c.cuts.tally (c.cuts.invariant.progress check f most tallied)
    c.in-Line.number c.args.part c.line.result.now c.next.new.self c.in_err-take_line-in-Line.field-0.0 refl c.in-Line.ensures c.line.ensures c.in_err-take_line-in-Line.ensures.stop)

pub returns-in_err-read_piece-in-More-clause-told : goal.returns-in_err-read_piece-in-More-clause-told
returns-in_err-read_piece-in-More-clause-told g c =
    let p = err_from_is_err_and c.from_residual-in_err-read_piece-in-More.result c.from_residual-in_err-read_piece-in-More.ensures.1 in rw (p.1, p.2) (λ check f most tallied.
    stops_at_read check (c.args.part, f) c.args.file (g.O.Outside.told c.args.out.now) (g.O.Outside.told c.cuts.out) c.cuts.lines c.cuts.tally (c.cuts.invariant.progress check f most tallied)
    c.in_err-read_piece-in-More.field-0.0 (g.O.Outside.told c.read_piece.new.out) c.in_err-read_piece-in-More.ensures.no_bad_line c.in_err-read_piece-in-More.ensures.told)

pub returns-in-Bad-clause-told : goal.returns-in-Bad-clause-told
returns-in-Bad-clause-told g c = λ check f most tallied.
    stops_at_cut c.laws_of_lines.ensures check (c.args.part, f) c.args.file (g.O.Outside.told c.args.out.now) (g.O.Outside.told c.cuts.out) c.cuts.lines c.cuts.tally (c.cuts.invariant.progress check f most tallied)
    c.in-Bad.line c.args.part c.in-Bad.why c.next.new.self refl c.in-Bad.ensures
