use Rattle.std.proofs.Common.{arith, rules, ◌∙◌, ◌+◌, ◌≤◌, ◌++◌, ℕ, List, length, drop, take, refl, subst, sym}
use Rattle.std.proofs.lemmas.Result.{err_from_is_err_and}
use Rattle.jet_file.specs.Outside.{WhereTold}
use Rattle.jet_worker.specs.Calls.{most_piece}
use Rattle.jet_cli.specs.inner.TextReading.{TakesText}
use Rattle.jet_cli.proofs.TextLemmas.{goes_front, goes_full, goes_lost, goes_piece, goes_stops_reading, goes_untaken, piece_fits, piece_small, room_fits, some_count}
use Rattle.jet_cli.proofs.read_text.read_text.Goals as goal

pub pieces-init : goal.pieces-init
pieces-init g c = record {
  short = search rules;
  took = subst (λ (l : List ℕ). WhereTold (TakesText c.args.file l) (g.O.Outside.told c.args.out.now) (g.O.Outside.told c.args.out.now)) (sym c.new-text.ensures.items) (goes_untaken c.args.file (g.O.Outside.told c.args.out.now));
  opened_same = refl;
  steady_same = refl;
  faults_same = refl;
}

pub returns-in_err-count-clause-stop : goal.returns-in_err-count-clause-stop
returns-in_err-count-clause-stop g c =
    let p = err_from_is_err_and c.from_residual.result c.from_residual.ensures.1 in
    rw (p.1, p.2) (goes_stops_reading c.args.spot c.args.file c.args.most c.pieces.text.items c.in_err-count.field-0.0 (g.O.Outside.told c.args.out.now) (g.O.Outside.told c.pieces.out) (g.O.Outside.told c.read_bytes.new.out)
    c.pieces.invariant.short c.pieces.invariant.took c.in_err-count.ensures.told)

pub returns-in_err-append-clause-stop : goal.returns-in_err-append-clause-stop
returns-in_err-append-clause-stop g c =
    let p = err_from_is_err_and c.from_residual-in_err-append.result c.from_residual-in_err-append.ensures.1 in
    let rest = drop c.min-room.result c.pieces.buf in
    let text = c.pieces.text.items ++ take c.in_ok-count.count (c.read_bytes.new.buf ++ rest) in
    let room : length c.pieces.text.items + length c.read_bytes.new.buf ≤ c.args.most =
    room_fits c.pieces.text.items c.pieces.buf c.read_bytes.new.buf c.len-in-pieces.result c.min-room.result c.args.most c.read_bytes.auto.buf c.min-room.ensures (c.len-in-pieces.ensures ∙ c.pieces.text.ok.0) c.pieces.invariant.short in
    let small : length c.read_bytes.new.buf ≤ most_piece = piece_small c.pieces.buf c.read_bytes.new.buf c.len-in-pieces.result c.min-room.result c.args.most c.read_bytes.auto.buf c.min-room.ensures in
    rw (p.1, p.2) (goes_lost c.args.spot c.args.file c.args.most text c.in_err-append.field-0.0 (g.O.Outside.told c.args.out.now) (g.O.Outside.told c.read_bytes.new.out) c.in_err-append.ensures.err
    (piece_fits c.pieces.text.items text c.read_bytes.new.buf rest c.in_ok-count.count c.args.most c.in_ok-count.ensures.bound refl room)
    (goes_piece c.laws_of_files.ensures c.args.file c.pieces.text.items text c.read_bytes.new.buf rest c.in_ok-count.count (g.O.Outside.told c.args.out.now)
    (g.O.Outside.told c.pieces.out) (g.O.Outside.told c.read_bytes.new.out) (some_count c.in_ok-count.count c.if-count-eq0.false) c.in_ok-count.ensures.bound small refl c.pieces.invariant.took c.in_ok-count.ensures.told))

pub returns-then-count-eq0-clause-text : goal.returns-then-count-eq0-clause-text
returns-then-count-eq0-clause-text g c =
    let small : length c.read_bytes.new.buf ≤ most_piece = piece_small c.pieces.buf c.read_bytes.new.buf c.len-in-pieces.result c.min-room.result c.args.most c.read_bytes.auto.buf c.min-room.ensures in
    goes_front c.laws_of_files.ensures c.args.file c.args.most c.pieces.text.items c.read_bytes.new.buf c.in_ok-count.count (g.O.Outside.told c.args.out.now) (g.O.Outside.told c.pieces.out) (g.O.Outside.told c.read_bytes.new.out)
    c.if-count-eq0.true small c.pieces.invariant.short c.pieces.invariant.took c.in_ok-count.ensures.told

pub pieces-preserved : goal.pieces-preserved
pieces-preserved g c =
    let room : length c.pieces.text.items + length c.read_bytes.new.buf ≤ c.args.most =
    room_fits c.pieces.text.items c.pieces.buf c.read_bytes.new.buf c.len-in-pieces.result c.min-room.result c.args.most c.read_bytes.auto.buf c.min-room.ensures (c.len-in-pieces.ensures ∙ c.pieces.text.ok.0) c.pieces.invariant.short in
    let small : length c.read_bytes.new.buf ≤ most_piece = piece_small c.pieces.buf c.read_bytes.new.buf c.len-in-pieces.result c.min-room.result c.args.most c.read_bytes.auto.buf c.min-room.ensures in
    record {
      short = piece_fits c.pieces.text.items c.append.new.text.items c.read_bytes.new.buf (drop c.min-room.result c.pieces.buf) c.in_ok-count.count c.args.most c.in_ok-count.ensures.bound c.in_ok-append.ensures.ok room;
      took = goes_piece c.laws_of_files.ensures c.args.file c.pieces.text.items c.append.new.text.items c.read_bytes.new.buf (drop c.min-room.result c.pieces.buf) c.in_ok-count.count (g.O.Outside.told c.args.out.now)
          (g.O.Outside.told c.pieces.out) (g.O.Outside.told c.read_bytes.new.out) (some_count c.in_ok-count.count c.if-count-eq0.false) c.in_ok-count.ensures.bound small c.in_ok-append.ensures.ok c.pieces.invariant.took c.in_ok-count.ensures.told;
      opened_same = c.in_ok-count.ensures.outcome.opened_same ∙ c.pieces.invariant.opened_same;
      steady_same = c.in_ok-count.ensures.outcome.steady_same ∙ c.pieces.invariant.steady_same;
      faults_same = c.in_ok-count.ensures.outcome.cause ∙ c.pieces.invariant.faults_same;
    }

pub returns-clause-text : goal.returns-clause-text
returns-clause-text g c =
    let full : c.args.most ≤ length c.pieces.text.items = omega (arith, c.pieces-test.false, c.len.ensures, c.pieces.text.ok.0) in
    goes_full c.args.file c.args.most c.pieces.text.items (g.O.Outside.told c.args.out.now) (g.O.Outside.told c.pieces.out) c.pieces.invariant.short full c.pieces.invariant.took
