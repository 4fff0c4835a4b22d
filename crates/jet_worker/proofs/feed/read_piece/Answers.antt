use Rattle.std.proofs.Common.{◌<◌, ◌≤◌, length, take, arith}
use Rattle.jet_file.specs.Outside.{Reading}
use Rattle.jet_worker.specs.Calls.{most_piece}
use Rattle.jet_worker.specs.declared.stop.Call.TheVariants.{Read}
use Rattle.jet_worker.proofs.FeedLemmas.{appended, goes_piece, goes_uncalled, puts_end, puts_piece}
use Rattle.jet_worker.proofs.feed.read_piece.Goals as goal

pub returns-then-is_err-clause-told : goal.returns-then-is_err-clause-told
returns-then-is_err-clause-told g c = goes_uncalled Read c.args.spot (Reading c.args.file) (g.O.Outside.told c.args.out.now)

pub returns-in-Ok-clause-told : goal.returns-in-Ok-clause-told
returns-in-Ok-clause-told g c =
    let most : length c.read_bytes.new.buf ≤ most_piece = omega (arith, c.read_bytes.auto.buf) in
    let more : 0 < c.in-Ok.count = omega arith in
    goes_piece c.what_is_left_of_a_file.ensures.read c.args.file c.read_bytes.new.buf c.in-Ok.count c.args.lines.now c.append.new.self (g.O.Outside.told c.args.out.now) (g.O.Outside.told c.read_bytes.new.out)
    more c.in-Ok.ensures.bound most c.requires.open (appended c.args.lines.now c.reserve.new.self c.append.new.self (take c.in-Ok.count c.read_bytes.new.buf) c.reserve.ensures.same c.append.ensures) c.in-Ok.ensures.told

pub returns-in-Ok-clause-lines : goal.returns-in-Ok-clause-lines
returns-in-Ok-clause-lines g c =
    let most : length c.read_bytes.new.buf ≤ most_piece = omega (arith, c.read_bytes.auto.buf) in
    let more : 0 < c.in-Ok.count = omega arith in
    puts_piece c.read_bytes.new.buf c.in-Ok.count c.args.lines.now c.reserve.new.self c.append.new.self more c.in-Ok.ensures.bound most c.reserve.ensures.same c.append.ensures

pub returns-in-Ok-eq0-clause-lines : goal.returns-in-Ok-eq0-clause-lines
returns-in-Ok-eq0-clause-lines g c = puts_end c.args.lines.now c.reserve.new.self c.end.new.self c.reserve.ensures.same c.end.ensures
