use Rattle.std.proofs.Common.{Bool, true}
use Rattle.jet_feed.proofs.FedLemmas.{put_piece}
use Rattle.jet_feed.proofs.StepLemmas.{fail_told, piece_told}
use Rattle.jet_feed.proofs.feed.Feed.read_on.Goals as goal

pub returns-in-Ok-clause-kept : goal.returns-in-Ok-clause-kept
returns-in-Ok-clause-kept g c =
    put_piece c.args.self.now c.read_piece.new.lines (g.O.Outside.told c.args.out.now) (g.O.Outside.told c.read_piece.new.out) c.requires.open c.in-Ok.ensures.lines c.in-Ok.ensures.told

pub returns-in-Ok-clause-told : goal.returns-in-Ok-clause-told
returns-in-Ok-clause-told g c =
    piece_told c.args.self.now true c.args.self.now.lines c.read_piece.new.lines (g.O.Outside.told c.args.out.now) (g.O.Outside.told c.read_piece.new.out) c.in-Ok.ensures.told

pub returns-in-Err-clause-told : goal.returns-in-Err-clause-told
returns-in-Err-clause-told g c = fail_told Bool c.args.self.now c.in-Err.stop (g.O.Outside.told c.args.out.now) (g.O.Outside.told c.read_piece.new.out) c.in-Err.ensures.told
