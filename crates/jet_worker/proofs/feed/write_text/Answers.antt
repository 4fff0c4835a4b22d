use Rattle.jet_worker.proofs.FeedLemmas.{goes_write_stops}
use Rattle.jet_worker.proofs.feed.write_text.Goals as goal

pub returns-in-Err-clause-told : goal.returns-in-Err-clause-told
returns-in-Err-clause-told g c =
    goes_write_stops c.args.to c.args.text.now c.in-Err.fault c.stop_of.result c.spot_of.result (g.O.Outside.told c.args.out.now) (g.O.Outside.told c.write_all.new.out) c.spot_of.ensures c.stop_of.ensures.stop c.in-Err.ensures.told
