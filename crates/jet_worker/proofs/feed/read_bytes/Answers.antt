use Rattle.jet_file.specs.Outside.{Reading}
use Rattle.jet_worker.specs.declared.stop.Call.TheVariants.{Read}
use Rattle.jet_worker.proofs.FeedLemmas.{goes_call_fails}
use Rattle.jet_worker.proofs.feed.read_bytes.Goals as goal

pub returns-in-Err-clause-told : goal.returns-in-Err-clause-told
returns-in-Err-clause-told g c =
    goes_call_fails Read c.args.spot (Reading c.args.file) c.in-Err.fault c.stop_of.result (g.O.Outside.told c.args.out.now) (g.O.Outside.told c.read.new.self) c.stop_of.ensures.stop c.in-Err.ensures.told
