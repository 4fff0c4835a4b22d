use Rattle.jet_file.specs.Outside.{Opening}
use Rattle.jet_worker.specs.declared.stop.Call.TheVariants.{Open}
use Rattle.jet_worker.proofs.FeedLemmas.{goes_call_fails}
use Rattle.jet_worker.proofs.feed.open_data.Goals as goal

pub returns-in-Err-clause-told : goal.returns-in-Err-clause-told
returns-in-Err-clause-told g c =
    goes_call_fails Open c.args.spot (Opening c.args.name.now) c.in-Err.fault c.stop_of.result (g.O.Outside.told c.args.out.now) (g.O.Outside.told c.open_file.new.self) c.stop_of.ensures.stop c.in-Err.ensures.told
