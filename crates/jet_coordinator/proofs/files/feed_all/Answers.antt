use Rattle.std.proofs.Common.{Err}
use Rattle.jet_coordinator.proofs.ReadLemmas.{on_next, reads_then}
use Rattle.jet_coordinator.proofs.files.feed_all.Goals as goal

pub returns-in-Err-clause-bad : goal.returns-in-Err-clause-bad
returns-in-Err-clause-bad g c = λ check opened began h. c.in-Err.ensures.bad check opened began (c.files.invariant.fed check opened began h)

pub returns-in-Err-clause-told : goal.returns-in-Err-clause-told
returns-in-Err-clause-told g c =
    reads_then c.args.feeds.now c.files.feeds c.files.invariant.files c.files.moved (Err c.in-Err.stop) (g.O.Outside.told c.args.out.now) (g.O.Outside.told c.files.out) (g.O.Outside.told c.feed_at.new.out) c.files.invariant.told c.in-Err.ensures.told

pub files-preserved : goal.files-preserved
files-preserved g c =
    on_next g.O.Outside.told g.O.Outside.opened g.O.Outside.steady g.O.Outside.faults c.args.out.now c.files.out c.feed_at.new.out c.args.txs.now c.files.txs c.feed_at.new.txs c.args.feeds.now c.files.feeds c.feed_at.new.feeds c.files.moved c.in-Ok.more c.files.invariant record {
      fed = c.in-Ok.ensures.fed;
      ring = c.in-Ok.ensures.rings;
      files = c.in-Ok.ensures.files;
      told = c.in-Ok.ensures.told;
      outcome = c.in-Ok.ensures.outcome;
      still = c.in-Ok.ensures.still;
    }
