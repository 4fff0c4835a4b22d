use Rattle.std.proofs.Common.{ap, length, sym}
use Rattle.jet_coordinator.proofs.BeginLemmas.{begins_over, go_first}
use Rattle.jet_flow.specs.DataFiles.{data_files}
use Rattle.jet_flow.specs.Inflows.{windows}
use Rattle.jet_coordinator.proofs.beginning.over_feeds.Goals as goal

pub returns-in-Ok-clause-fit : goal.returns-in-Ok-clause-fit
returns-in-Ok-clause-fit c = λ is_open fed.
    go_first is_open c.new.result c.in-Ok.job c.args.feeds c.in-Ok.sink (length (data_files c.args.plan.now.dag)) c.new.ensures.job c.new.ensures.feeds c.new.ensures.sink
    c.in-Ok.ensures.job c.requires.count fed c.new.ensures.ahead c.in-Ok.ensures.alike

pub returns-in-Ok-clause-begun : goal.returns-in-Ok-clause-begun
returns-in-Ok-clause-begun c = λ check before is_open told next is.
    begins_over check (windows c.args.plan.now.dag) before is_open (length (data_files c.args.plan.now.dag)) c.new.result c.in-Ok.job c.args.feeds c.in-Ok.sink
    told next c.new.ensures.job c.new.ensures.feeds c.new.ensures.sink c.in-Ok.ensures.job (ap length (sym is.files)) c.in-Ok.ensures.drained c.in-Ok.ensures.windows
