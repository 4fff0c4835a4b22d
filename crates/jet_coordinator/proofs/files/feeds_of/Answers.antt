use Rattle.std.proofs.Common.{arith}
use Rattle.std.proofs.lemmas.Option.{slice_get-get_or}
use Rattle.jet_coordinator.proofs.Starting.{none_started, one_started, all_started, all_files}
use Rattle.jet_coordinator.proofs.files.feeds_of.Goals as goal

pub loop-file-init : goal.loop-file-init
loop-file-init c = none_started c.args.limits c.args.opened.now c.new-feeds.result.items c.new-feeds.ensures.items

pub loop-file-preserved : goal.loop-file-preserved
loop-file-preserved c =
    one_started c.args.limits c.args.opened.now c.loop-file.file-index c.loop-file.feeds.items c.push.new.self.items _ c.feed_of.result c.loop-file.invariant
    (slice_get-get_or c.args.opened.now c.loop-file.file-index _ c.loop-file-test.true)
    record { file = c.feed_of.ensures.file; fed = c.feed_of.ensures.fed; untold = c.feed_of.ensures.untold } c.in_ok-push.ensures.items

pub returns-clause-fed : goal.returns-clause-fed
returns-clause-fed c = all_started c.args.limits c.args.opened.now c.loop-file.file-index c.loop-file.feeds.items c.loop-file.invariant (omega (arith, c.loop-file-test.false, c.loop-file.auto.file-index-end))

pub returns-clause-files : goal.returns-clause-files
returns-clause-files c = all_files c.args.limits c.args.opened.now c.loop-file.file-index c.loop-file.feeds.items c.loop-file.invariant (omega (arith, c.loop-file-test.false, c.loop-file.auto.file-index-end))
