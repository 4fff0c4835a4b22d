use Rattle.std.proofs.Common.{◌∙◌, ◌≡◌, List, [], All, Option, ap, length, map, subst}
use Rattle.jet_coordinator.proofs.BeginLemmas.{can_feed, has_feeds, stops_opened, stops_opening}
use Rattle.jet_file.specs.Outside.{Told}
use Rattle.jet_flow.specs.Inflows.{windows}
use Rattle.jet_items.specs.declared.item.Item.{Item}
use Rattle.jet_ring.specs.Ring.{TxView}
use Rattle.jet_worker.specs.Opening.{opened_in}
use Rattle.jet_worker.specs.declared.open.OpenFile.{OpenFile}
use Rattle.jet_coordinator.specs.Feeds.{AreFed, WhereThere}
use Rattle.jet_coordinator.proofs.beginning.open_feeds.Goals as goal

pub returns-in-Ok-feeds_for-clause-fit : goal.returns-in-Ok-feeds_for-clause-fit
returns-in-Ok-feeds_for-clause-fit g c =
    can_feed (g.O.Outside.opened c.open_files.new.out) c.in-Ok.opened.items c.in-Ok-feeds_for.feeds.items (c.in-Ok-feeds_for.ensures.files ∙ ap (map (λ (o : OpenFile). o.at)) c.deref.ensures.value)
    c.in-Ok.ensures.numbers.apart c.in-Ok.ensures.numbers.added

pub returns-in-Ok-feeds_for-clause-fed : goal.returns-in-Ok-feeds_for-clause-fed
returns-in-Ok-feeds_for-clause-fed g c = λ check is.
    has_feeds check (g.O.Outside.opened c.args.out.now) (g.O.Outside.opened c.open_files.new.out) c.in-Ok.opened.items c.in-Ok-feeds_for.feeds.items
    (g.O.Outside.told c.args.out.now) (g.O.Outside.told c.open_files.new.out) (c.in-Ok.ensures.pairs check is) c.in-Ok.ensures.numbers
    (subst (λ (files : List OpenFile). (now : Option Told) (txs : List (TxView Item)) → WhereThere now (map opened_in files) → length txs ≡ length files → All (λ (tx : TxView Item). tx.sent ≡ []) txs → AreFed check (map opened_in files) now now txs c.in-Ok-feeds_for.feeds.items)
    c.deref.ensures.value (λ now txs. c.in-Ok-feeds_for.ensures.fed check now txs is)) c.in-Ok.ensures.told

pub returns-in-Ok-clause-stop : goal.returns-in-Ok-clause-stop
returns-in-Ok-clause-stop g c = λ check is.
    stops_opened check (windows c.args.plan.now.dag) (map opened_in c.in-Ok.opened.items) (g.O.Outside.told c.args.out.now) (g.O.Outside.told c.open_files.new.out) (c.in-Ok.ensures.pairs check is) c.in-Ok.ensures.told

pub returns-clause-stop : goal.returns-clause-stop
returns-clause-stop g c = λ check is.
    stops_opening check (windows c.args.plan.now.dag) c.in-Err.stop (g.O.Outside.told c.args.out.now) (g.O.Outside.told c.open_files.new.out) c.in-Err.ensures.no_bad_line (c.in-Err.ensures.stop check is)
