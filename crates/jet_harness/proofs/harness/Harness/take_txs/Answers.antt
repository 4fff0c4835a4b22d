use Rattle.std.proofs.Common.{◌∙◌, map, ap}
use Rattle.std.specs.Prelude.{filter}
use Rattle.jet_items.specs.declared.item.Item.{Item}
use Rattle.jet_ring.specs.Ring.{tx_view}
use Rattle.jet_harness.specs.declared.harness.GiverEnd.{GiverEnd}
use Rattle.jet_harness.specs.Channels.{same_giver}
use Rattle.jet_harness.proofs.Parting.{filter_gone, filter_kept, map_map}
use Rattle.jet_harness.proofs.Same.{giver_apart}
use Rattle.jet_harness.proofs.harness.Harness.take_txs.Goals as goal

pub returns-clause-taken : goal.returns-clause-taken
returns-clause-taken c =
    ap (map (tx_view {T = Item})) c.in_ok-taken.ensures.0
    ∙ map_map (λ (e : GiverEnd). e.tx) tx_view (filter (λ e. same_giver c.args.giver e.giver) c.replace-ends.result.items)
    ∙ ap (λ l. map (λ (e : GiverEnd). tx_view e.tx) (filter (λ e. same_giver c.args.giver e.giver) l)) (ap (λ v. v.items) c.replace-ends.ensures.value)

pub returns-clause-gone : goal.returns-clause-gone
returns-clause-gone c =
    ap (λ l. map (λ (e : GiverEnd). tx_view e.tx) (filter (λ e. same_giver c.args.giver e.giver) l)) c.in_ok-taken.ensures.1
    ∙ ap (map (λ (e : GiverEnd). tx_view e.tx)) (filter_gone (λ (e : GiverEnd). same_giver c.args.giver e.giver) c.replace-ends.result.items)

pub returns-clause-others : goal.returns-clause-others
returns-clause-others c = λ x other.
    ap (λ l. map (λ (e : GiverEnd). tx_view e.tx) (filter (λ e. same_giver x e.giver) l)) c.in_ok-taken.ensures.1
    ∙ ap (map (λ (e : GiverEnd). tx_view e.tx)) (filter_kept (λ (e : GiverEnd). same_giver c.args.giver e.giver) (λ e. same_giver x e.giver) (λ e here. giver_apart x c.args.giver other e.giver here) c.replace-ends.result.items)
    ∙ ap (λ l. map (λ (e : GiverEnd). tx_view e.tx) (filter (λ e. same_giver x e.giver) l)) (ap (λ v. v.items) c.replace-ends.ensures.value)
