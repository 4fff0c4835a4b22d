use Rattle.std.proofs.Common.{◌∙◌, map, ap}
use Rattle.std.specs.Prelude.{filter}
use Rattle.jet_items.specs.declared.item.Item.{Item}
use Rattle.jet_ring.specs.Ring.{rx_view}
use Rattle.jet_harness.specs.declared.harness.TakerEnd.{TakerEnd}
use Rattle.jet_harness.specs.Channels.{same_taker}
use Rattle.jet_harness.proofs.Parting.{filter_gone, filter_kept, map_map}
use Rattle.jet_harness.proofs.Same.{taker_apart}
use Rattle.jet_harness.proofs.harness.Harness.take_rxs.Goals as goal

pub returns-clause-taken : goal.returns-clause-taken
returns-clause-taken c =
    ap (map (rx_view {T = Item})) c.in_ok-taken.ensures.0
    ∙ map_map (λ (e : TakerEnd). e.rx) rx_view (filter (λ e. same_taker c.args.taker e.taker) c.replace-ends.result.items)
    ∙ ap (λ l. map (λ (e : TakerEnd). rx_view e.rx) (filter (λ e. same_taker c.args.taker e.taker) l)) (ap (λ v. v.items) c.replace-ends.ensures.value)

pub returns-clause-gone : goal.returns-clause-gone
returns-clause-gone c =
    ap (λ l. map (λ (e : TakerEnd). rx_view e.rx) (filter (λ e. same_taker c.args.taker e.taker) l)) c.in_ok-taken.ensures.1
    ∙ ap (map (λ (e : TakerEnd). rx_view e.rx)) (filter_gone (λ (e : TakerEnd). same_taker c.args.taker e.taker) c.replace-ends.result.items)

pub returns-clause-others : goal.returns-clause-others
returns-clause-others c = λ x other.
    ap (λ l. map (λ (e : TakerEnd). rx_view e.rx) (filter (λ e. same_taker x e.taker) l)) c.in_ok-taken.ensures.1
    ∙ ap (map (λ (e : TakerEnd). rx_view e.rx)) (filter_kept (λ (e : TakerEnd). same_taker c.args.taker e.taker) (λ e. same_taker x e.taker) (λ e here. taker_apart x c.args.taker other e.taker here) c.replace-ends.result.items)
    ∙ ap (λ l. map (λ (e : TakerEnd). rx_view e.rx) (filter (λ e. same_taker x e.taker) l)) (ap (λ v. v.items) c.replace-ends.ensures.value)
