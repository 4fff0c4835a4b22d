use Rattle.std.proofs.Common.{List, refl, sym, ◌∙◌, ap, subst}
use Rattle.std.specs.Prelude.{Some}
use Rattle.jet_ring.specs.Ring.{tx_ring, rx_ring}
use Rattle.jet_tasklet.specs.declared.any.AnyTasklet.{AnyTasklet}
use Rattle.jet_tasklet.specs.inner.Chain.{IsChain}
use Rattle.jet_tasklet.proofs.tests.window_chain.Goals as goal

pub returns : goal.returns
returns c =
    let stamp = c.in_ok-stamp.ensures in
    let frame = c.in_ok-frame.ensures in
    let combine = c.in_ok-combine.ensures in
    subst (λ (ts : List AnyTasklet). IsChain (tx_ring c.in_ok-source.source) ts (rx_ring c.in_ok-combined.sink)) (sym c.in_ok-from_array.ensures.items)
    (record {
      three = refl;
      lawful = (stamp.lawful, (frame.lawful, (combine.lawful, tt)));
      linked = (
        tx_ring c.in_ok-stamped.stamped,
        stamp.takes ∙ ap Some (sym c.in_ok-source.ensures.pair),
        stamp.gives,
        (
          tx_ring c.in_ok-framed.framed,
          frame.takes ∙ ap Some (sym c.in_ok-stamped.ensures.pair),
          frame.gives,
          (
            tx_ring c.in_ok-combined.combined,
            combine.takes ∙ ap Some (sym c.in_ok-framed.ensures.pair),
            combine.gives,
            c.in_ok-combined.ensures.pair,
          ),
        ),
      );
    })
