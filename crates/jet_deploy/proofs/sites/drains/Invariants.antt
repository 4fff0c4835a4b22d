use Rattle.std.proofs.Common.{◌≡◌, length}
use Rattle.jet_harness.specs.Places.{place_at_taker}
use Rattle.jet_layout.specs.declared.wire.Taker.TheVariants.{Sink}
use Rattle.jet_deploy.specs.Sites.{IsDrain, EachOf}
use Rattle.jet_deploy.proofs.sites.drains.Given as goal

abbrev pub invariant-loop-number : goal.invariant-loop-number
invariant-loop-number l = record {
  each : EachOf (IsDrain l.channels) l.drains.items;
  count : length l.drains.items ≡ place_at_taker l.channels l.number Sink;
}
