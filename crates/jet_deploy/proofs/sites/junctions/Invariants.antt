use Rattle.std.proofs.Common.{◌≡◌, length}
use Rattle.jet_deploy.specs.Sites.{IsJunction, EachOf, place_between}
use Rattle.jet_deploy.proofs.sites.junctions.Given as goal

abbrev pub invariant-loop-number : goal.invariant-loop-number
invariant-loop-number l = record {
  each : EachOf (IsJunction l.channels) l.junctions.items;
  count : length l.junctions.items ≡ place_between l.channels l.number;
}
