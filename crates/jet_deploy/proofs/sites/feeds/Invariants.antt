use Rattle.std.proofs.Common.{◌≡◌, length}
use Rattle.jet_harness.specs.declared.channel.Giver.TheVariants.{File}
use Rattle.jet_harness.specs.Places.{place_at_giver}
use Rattle.jet_deploy.specs.Sites.{IsFeed, EachOf}
use Rattle.jet_deploy.proofs.sites.feeds.Given as goal

abbrev pub invariant-loop-number : goal.invariant-loop-number
invariant-loop-number l = record {
  each : EachOf (IsFeed l.channels) l.feeds.items;
  count : length l.feeds.items ≡ place_at_giver l.channels l.number File;
}
