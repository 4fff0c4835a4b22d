use Rattle.std.proofs.Common.{◌≡◌, map, length, take}
use Rattle.jet_flow.specs.Flow.{leg_value}
use Rattle.jet_stages.specs.Flat as flat
use Rattle.jet_deploy.proofs.processor.flat.Given as goal

abbrev pub invariant-loop-spec : goal.invariant-loop-spec
invariant-loop-spec l = record {
  legs : map flat.leg_value l.legs.items ≡ map leg_value (take l.spec-index l.specs);
  count : length l.legs.items ≡ l.spec-index;
}
