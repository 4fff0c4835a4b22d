use Rattle.std.proofs.Common.{◌≡◌, ℕ, length, take}
use Rattle.std.specs.Prelude.{Some, count_by, slice_get}
use Rattle.jet_engine.specs.declared.places.LinkAt.{LinkAt}
use Rattle.jet_deploy.specs.Sites.{sends, IsLinkAt}
use Rattle.jet_deploy.proofs.sites.link_places.Given as goal

abbrev pub invariant-loop-number : goal.invariant-loop-number
invariant-loop-number l = record {
  each : (k : ℕ) (a : LinkAt) → slice_get l.links.items k ≡ Some a → IsLinkAt l.tasks k a;
  count : length l.links.items ≡ count_by sends (take l.number l.tasks);
}
