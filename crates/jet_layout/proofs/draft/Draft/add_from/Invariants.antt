use Rattle.std.specs.List.{flat_map, range_with_len}
use Rattle.jet_layout.specs.Links.{link_between}
use Rattle.jet_layout.specs.inner.Drafts.{HasLinks}
use Rattle.jet_layout.proofs.draft.Draft.add_from.Given as goal

abbrev pub invariant-loop-to : goal.invariant-loop-to
invariant-loop-to l = HasLinks l.joint l.fn.self l.self (flat_map (link_between l.joint l.from) (range_with_len 0 l.to))
