use Rattle.std.specs.List.{flat_map, range_with_len}
use Rattle.jet_layout.specs.Links.{links_from}
use Rattle.jet_layout.specs.inner.Drafts.{HasLinks}
use Rattle.jet_layout.proofs.draft.Draft.add_links.Given as goal

abbrev pub invariant-loop-from : goal.invariant-loop-from
invariant-loop-from l = HasLinks l.joint l.fn.self l.self (flat_map (links_from l.joint l.members) (range_with_len 0 l.from))
