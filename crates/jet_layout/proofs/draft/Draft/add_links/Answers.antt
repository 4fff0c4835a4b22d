use Rattle.jet_layout.specs.Links.{links_from}
use Rattle.jet_layout.proofs.Drafts.{has_more, has_none}
use Rattle.jet_layout.proofs.Ranges.{flat_map_more}
use Rattle.jet_layout.proofs.draft.Draft.add_links.Goals as goal

pub loop-from-init : goal.loop-from-init
loop-from-init c = has_none c.args.joint.now c.args.self.now

pub loop-from-preserved : goal.loop-from-preserved
loop-from-preserved c = has_more c.args.joint.now c.args.self.now c.loop-from.self c.add_from.new.self _ _ _ c.loop-from.invariant c.in_ok-add_from.ensures (flat_map_more (links_from c.args.joint.now c.args.members) c.loop-from.from)
