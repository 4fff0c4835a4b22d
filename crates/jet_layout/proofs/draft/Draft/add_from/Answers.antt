use Rattle.jet_layout.specs.Links.{link_between}
use Rattle.jet_layout.proofs.Drafts.{has_more, has_none}
use Rattle.jet_layout.proofs.Ranges.{flat_map_more}
use Rattle.jet_layout.proofs.draft.Draft.add_from.Goals as goal

pub loop-to-init : goal.loop-to-init
loop-to-init c = has_none c.args.joint.now c.args.self.now

pub loop-to-preserved : goal.loop-to-preserved
loop-to-preserved c = has_more c.args.joint.now c.args.self.now c.loop-to.self c.add_between.new.self _ _ _ c.loop-to.invariant c.in_ok-add_between.ensures (flat_map_more (link_between c.args.joint.now c.args.from) c.loop-to.to)
