use Rattle.std.proofs.Common.{arith, get_or, subst}
use Rattle.std.proofs.lemmas.List.{drop_more, drop_all}
use Rattle.jet_layout.proofs.Drafts.{AfterEdges, after_one, all_done}
use Rattle.jet_layout.proofs.draft.Draft.add_edges.Goals as goal

pub loop-joint-preserved : goal.loop-joint-preserved
loop-joint-preserved c =
    let j = get_or c.args.joints.now c.loop-joint.joint-index _ in
    after_one c.args.members c.args.self.now c.loop-joint.self c.add_edge.new.self j _ c.args.joints.now
    (subst (λ l. AfterEdges c.args.members c.args.self.now c.loop-joint.self l c.args.joints.now) (drop_more c.args.joints.now c.loop-joint.joint-index _ (omega (arith, c.loop-joint-test.true))) c.loop-joint.invariant)
    c.in_ok-add_edge.ensures

pub returns : goal.returns
returns c = all_done c.args.members c.args.self.now c.loop-joint.self c.args.joints.now
    (subst (λ l. AfterEdges c.args.members c.args.self.now c.loop-joint.self l c.args.joints.now) (drop_all c.loop-joint.joint-index c.args.joints.now (omega (arith, c.loop-joint-test.false))) c.loop-joint.invariant)
