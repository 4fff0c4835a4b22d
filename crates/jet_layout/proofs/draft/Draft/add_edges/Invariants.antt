use Rattle.std.proofs.Common.{drop}
use Rattle.jet_layout.proofs.Drafts.{AfterEdges}
use Rattle.jet_layout.proofs.draft.Draft.add_edges.Given as goal

abbrev pub invariant-loop-joint : goal.invariant-loop-joint
invariant-loop-joint l = AfterEdges l.members l.fn.self l.self (drop l.joint-index l.joints) l.joints
