use Rattle.jet_deploy.proofs.processor.frame.Goals as goal

pub policy_of-requires-clause-range : goal.policy_of-requires-clause-range
policy_of-requires-clause-range c = c.valid_vertices_keep_their_ranges.ensures c.args.vertex.now (rw c.dag.ensures.dag c.requires.there)
