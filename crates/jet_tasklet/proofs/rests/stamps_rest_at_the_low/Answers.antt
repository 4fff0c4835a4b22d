use Rattle.jet_tasklet.proofs.StampRests.{stamp_low, stamp_passes}
use Rattle.jet_tasklet.proofs.rests.stamps_rest_at_the_low.Goals as goal

pub returns-clause-last : goal.returns-clause-last
returns-clause-last c = λ low came gave k r is. stamp_low c.args.stamp.now came gave (c.law_keeps.ensures.marks came gave k) r low is

pub returns-clause-passes : goal.returns-clause-passes
returns-clause-passes c = λ s came gave k r count o all. stamp_passes c.args.stamp.now came gave (c.law_keeps.ensures.marks came gave k) r count o s all
