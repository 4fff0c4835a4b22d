use Rattle.jet_tasklet.specs.Inputs.{inputs_view}
use Rattle.jet_tasklet.specs.Kinds.{stamps}
use Rattle.jet_tasklet.specs.MarksGiven.{IsOfFront}
use Rattle.std.proofs.Common.{◌++◌}
use Rattle.jet_tasklet.proofs.MarksGiven.{marks_each, sent_each}
use Rattle.jet_tasklet.proofs.StampFronts.{GivenMarks, GivenMarksAmid, fronts_entered}
use Rattle.jet_tasklet.proofs.rests.stamps_mark_fronts.Goals as goal

pub returns-clause-entered : goal.returns-clause-entered
returns-clause-entered c = λ came gave k.
    let t = c.args.stamp.now in
    marks_each (IsOfFront t.processor.lag t.processor.grain (inputs_view t.inputs.items)) (gave ++ t.outbox.items) (fronts_entered t came gave (c.law_keeps.ensures.marks came gave k))

pub returns-clause-sent : goal.returns-clause-sent
returns-clause-sent c = λ came gave k.
    let t = c.args.stamp.now in
    sent_each GivenMarks GivenMarksAmid stamps.takes t came gave (c.law_keeps.ensures.marks came gave k) (IsOfFront t.processor.lag t.processor.grain (inputs_view t.inputs.items)) (fronts_entered t came gave (c.law_keeps.ensures.marks came gave k))
