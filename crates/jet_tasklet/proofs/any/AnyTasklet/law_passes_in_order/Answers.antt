use Rattle.std.proofs.Common.{sym, subst}
use Rattle.jet_tasklet.specs.Inputs.{inputs_view}
use Rattle.jet_tasklet.proofs.AnyEnds.{PassesClosed, PassesSound, TellsClosed, TellsSound}
use Rattle.jet_tasklet.proofs.Begun.{frame_told}
use Rattle.jet_tasklet.proofs.any.AnyTasklet.law_passes_in_order.Goals as goal

pub returns-in-Stamp-clause-sound : goal.returns-in-Stamp-clause-sound
returns-in-Stamp-clause-sound c = subst PassesSound (sym c.in-Stamp.is) (λ runs. c.stamps_send_in_order.ensures.sound)

pub returns-in-Stamp-clause-closed : goal.returns-in-Stamp-clause-closed
returns-in-Stamp-clause-closed c = subst PassesClosed (sym c.in-Stamp.is) (λ runs. c.stamps_send_in_order.ensures.closed)

pub returns-in-Map-clause-sound : goal.returns-in-Map-clause-sound
returns-in-Map-clause-sound c = λ runs behind came gave k fed. c.law_sends_in_order.ensures.sound behind came gave k (subst TellsSound (sym c.in-Map.is) c.law_told_in_order.ensures.sound behind came gave k fed)

pub returns-in-Map-clause-closed : goal.returns-in-Map-clause-closed
returns-in-Map-clause-closed c = λ runs came gave k fed. c.law_sends_in_order.ensures.closed came gave k (subst TellsClosed (sym c.in-Map.is) c.law_told_in_order.ensures.closed came gave k fed)

pub returns-in-Filter-clause-sound : goal.returns-in-Filter-clause-sound
returns-in-Filter-clause-sound c = λ runs behind came gave k fed. c.law_sends_in_order.ensures.sound behind came gave k (subst TellsSound (sym c.in-Filter.is) c.law_told_in_order-in-Filter.ensures.sound behind came gave k fed)

pub returns-in-Filter-clause-closed : goal.returns-in-Filter-clause-closed
returns-in-Filter-clause-closed c = λ runs came gave k fed. c.law_sends_in_order.ensures.closed came gave k (subst TellsClosed (sym c.in-Filter.is) c.law_told_in_order-in-Filter.ensures.closed came gave k fed)

pub returns-in-Flat-clause-sound : goal.returns-in-Flat-clause-sound
returns-in-Flat-clause-sound c = λ runs behind came gave k fed. c.law_sends_in_order.ensures.sound behind came gave k (subst TellsSound (sym c.in-Flat.is) c.law_told_in_order-in-Flat.ensures.sound behind came gave k fed)

pub returns-in-Flat-clause-closed : goal.returns-in-Flat-clause-closed
returns-in-Flat-clause-closed c = λ runs came gave k fed. c.law_sends_in_order.ensures.closed came gave k (subst TellsClosed (sym c.in-Flat.is) c.law_told_in_order-in-Flat.ensures.closed came gave k fed)

pub returns-in-Join-clause-sound : goal.returns-in-Join-clause-sound
returns-in-Join-clause-sound c = λ runs behind came gave k fed. c.law_sends_in_order.ensures.sound behind came gave k (subst TellsSound (sym c.in-Join.is) c.law_told_in_order-in-Join.ensures.sound behind came gave k fed)

pub returns-in-Join-clause-closed : goal.returns-in-Join-clause-closed
returns-in-Join-clause-closed c = λ runs came gave k fed. c.law_sends_in_order.ensures.closed came gave k (subst TellsClosed (sym c.in-Join.is) c.law_told_in_order-in-Join.ensures.closed came gave k fed)

pub returns-in-Frame-clause-sound : goal.returns-in-Frame-clause-sound
returns-in-Frame-clause-sound c =
    let t = c.in-Frame.tasklet in
    λ runs behind came gave k fed. c.law_sends_in_order.ensures.sound behind came gave k
    (subst TellsSound (sym c.in-Frame.is) (λ behind came gave k fed. frame_told behind t.processor.times.begun (inputs_view t.inputs.items) t.coalescer t.step came k.takes_in
    (c.law_told_in_order-in-Frame.ensures.sound behind came gave k) fed) behind came gave k fed)

pub returns-in-Frame-clause-closed : goal.returns-in-Frame-clause-closed
returns-in-Frame-clause-closed c = λ runs came gave k fed. c.law_sends_in_order.ensures.closed came gave k (subst TellsClosed (sym c.in-Frame.is) c.law_told_in_order-in-Frame.ensures.closed came gave k fed)

pub returns-in-Combine-clause-sound : goal.returns-in-Combine-clause-sound
returns-in-Combine-clause-sound c = λ runs behind came gave k fed. c.law_sends_in_order.ensures.sound behind came gave k (subst TellsSound (sym c.in-Combine.is) c.law_told_in_order-in-Combine.ensures.sound behind came gave k fed)

pub returns-in-Combine-clause-closed : goal.returns-in-Combine-clause-closed
returns-in-Combine-clause-closed c = λ runs came gave k fed. c.law_sends_in_order.ensures.closed came gave k (subst TellsClosed (sym c.in-Combine.is) c.law_told_in_order-in-Combine.ensures.closed came gave k fed)
