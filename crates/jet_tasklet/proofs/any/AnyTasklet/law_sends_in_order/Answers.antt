use Rattle.std.proofs.Common.{sym, subst}
use Rattle.jet_tasklet.proofs.AnyEnds.{SendsClosed, SendsSound}
use Rattle.jet_tasklet.proofs.any.AnyTasklet.law_sends_in_order.Goals as goal

pub returns-in-Stamp-clause-sound : goal.returns-in-Stamp-clause-sound
returns-in-Stamp-clause-sound c = subst SendsSound (sym c.in-Stamp.is) c.law_sends_in_order.ensures.sound

pub returns-in-Stamp-clause-closed : goal.returns-in-Stamp-clause-closed
returns-in-Stamp-clause-closed c = subst SendsClosed (sym c.in-Stamp.is) c.law_sends_in_order.ensures.closed

pub returns-in-Map-clause-sound : goal.returns-in-Map-clause-sound
returns-in-Map-clause-sound c = subst SendsSound (sym c.in-Map.is) c.law_sends_in_order-in-Map.ensures.sound

pub returns-in-Map-clause-closed : goal.returns-in-Map-clause-closed
returns-in-Map-clause-closed c = subst SendsClosed (sym c.in-Map.is) c.law_sends_in_order-in-Map.ensures.closed

pub returns-in-Filter-clause-sound : goal.returns-in-Filter-clause-sound
returns-in-Filter-clause-sound c = subst SendsSound (sym c.in-Filter.is) c.law_sends_in_order-in-Filter.ensures.sound

pub returns-in-Filter-clause-closed : goal.returns-in-Filter-clause-closed
returns-in-Filter-clause-closed c = subst SendsClosed (sym c.in-Filter.is) c.law_sends_in_order-in-Filter.ensures.closed

pub returns-in-Flat-clause-sound : goal.returns-in-Flat-clause-sound
returns-in-Flat-clause-sound c = subst SendsSound (sym c.in-Flat.is) c.law_sends_in_order-in-Flat.ensures.sound

pub returns-in-Flat-clause-closed : goal.returns-in-Flat-clause-closed
returns-in-Flat-clause-closed c = subst SendsClosed (sym c.in-Flat.is) c.law_sends_in_order-in-Flat.ensures.closed

pub returns-in-Join-clause-sound : goal.returns-in-Join-clause-sound
returns-in-Join-clause-sound c = subst SendsSound (sym c.in-Join.is) c.law_sends_in_order-in-Join.ensures.sound

pub returns-in-Join-clause-closed : goal.returns-in-Join-clause-closed
returns-in-Join-clause-closed c = subst SendsClosed (sym c.in-Join.is) c.law_sends_in_order-in-Join.ensures.closed

pub returns-in-Frame-clause-sound : goal.returns-in-Frame-clause-sound
returns-in-Frame-clause-sound c = subst SendsSound (sym c.in-Frame.is) c.law_sends_in_order-in-Frame.ensures.sound

pub returns-in-Frame-clause-closed : goal.returns-in-Frame-clause-closed
returns-in-Frame-clause-closed c = subst SendsClosed (sym c.in-Frame.is) c.law_sends_in_order-in-Frame.ensures.closed

pub returns-in-Combine-clause-sound : goal.returns-in-Combine-clause-sound
returns-in-Combine-clause-sound c = subst SendsSound (sym c.in-Combine.is) c.law_sends_in_order-in-Combine.ensures.sound

pub returns-in-Combine-clause-closed : goal.returns-in-Combine-clause-closed
returns-in-Combine-clause-closed c = subst SendsClosed (sym c.in-Combine.is) c.law_sends_in_order-in-Combine.ensures.closed
