use Rattle.std.proofs.Common.{sym, subst}
use Rattle.jet_tasklet.proofs.AnyEnds.{GivesMarksSoFar, GivesSoFar}
use Rattle.jet_tasklet.proofs.Linking.{send_so_far, receive_so_far}
use Rattle.jet_tasklet.proofs.any.AnyTasklet.law_gives_so_far.Goals as goal

pub returns-in-Stamp-clause-bag : goal.returns-in-Stamp-clause-bag
returns-in-Stamp-clause-bag c = subst GivesSoFar (sym c.in-Stamp.is) c.law_gives_so_far.ensures.bag

pub returns-in-Stamp-clause-marks : goal.returns-in-Stamp-clause-marks
returns-in-Stamp-clause-marks c = subst GivesMarksSoFar (sym c.in-Stamp.is) c.law_gives_so_far.ensures.marks

pub returns-in-Map-clause-bag : goal.returns-in-Map-clause-bag
returns-in-Map-clause-bag c = subst GivesSoFar (sym c.in-Map.is) c.law_gives_so_far-in-Map.ensures.bag

pub returns-in-Map-clause-marks : goal.returns-in-Map-clause-marks
returns-in-Map-clause-marks c = subst GivesMarksSoFar (sym c.in-Map.is) c.law_gives_so_far-in-Map.ensures.marks

pub returns-in-Filter-clause-bag : goal.returns-in-Filter-clause-bag
returns-in-Filter-clause-bag c = subst GivesSoFar (sym c.in-Filter.is) c.law_gives_so_far-in-Filter.ensures.bag

pub returns-in-Filter-clause-marks : goal.returns-in-Filter-clause-marks
returns-in-Filter-clause-marks c = subst GivesMarksSoFar (sym c.in-Filter.is) c.law_gives_so_far-in-Filter.ensures.marks

pub returns-in-Flat-clause-bag : goal.returns-in-Flat-clause-bag
returns-in-Flat-clause-bag c = subst GivesSoFar (sym c.in-Flat.is) c.law_gives_so_far-in-Flat.ensures.bag

pub returns-in-Flat-clause-marks : goal.returns-in-Flat-clause-marks
returns-in-Flat-clause-marks c = subst GivesMarksSoFar (sym c.in-Flat.is) c.law_gives_so_far-in-Flat.ensures.marks

pub returns-in-Join-clause-bag : goal.returns-in-Join-clause-bag
returns-in-Join-clause-bag c = subst GivesSoFar (sym c.in-Join.is) c.law_gives_so_far-in-Join.ensures.bag

pub returns-in-Join-clause-marks : goal.returns-in-Join-clause-marks
returns-in-Join-clause-marks c = subst GivesMarksSoFar (sym c.in-Join.is) c.law_gives_so_far-in-Join.ensures.marks

pub returns-in-Frame-clause-bag : goal.returns-in-Frame-clause-bag
returns-in-Frame-clause-bag c = subst GivesSoFar (sym c.in-Frame.is) c.law_gives_so_far-in-Frame.ensures.bag

pub returns-in-Frame-clause-marks : goal.returns-in-Frame-clause-marks
returns-in-Frame-clause-marks c = subst GivesMarksSoFar (sym c.in-Frame.is) c.law_gives_so_far-in-Frame.ensures.marks

pub returns-in-Combine-clause-bag : goal.returns-in-Combine-clause-bag
returns-in-Combine-clause-bag c = subst GivesSoFar (sym c.in-Combine.is) c.law_gives_so_far-in-Combine.ensures.bag

pub returns-in-Combine-clause-marks : goal.returns-in-Combine-clause-marks
returns-in-Combine-clause-marks c = subst GivesMarksSoFar (sym c.in-Combine.is) c.law_gives_so_far-in-Combine.ensures.marks

pub returns-in-Send-clause-bag : goal.returns-in-Send-clause-bag
returns-in-Send-clause-bag c = subst GivesSoFar (sym c.in-Send.is) (λ came gave k. send_so_far _ came gave k)

pub returns-in-Send-clause-marks : goal.returns-in-Send-clause-marks
returns-in-Send-clause-marks c = subst GivesMarksSoFar (sym c.in-Send.is) (λ came gave k. send_so_far _ came gave k)

pub returns-in-Receive-clause-bag : goal.returns-in-Receive-clause-bag
returns-in-Receive-clause-bag c = subst GivesSoFar (sym c.in-Receive.is) (λ came gave k. receive_so_far _ came gave k)

pub returns-in-Receive-clause-marks : goal.returns-in-Receive-clause-marks
returns-in-Receive-clause-marks c = subst GivesMarksSoFar (sym c.in-Receive.is) (λ came gave k. receive_so_far _ came gave k)
