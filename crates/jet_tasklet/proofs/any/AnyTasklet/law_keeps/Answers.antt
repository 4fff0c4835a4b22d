use Rattle.std.proofs.Common.{sym, subst}
use Rattle.jet_tasklet.proofs.AnyEnds.{KeepsTheBag, KeepsTheMarks}
use Rattle.jet_tasklet.proofs.any.AnyTasklet.law_keeps.Goals as goal

pub returns-in-Stamp-clause-bag : goal.returns-in-Stamp-clause-bag
returns-in-Stamp-clause-bag c = subst KeepsTheBag (sym c.in-Stamp.is) (λ runs. c.law_keeps.ensures.bag)

pub returns-in-Stamp-clause-marks : goal.returns-in-Stamp-clause-marks
returns-in-Stamp-clause-marks c = subst KeepsTheMarks (sym c.in-Stamp.is) (λ runs. c.law_keeps.ensures.marks)

pub returns-in-Map-clause-bag : goal.returns-in-Map-clause-bag
returns-in-Map-clause-bag c = subst KeepsTheBag (sym c.in-Map.is) (λ runs. c.law_keeps-in-Map.ensures.bag)

pub returns-in-Map-clause-marks : goal.returns-in-Map-clause-marks
returns-in-Map-clause-marks c = subst KeepsTheMarks (sym c.in-Map.is) (λ runs. c.law_keeps-in-Map.ensures.marks)

pub returns-in-Filter-clause-bag : goal.returns-in-Filter-clause-bag
returns-in-Filter-clause-bag c = subst KeepsTheBag (sym c.in-Filter.is) (λ runs. c.law_keeps-in-Filter.ensures.bag)

pub returns-in-Filter-clause-marks : goal.returns-in-Filter-clause-marks
returns-in-Filter-clause-marks c = subst KeepsTheMarks (sym c.in-Filter.is) (λ runs. c.law_keeps-in-Filter.ensures.marks)

pub returns-in-Flat-clause-bag : goal.returns-in-Flat-clause-bag
returns-in-Flat-clause-bag c = subst KeepsTheBag (sym c.in-Flat.is) (λ runs. c.law_keeps-in-Flat.ensures.bag)

pub returns-in-Flat-clause-marks : goal.returns-in-Flat-clause-marks
returns-in-Flat-clause-marks c = subst KeepsTheMarks (sym c.in-Flat.is) (λ runs. c.law_keeps-in-Flat.ensures.marks)

pub returns-in-Join-clause-bag : goal.returns-in-Join-clause-bag
returns-in-Join-clause-bag c = subst KeepsTheBag (sym c.in-Join.is) (λ runs. c.law_keeps-in-Join.ensures.bag)

pub returns-in-Join-clause-marks : goal.returns-in-Join-clause-marks
returns-in-Join-clause-marks c = subst KeepsTheMarks (sym c.in-Join.is) (λ runs. c.law_keeps-in-Join.ensures.marks)

pub returns-in-Frame-clause-bag : goal.returns-in-Frame-clause-bag
returns-in-Frame-clause-bag c = subst KeepsTheBag (sym c.in-Frame.is) (λ runs. c.law_keeps-in-Frame.ensures.bag)

pub returns-in-Frame-clause-marks : goal.returns-in-Frame-clause-marks
returns-in-Frame-clause-marks c = subst KeepsTheMarks (sym c.in-Frame.is) (λ runs. c.law_keeps-in-Frame.ensures.marks)

pub returns-in-Combine-clause-bag : goal.returns-in-Combine-clause-bag
returns-in-Combine-clause-bag c = subst KeepsTheBag (sym c.in-Combine.is) (λ runs. c.law_keeps-in-Combine.ensures.bag)

pub returns-in-Combine-clause-marks : goal.returns-in-Combine-clause-marks
returns-in-Combine-clause-marks c = subst KeepsTheMarks (sym c.in-Combine.is) (λ runs. c.law_keeps-in-Combine.ensures.marks)
