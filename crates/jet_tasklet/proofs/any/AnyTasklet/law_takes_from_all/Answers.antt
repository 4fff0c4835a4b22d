use Rattle.std.proofs.Common.{sym, subst}
use Rattle.jet_tasklet.proofs.AnyEnds.{TakesAll, TakesMarks}
use Rattle.jet_tasklet.proofs.any.AnyTasklet.law_takes_from_all.Goals as goal

pub returns-in-Stamp-clause-bag : goal.returns-in-Stamp-clause-bag
returns-in-Stamp-clause-bag c = subst TakesAll (sym c.in-Stamp.is) (λ runs. c.law_takes_from_all.ensures.bag)

pub returns-in-Stamp-clause-mark : goal.returns-in-Stamp-clause-mark
returns-in-Stamp-clause-mark c = subst TakesMarks (sym c.in-Stamp.is) (λ runs. c.law_takes_from_all.ensures.mark)

pub returns-in-Map-clause-bag : goal.returns-in-Map-clause-bag
returns-in-Map-clause-bag c = subst TakesAll (sym c.in-Map.is) (λ runs. c.law_takes_from_all-in-Map.ensures.bag)

pub returns-in-Map-clause-mark : goal.returns-in-Map-clause-mark
returns-in-Map-clause-mark c = subst TakesMarks (sym c.in-Map.is) (λ runs. c.law_takes_from_all-in-Map.ensures.mark)

pub returns-in-Filter-clause-bag : goal.returns-in-Filter-clause-bag
returns-in-Filter-clause-bag c = subst TakesAll (sym c.in-Filter.is) (λ runs. c.law_takes_from_all-in-Filter.ensures.bag)

pub returns-in-Filter-clause-mark : goal.returns-in-Filter-clause-mark
returns-in-Filter-clause-mark c = subst TakesMarks (sym c.in-Filter.is) (λ runs. c.law_takes_from_all-in-Filter.ensures.mark)

pub returns-in-Flat-clause-bag : goal.returns-in-Flat-clause-bag
returns-in-Flat-clause-bag c = subst TakesAll (sym c.in-Flat.is) (λ runs. c.law_takes_from_all-in-Flat.ensures.bag)

pub returns-in-Flat-clause-mark : goal.returns-in-Flat-clause-mark
returns-in-Flat-clause-mark c = subst TakesMarks (sym c.in-Flat.is) (λ runs. c.law_takes_from_all-in-Flat.ensures.mark)

pub returns-in-Join-clause-bag : goal.returns-in-Join-clause-bag
returns-in-Join-clause-bag c = subst TakesAll (sym c.in-Join.is) (λ runs. c.law_takes_from_all-in-Join.ensures.bag)

pub returns-in-Join-clause-mark : goal.returns-in-Join-clause-mark
returns-in-Join-clause-mark c = subst TakesMarks (sym c.in-Join.is) (λ runs. c.law_takes_from_all-in-Join.ensures.mark)

pub returns-in-Frame-clause-bag : goal.returns-in-Frame-clause-bag
returns-in-Frame-clause-bag c = subst TakesAll (sym c.in-Frame.is) (λ runs. c.law_takes_from_all-in-Frame.ensures.bag)

pub returns-in-Frame-clause-mark : goal.returns-in-Frame-clause-mark
returns-in-Frame-clause-mark c = subst TakesMarks (sym c.in-Frame.is) (λ runs. c.law_takes_from_all-in-Frame.ensures.mark)

pub returns-in-Combine-clause-bag : goal.returns-in-Combine-clause-bag
returns-in-Combine-clause-bag c = subst TakesAll (sym c.in-Combine.is) (λ runs. c.law_takes_from_all-in-Combine.ensures.bag)

pub returns-in-Combine-clause-mark : goal.returns-in-Combine-clause-mark
returns-in-Combine-clause-mark c = subst TakesMarks (sym c.in-Combine.is) (λ runs. c.law_takes_from_all-in-Combine.ensures.mark)
