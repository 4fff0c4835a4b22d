use Rattle.std.proofs.Common.{sym, subst}
use Rattle.jet_tasklet.proofs.AnyEnds.{EndsSo}
use Rattle.jet_tasklet.proofs.any.AnyTasklet.law_ends.Goals as goal

pub returns-in-Stamp : goal.returns-in-Stamp
returns-in-Stamp c = subst EndsSo (sym c.in-Stamp.is) (λ runs. c.law_ends.ensures)

pub returns-in-Map : goal.returns-in-Map
returns-in-Map c = subst EndsSo (sym c.in-Map.is) (λ runs. c.law_ends-in-Map.ensures)

pub returns-in-Filter : goal.returns-in-Filter
returns-in-Filter c = subst EndsSo (sym c.in-Filter.is) (λ runs. c.law_ends-in-Filter.ensures)

pub returns-in-Flat : goal.returns-in-Flat
returns-in-Flat c = subst EndsSo (sym c.in-Flat.is) (λ runs. c.law_ends-in-Flat.ensures)

pub returns-in-Join : goal.returns-in-Join
returns-in-Join c = subst EndsSo (sym c.in-Join.is) (λ runs. c.law_ends-in-Join.ensures)

pub returns-in-Frame : goal.returns-in-Frame
returns-in-Frame c = subst EndsSo (sym c.in-Frame.is) (λ runs. c.law_ends-in-Frame.ensures)

pub returns-in-Combine : goal.returns-in-Combine
returns-in-Combine c = subst EndsSo (sym c.in-Combine.is) (λ runs. c.law_ends-in-Combine.ensures)
