use Rattle.std.proofs.Common.{◌≡◌, List, sym, subst}
use Rattle.jet_items.specs.declared.item.Item.{Item}
use Rattle.jet_tasklet.specs.declared.arrival.Arrival.{Arrival}
use Rattle.jet_tasklet.specs.declared.any.AnyTasklet.{AnyTasklet}
use Rattle.jet_tasklet.specs.declared.step.Step.TheVariants as step
use Rattle.jet_tasklet.specs.Any.{AnyHasEnded, AnyKeeps}
use Rattle.jet_tasklet.specs.DoneLast.{DoneLast}
use Rattle.jet_tasklet.specs.Kinds.{RunsProcessor}
use Rattle.jet_tasklet.specs.Sending.{EachSent}
use Rattle.jet_tasklet.specs.Views.{ins, outs, step_of}
use Rattle.jet_tasklet.proofs.any.AnyTasklet.law_done_last.Goals as goal

abbrev Law : AnyTasklet → Type 0
Law t = RunsProcessor t → (came : List Arrival) (gave : List Item) → AnyKeeps t came gave → EachSent (DoneLast (step_of t ≡ step.Ended) (AnyHasEnded t) (ins t)) (outs t)

pub returns-in-Stamp : goal.returns-in-Stamp
returns-in-Stamp c = subst Law (sym c.in-Stamp.is) (λ runs. c.law_done_last.ensures)

pub returns-in-Map : goal.returns-in-Map
returns-in-Map c = subst Law (sym c.in-Map.is) (λ runs. c.law_done_last-in-Map.ensures)

pub returns-in-Filter : goal.returns-in-Filter
returns-in-Filter c = subst Law (sym c.in-Filter.is) (λ runs. c.law_done_last-in-Filter.ensures)

pub returns-in-Flat : goal.returns-in-Flat
returns-in-Flat c = subst Law (sym c.in-Flat.is) (λ runs. c.law_done_last-in-Flat.ensures)

pub returns-in-Join : goal.returns-in-Join
returns-in-Join c = subst Law (sym c.in-Join.is) (λ runs. c.law_done_last-in-Join.ensures)

pub returns-in-Frame : goal.returns-in-Frame
returns-in-Frame c = subst Law (sym c.in-Frame.is) (λ runs. c.law_done_last-in-Frame.ensures)

pub returns-in-Combine : goal.returns-in-Combine
returns-in-Combine c = subst Law (sym c.in-Combine.is) (λ runs. c.law_done_last-in-Combine.ensures)
