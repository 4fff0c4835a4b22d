use Rattle.std.proofs.Common.{List, ◌++◌, sym, subst}
use Rattle.jet_items.specs.declared.item.Item.{Item}
use Rattle.jet_items.specs.Kinds.{marks_of}
use Rattle.jet_items.specs.Order.{Each}
use Rattle.jet_tasklet.specs.declared.arrival.Arrival.{Arrival}
use Rattle.jet_tasklet.specs.declared.any.AnyTasklet.{AnyTasklet}
use Rattle.jet_tasklet.specs.Any.{AnyKeeps}
use Rattle.jet_tasklet.specs.Kinds.{RunsProcessor}
use Rattle.jet_tasklet.specs.MarksGiven.{AnyMayGive}
use Rattle.jet_tasklet.specs.Sending.{EachSent}
use Rattle.jet_tasklet.specs.Views.{outs, waiting}
use Rattle.jet_tasklet.proofs.any.AnyTasklet.law_marks_received.Goals as goal

abbrev Entered : AnyTasklet → Type 0
Entered t = RunsProcessor t → (came : List Arrival) (gave : List Item) → AnyKeeps t came gave → Each (AnyMayGive t) (marks_of (gave ++ waiting t))

abbrev Sent : AnyTasklet → Type 0
Sent t = RunsProcessor t → (came : List Arrival) (gave : List Item) → AnyKeeps t came gave → EachSent (λ xs. Each (AnyMayGive t) (marks_of xs)) (outs t)

pub returns-in-Stamp : goal.returns-in-Stamp
returns-in-Stamp c = record {
  entered = subst Entered (sym c.in-Stamp.is) (λ runs. c.stamps_mark_fronts.ensures.entered);
  sent = subst Sent (sym c.in-Stamp.is) (λ runs. c.stamps_mark_fronts.ensures.sent);
}

pub returns-in-Map : goal.returns-in-Map
returns-in-Map c = record {
  entered = subst Entered (sym c.in-Map.is) (λ runs came gave k. c.law_marks_received.ensures.entered came gave k (λ taken given m. m) (λ entry taken given m. m));
  sent = subst Sent (sym c.in-Map.is) (λ runs came gave k. c.law_marks_received.ensures.sent came gave k (λ taken given m. m) (λ entry taken given m. m));
}

pub returns-in-Filter : goal.returns-in-Filter
returns-in-Filter c = record {
  entered = subst Entered (sym c.in-Filter.is) (λ runs came gave k. c.law_marks_received-in-Filter.ensures.entered came gave k (λ taken given m. m) (λ entry taken given m. m));
  sent = subst Sent (sym c.in-Filter.is) (λ runs came gave k. c.law_marks_received-in-Filter.ensures.sent came gave k (λ taken given m. m) (λ entry taken given m. m));
}

pub returns-in-Flat : goal.returns-in-Flat
returns-in-Flat c = record {
  entered = subst Entered (sym c.in-Flat.is) (λ runs came gave k. c.law_marks_received-in-Flat.ensures.entered came gave k (λ taken given m. m) (λ entry taken given m. m));
  sent = subst Sent (sym c.in-Flat.is) (λ runs came gave k. c.law_marks_received-in-Flat.ensures.sent came gave k (λ taken given m. m) (λ entry taken given m. m));
}

pub returns-in-Join : goal.returns-in-Join
returns-in-Join c = record {
  entered = subst Entered (sym c.in-Join.is) (λ runs came gave k. c.law_marks_received-in-Join.ensures.entered came gave k (λ taken given m. m) (λ entry taken given m. m));
  sent = subst Sent (sym c.in-Join.is) (λ runs came gave k. c.law_marks_received-in-Join.ensures.sent came gave k (λ taken given m. m) (λ entry taken given m. m));
}

pub returns-in-Frame : goal.returns-in-Frame
returns-in-Frame c = record {
  entered = subst Entered (sym c.in-Frame.is) (λ runs came gave k. c.law_marks_received-in-Frame.ensures.entered came gave k (λ taken given m. m) (λ entry taken given m. m));
  sent = subst Sent (sym c.in-Frame.is) (λ runs came gave k. c.law_marks_received-in-Frame.ensures.sent came gave k (λ taken given m. m) (λ entry taken given m. m));
}

pub returns-in-Combine : goal.returns-in-Combine
returns-in-Combine c = record {
  entered = subst Entered (sym c.in-Combine.is) (λ runs came gave k. c.law_marks_received-in-Combine.ensures.entered came gave k (λ taken given m. m) (λ entry taken given m. m));
  sent = subst Sent (sym c.in-Combine.is) (λ runs came gave k. c.law_marks_received-in-Combine.ensures.sent came gave k (λ taken given m. m) (λ entry taken given m. m));
}
