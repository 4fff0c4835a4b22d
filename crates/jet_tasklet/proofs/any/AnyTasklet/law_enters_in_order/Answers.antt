use Rattle.std.proofs.Common.{ℕ, Bool, List, ◌++◌, length, sym, subst}
use Rattle.jet_items.specs.declared.item.Item.{Item}
use Rattle.jet_items.specs.Order.{Closed, Sound}
use Rattle.jet_stages.specs.Stamp.{IsNoResult}
use Rattle.jet_tasklet.specs.declared.arrival.Arrival.{Arrival}
use Rattle.jet_tasklet.specs.declared.any.AnyTasklet.{AnyTasklet}
use Rattle.jet_tasklet.specs.Any.{AnyKeeps}
use Rattle.jet_tasklet.specs.AnyOver.{IsFedClosed, IsFedSound}
use Rattle.jet_tasklet.specs.Inputs.{inputs_view}
use Rattle.jet_tasklet.specs.Kinds.{RunsProcessor}
use Rattle.jet_tasklet.specs.Views.{waiting}
use Rattle.jet_tasklet.proofs.Begun.{frame_told}
use Rattle.jet_tasklet.proofs.Stamping.{from_files, told_each}
use Rattle.jet_tasklet.proofs.any.AnyTasklet.law_enters_in_order.Goals as goal

abbrev EntersSound : AnyTasklet → Type 0
EntersSound t = RunsProcessor t → (behind : ℕ → ℕ → Bool) (came : List Arrival) (gave : List Item) → AnyKeeps t came gave → IsFedSound behind t → Sound behind (gave ++ waiting t)

abbrev EntersClosed : AnyTasklet → Type 0
EntersClosed t = RunsProcessor t → (came : List Arrival) (gave : List Item) → AnyKeeps t came gave → IsFedClosed t → Closed (gave ++ waiting t)

pub returns-in-Stamp : goal.returns-in-Stamp
returns-in-Stamp c =
    let t = c.in-Stamp.tasklet in
    record {
      sound = subst EntersSound (sym c.in-Stamp.is) (λ runs behind came gave k files. c.law_enters_in_order.ensures.sound behind came gave k (from_files (length t.processor.markers.items) t.processor.lag t.processor.grain behind (inputs_view t.inputs.items) t.coalescer t.step came k.takes_in files));
      closed = subst EntersClosed (sym c.in-Stamp.is) (λ runs came gave k none. c.law_enters_in_order.ensures.closed came gave k (told_each IsNoResult (λ m. tt) (inputs_view t.inputs.items) t.coalescer t.step came k.takes_in none));
    }

pub returns-in-Map : goal.returns-in-Map
returns-in-Map c = record {
  sound = subst EntersSound (sym c.in-Map.is) (λ runs behind came gave k all. c.law_enters_in_order-in-Map.ensures.sound behind came gave k (c.law_told_in_order.ensures.sound behind came gave k all));
  closed = subst EntersClosed (sym c.in-Map.is) (λ runs came gave k all. c.law_enters_in_order-in-Map.ensures.closed came gave k (c.law_told_in_order.ensures.closed came gave k all));
}

pub returns-in-Filter : goal.returns-in-Filter
returns-in-Filter c = record {
  sound = subst EntersSound (sym c.in-Filter.is) (λ runs behind came gave k all. c.law_enters_in_order-in-Filter.ensures.sound behind came gave k (c.law_told_in_order-in-Filter.ensures.sound behind came gave k all));
  closed = subst EntersClosed (sym c.in-Filter.is) (λ runs came gave k all. c.law_enters_in_order-in-Filter.ensures.closed came gave k (c.law_told_in_order-in-Filter.ensures.closed came gave k all));
}

pub returns-in-Flat : goal.returns-in-Flat
returns-in-Flat c = record {
  sound = subst EntersSound (sym c.in-Flat.is) (λ runs behind came gave k all. c.law_enters_in_order-in-Flat.ensures.sound behind came gave k (c.law_told_in_order-in-Flat.ensures.sound behind came gave k all));
  closed = subst EntersClosed (sym c.in-Flat.is) (λ runs came gave k all. c.law_enters_in_order-in-Flat.ensures.closed came gave k (c.law_told_in_order-in-Flat.ensures.closed came gave k all));
}

pub returns-in-Join : goal.returns-in-Join
returns-in-Join c = record {
  sound = subst EntersSound (sym c.in-Join.is) (λ runs behind came gave k all. c.law_enters_in_order-in-Join.ensures.sound behind came gave k (c.law_told_in_order-in-Join.ensures.sound behind came gave k all));
  closed = subst EntersClosed (sym c.in-Join.is) (λ runs came gave k all. c.law_enters_in_order-in-Join.ensures.closed came gave k (c.law_told_in_order-in-Join.ensures.closed came gave k all));
}

pub returns-in-Frame : goal.returns-in-Frame
returns-in-Frame c =
    let t = c.in-Frame.tasklet in
    record {
      sound = subst EntersSound (sym c.in-Frame.is) (λ runs behind came gave k all. c.law_enters_in_order-in-Frame.ensures.sound behind came gave k
          (frame_told behind t.processor.times.begun (inputs_view t.inputs.items) t.coalescer t.step came k.takes_in (c.law_told_in_order-in-Frame.ensures.sound behind came gave k) all));
      closed = subst EntersClosed (sym c.in-Frame.is) (λ runs came gave k all. c.law_enters_in_order-in-Frame.ensures.closed came gave k (c.law_told_in_order-in-Frame.ensures.closed came gave k all));
    }

pub returns-in-Combine : goal.returns-in-Combine
returns-in-Combine c = record {
  sound = subst EntersSound (sym c.in-Combine.is) (λ runs behind came gave k all. c.law_enters_in_order-in-Combine.ensures.sound behind came gave k (c.law_told_in_order-in-Combine.ensures.sound behind came gave k all));
  closed = subst EntersClosed (sym c.in-Combine.is) (λ runs came gave k all. c.law_enters_in_order-in-Combine.ensures.closed came gave k (c.law_told_in_order-in-Combine.ensures.closed came gave k all));
}
