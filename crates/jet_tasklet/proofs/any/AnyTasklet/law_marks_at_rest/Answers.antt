use Rattle.std.proofs.Common.{◌≡◌, ℤ, ◌≤ℤ◌, List, sym, subst}
use Rattle.std.specs.Prelude.{Option}
use Rattle.std.specs.Option.{IsSomeAnd}
use Rattle.jet_items.specs.declared.item.Item.{Item}
use Rattle.jet_tasklet.specs.declared.arrival.Arrival.{Arrival}
use Rattle.jet_tasklet.specs.declared.any.AnyTasklet.{AnyTasklet}
use Rattle.jet_tasklet.specs.declared.any.AnyTasklet.TheVariants as any
use Rattle.jet_tasklet.specs.Any.{AnyKeeps}
use Rattle.jet_tasklet.specs.Kinds.{RunsProcessor}
use Rattle.jet_tasklet.specs.MarksGiven.{AnyAllReached, AnyIsAtRest, AnyIsLow, HasOpen, last_mark}
use Rattle.jet_tasklet.specs.Sending.{EachSent}
use Rattle.jet_tasklet.specs.Views.{ins, outs}
use Rattle.jet_tasklet.proofs.any.AnyTasklet.law_marks_at_rest.Goals as goal

abbrev Last : AnyTasklet → Type 0
Last t = RunsProcessor t → (low : Option ℤ) (came : List Arrival) (gave : List Item) → AnyKeeps t came gave → AnyIsAtRest t → HasOpen (ins t) → AnyIsLow t came low → EachSent (λ xs. last_mark xs ≡ low) (outs t)

abbrev Reached : AnyTasklet → Type 0
Reached t = RunsProcessor t → (s : ℤ) (came : List Arrival) (gave : List Item) → AnyKeeps t came gave → AnyIsAtRest t → HasOpen (ins t) → AnyAllReached t s → EachSent (λ xs. IsSomeAnd (last_mark xs) (λ m. s ≤ℤ m)) (outs t)

pub returns-in-Stamp : goal.returns-in-Stamp
returns-in-Stamp c = record {
  last = subst Last (sym c.in-Stamp.is) (λ runs low came gave k r o is. c.stamps_rest_at_the_low.ensures.last low came gave k r is);
  passes = subst Reached (sym c.in-Stamp.is) (λ runs s came gave k r o all. c.stamps_rest_at_the_low.ensures.passes s came gave k r all.0 all.1 all.2);
}

pub returns-in-Map : goal.returns-in-Map
returns-in-Map c = record {
  last = subst Last (sym c.in-Map.is) (λ runs low came gave k r o is. subst (λ (m : Option ℤ). EachSent (λ xs. last_mark xs ≡ m) (outs (any.Map c.in-Map.tasklet))) is (c.law_marks_at_rest.ensures.last came gave k (λ taken given m. m) r o));
  passes = subst Reached (sym c.in-Map.is) (λ runs s came gave k r o all. c.law_marks_at_rest.ensures.passes s came gave k (λ taken given m. m) r o all);
}

pub returns-in-Filter : goal.returns-in-Filter
returns-in-Filter c = record {
  last = subst Last (sym c.in-Filter.is) (λ runs low came gave k r o is. subst (λ (m : Option ℤ). EachSent (λ xs. last_mark xs ≡ m) (outs (any.Filter c.in-Filter.tasklet))) is (c.law_marks_at_rest-in-Filter.ensures.last came gave k (λ taken given m. m) r o));
  passes = subst Reached (sym c.in-Filter.is) (λ runs s came gave k r o all. c.law_marks_at_rest-in-Filter.ensures.passes s came gave k (λ taken given m. m) r o all);
}

pub returns-in-Flat : goal.returns-in-Flat
returns-in-Flat c = record {
  last = subst Last (sym c.in-Flat.is) (λ runs low came gave k r o is. subst (λ (m : Option ℤ). EachSent (λ xs. last_mark xs ≡ m) (outs (any.Flat c.in-Flat.tasklet))) is (c.law_marks_at_rest-in-Flat.ensures.last came gave k (λ taken given m. m) r o));
  passes = subst Reached (sym c.in-Flat.is) (λ runs s came gave k r o all. c.law_marks_at_rest-in-Flat.ensures.passes s came gave k (λ taken given m. m) r o all);
}

pub returns-in-Join : goal.returns-in-Join
returns-in-Join c = record {
  last = subst Last (sym c.in-Join.is) (λ runs low came gave k r o is. subst (λ (m : Option ℤ). EachSent (λ xs. last_mark xs ≡ m) (outs (any.Join c.in-Join.tasklet))) is (c.law_marks_at_rest-in-Join.ensures.last came gave k (λ taken given m. m) r o));
  passes = subst Reached (sym c.in-Join.is) (λ runs s came gave k r o all. c.law_marks_at_rest-in-Join.ensures.passes s came gave k (λ taken given m. m) r o all);
}

pub returns-in-Frame : goal.returns-in-Frame
returns-in-Frame c = record {
  last = subst Last (sym c.in-Frame.is) (λ runs low came gave k r o is. subst (λ (m : Option ℤ). EachSent (λ xs. last_mark xs ≡ m) (outs (any.Frame c.in-Frame.tasklet))) is (c.law_marks_at_rest-in-Frame.ensures.last came gave k (λ taken given m. m) r o));
  passes = subst Reached (sym c.in-Frame.is) (λ runs s came gave k r o all. c.law_marks_at_rest-in-Frame.ensures.passes s came gave k (λ taken given m. m) r o all);
}

pub returns-in-Combine : goal.returns-in-Combine
returns-in-Combine c = record {
  last = subst Last (sym c.in-Combine.is) (λ runs low came gave k r o is. subst (λ (m : Option ℤ). EachSent (λ xs. last_mark xs ≡ m) (outs (any.Combine c.in-Combine.tasklet))) is (c.law_marks_at_rest-in-Combine.ensures.last came gave k (λ taken given m. m) r o));
  passes = subst Reached (sym c.in-Combine.is) (λ runs s came gave k r o all. c.law_marks_at_rest-in-Combine.ensures.passes s came gave k (λ taken given m. m) r o all);
}
