-- A tasklet of any kind that waits for items is at rest.
use Rattle.jet_tasklet.specs.declared.any.AnyTasklet.{AnyTasklet}
use Rattle.jet_tasklet.specs.declared.any.AnyTasklet.TheVariants as any
use Rattle.jet_tasklet.specs.declared.tasklet.Tasklet.{Tasklet}
use Rattle.jet_tasklet.specs.Any.{AnyIsStarved}
use Rattle.jet_tasklet.specs.MarksGiven.{AnyIsAtRest, IsAtRest}
use Rattle.jet_tasklet.specs.Turning.{IsStarved}

one_rests : {P : Type 0} (t : Tasklet P) → IsStarved t → IsAtRest t
one_rests t h = record { sent = h.sent; free = h.free }

pub starved_rest : (t : AnyTasklet) → AnyIsStarved t → AnyIsAtRest t
starved_rest (any.Stamp t) h = one_rests t h
starved_rest (any.Map t) h = one_rests t h
starved_rest (any.Filter t) h = one_rests t h
starved_rest (any.Flat t) h = one_rests t h
starved_rest (any.Join t) h = one_rests t h
starved_rest (any.Frame t) h = one_rests t h
starved_rest (any.Combine t) h = one_rests t h
starved_rest (any.Send s) h = record { hand = h.starved.hand; work = h.starved.work }
starved_rest (any.Receive r) h = h.held
