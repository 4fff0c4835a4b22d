-- Tasklets of any kind, kind by kind.
use Rattle.std.proofs.Common.{◌≡◌, ◌<◌, ℕ, zero, suc, List, map, length, sym, ap, arith}
use Rattle.std.specs.Prelude.{Some, slice_get}
use Rattle.jet_items.specs.declared.item.Item.{Item}
use Rattle.jet_conveyor.specs.declared.conveyor.Conveyor.{Conveyor}
use Rattle.jet_conveyor.specs.Conveyor as conveyor
use Rattle.jet_router.specs.declared.router.Router.{Router}
use Rattle.jet_router.specs.Router as router
use Rattle.jet_tasklet.specs.declared.arrival.Arrival.{Arrival}
use Rattle.jet_tasklet.specs.declared.any.AnyTasklet.{AnyTasklet}
use Rattle.jet_tasklet.specs.declared.any.AnyTasklet.TheVariants as any
use Rattle.jet_tasklet.specs.Kinds.{stamps, maps, filters, flats, joins, frames, combines, RunsProcessor, inputs_of, outputs_of}
use Rattle.jet_wire.specs.Lending.{router_of, with_router}
use Rattle.jet_wire.specs.Receiver.{receiver_view, ReceiverStays}
use Rattle.jet_wire.specs.declared.receiver.Receiver.{Receiver}
use Rattle.jet_tasklet.specs.declared.output.Output.{Output}
use Rattle.jet_tasklet.specs.Links.{ReceiveKeeps}
use Rattle.jet_tasklet.specs.Any.{AnyKeeps, AnyIsLawful, any_with_input, any_with_output}
use Rattle.jet_tasklet.proofs.Meeting.{input_keeps, output_keeps}

-- the conveyor of one input met
pub any_input_keeps : (t : AnyTasklet) (came : List Arrival) (gave : List Item) (n q : ℕ) (was w : Conveyor) → RunsProcessor t → AnyKeeps t came gave → slice_get (map (λ i. i.conveyor) (inputs_of t)) n ≡ Some was → conveyor.Refreshed (conveyor.view was) (conveyor.view w) q → AnyKeeps (any_with_input t n was w) came gave
any_input_keeps (any.Stamp t) came gave n q was w runs k at met = input_keeps stamps.stands stamps.amid stamps.takes t came gave n q was w at met k
any_input_keeps (any.Map t) came gave n q was w runs k at met = input_keeps maps.stands maps.amid maps.takes t came gave n q was w at met k
any_input_keeps (any.Filter t) came gave n q was w runs k at met = input_keeps filters.stands filters.amid filters.takes t came gave n q was w at met k
any_input_keeps (any.Flat t) came gave n q was w runs k at met = input_keeps flats.stands flats.amid flats.takes t came gave n q was w at met k
any_input_keeps (any.Join t) came gave n q was w runs k at met = input_keeps joins.stands joins.amid joins.takes t came gave n q was w at met k
any_input_keeps (any.Frame t) came gave n q was w runs k at met = input_keeps frames.stands frames.amid frames.takes t came gave n q was w at met k
any_input_keeps (any.Combine t) came gave n q was w runs k at met = input_keeps combines.stands combines.amid combines.takes t came gave n q was w at met k
any_input_keeps (any.Send s) came gave n q was w runs k at met = absurd runs
any_input_keeps (any.Receive r) came gave n q was w runs k at met = absurd runs

-- the router of one output met
pub any_output_keeps : (t : AnyTasklet) (came : List Arrival) (gave : List Item) (n d : ℕ) (was w : Router) → RunsProcessor t → AnyKeeps t came gave → slice_get (map (λ o. o.router) (outputs_of t)) n ≡ Some was → router.Refreshed (router.view was) (router.view w) d → AnyKeeps (any_with_output t n was w) came gave
any_output_keeps (any.Stamp t) came gave n d was w runs k at met = output_keeps stamps.stands stamps.amid stamps.takes t came gave n d was w at met k
any_output_keeps (any.Map t) came gave n d was w runs k at met = output_keeps maps.stands maps.amid maps.takes t came gave n d was w at met k
any_output_keeps (any.Filter t) came gave n d was w runs k at met = output_keeps filters.stands filters.amid filters.takes t came gave n d was w at met k
any_output_keeps (any.Flat t) came gave n d was w runs k at met = output_keeps flats.stands flats.amid flats.takes t came gave n d was w at met k
any_output_keeps (any.Join t) came gave n d was w runs k at met = output_keeps joins.stands joins.amid joins.takes t came gave n d was w at met k
any_output_keeps (any.Frame t) came gave n d was w runs k at met = output_keeps frames.stands frames.amid frames.takes t came gave n d was w at met k
any_output_keeps (any.Combine t) came gave n d was w runs k at met = output_keeps combines.stands combines.amid combines.takes t came gave n d was w at met k
any_output_keeps (any.Send s) came gave n d was w runs k at met = absurd runs
any_output_keeps (any.Receive r) came gave n d was w runs k at met = absurd runs

-- so says a part that was lent
pub input_lent : (t : AnyTasklet) (n : ℕ) (was : Conveyor) → RunsProcessor t → slice_get (map (λ i. i.conveyor) (inputs_of t)) n ≡ Some was
    → (came : List Arrival) (gave : List Item) (q : ℕ) (w : Conveyor) → AnyKeeps t came gave → conveyor.Refreshed (conveyor.view was) (conveyor.view w) q → AnyKeeps (any_with_input t n was w) came gave
input_lent t n was runs at came gave q w k met = any_input_keeps t came gave n q was w runs k at met

pub output_lent : (t : AnyTasklet) (n : ℕ) (was : Router) → RunsProcessor t → slice_get (map (λ o. o.router) (outputs_of t)) n ≡ Some was
    → (came : List Arrival) (gave : List Item) (d : ℕ) (w : Router) → AnyKeeps t came gave → router.Refreshed (router.view was) (router.view w) d → AnyKeeps (any_with_output t n was w) came gave
output_lent t n was runs at came gave d w k met = any_output_keeps t came gave n d was w runs k at met

-- the router of a receiver
pub router_lent : (r : Receiver) (n : ℕ) (was : Router) → n < length (outputs_of (any.Receive r)) → was ≡ router_of r → slice_get (map (λ (o : Output). o.router) (outputs_of (any.Receive r))) n ≡ Some was
router_lent r zero was lt is = ap Some (sym is)
router_lent r (suc n) was lt is = absurd (omega (arith, lt))

pub router_keeps : (r : Receiver) (w : Router) (came : List Arrival) (gave : List Item) → ReceiverStays (receiver_view r) (receiver_view (with_router r w)) → ReceiveKeeps (receiver_view r) came gave → ReceiveKeeps (receiver_view (with_router r w)) came gave
router_keeps r w came gave stays k = record { came_is = k.came_is; keeps = stays.stays gave k.keeps; paced = k.paced }

-- what a tasklet keeps, and that there is something that it keeps
pub any_kept : (t : AnyTasklet) (came : List Arrival) (gave : List Item) → AnyKeeps t came gave → AnyIsLawful t
any_kept (any.Stamp t) came gave k = record { came = came; gave = gave; keeps = k }
any_kept (any.Map t) came gave k = record { came = came; gave = gave; keeps = k }
any_kept (any.Filter t) came gave k = record { came = came; gave = gave; keeps = k }
any_kept (any.Flat t) came gave k = record { came = came; gave = gave; keeps = k }
any_kept (any.Join t) came gave k = record { came = came; gave = gave; keeps = k }
any_kept (any.Frame t) came gave k = record { came = came; gave = gave; keeps = k }
any_kept (any.Combine t) came gave k = record { came = came; gave = gave; keeps = k }
any_kept (any.Send s) came gave k = record { came = came; gave = gave; keeps = k }
any_kept (any.Receive r) came gave k = record { came = came; gave = gave; keeps = k }

pub any_keeps : (t : AnyTasklet) → AnyIsLawful t → (came : List Arrival) × (gave : List Item) × AnyKeeps t came gave
any_keeps (any.Stamp t) l = (l.came, l.gave, l.keeps)
any_keeps (any.Map t) l = (l.came, l.gave, l.keeps)
any_keeps (any.Filter t) l = (l.came, l.gave, l.keeps)
any_keeps (any.Flat t) l = (l.came, l.gave, l.keeps)
any_keeps (any.Join t) l = (l.came, l.gave, l.keeps)
any_keeps (any.Frame t) l = (l.came, l.gave, l.keeps)
any_keeps (any.Combine t) l = (l.came, l.gave, l.keeps)
any_keeps (any.Send s) l = (l.came, l.gave, l.keeps)
any_keeps (any.Receive r) l = (l.came, l.gave, l.keeps)
