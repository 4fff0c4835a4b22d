-- A tasklet of any kind may cross to another thread, since the stage of each kind may.
use denote.RattleType.{RattleType}
use denote.Param.Send.{IsSend, sendable}
use denote.Param.SendFields.{variants_send}
use Rattle.std.proofs.Crossing.{crosses}
use Rattle.jet_expr.proofs.node.Node.TheLaws.TheKnot as node
use Rattle.jet_expr.specs.contracts.expr.Expr as expr
use Rattle.jet_stages.proofs.stamp.Stamp.TheSendSync as stamp_send
use Rattle.jet_stages.specs.contracts.stamp.Stamp as stamp
use Rattle.jet_stages.specs.contracts.map.MapP as map
use Rattle.jet_stages.specs.contracts.filter.FilterP as filter
use Rattle.jet_stages.specs.contracts.flat.FlatP as flat
use Rattle.jet_join.proofs.join.JoinP.TheSendSync as join_send
use Rattle.jet_join.specs.contracts.join.JoinP as join
use Rattle.jet_window.proofs.frame.FrameP.TheSendSync as frame_send
use Rattle.jet_window.proofs.combine.CombineP.TheSendSync as combine_send
use Rattle.jet_window.specs.contracts.frame.FrameP as frame
use Rattle.jet_window.specs.contracts.combine.CombineP as combine
use Rattle.jet_wire.proofs.receiver.Receiver.TheSendSync as receiver_send
use Rattle.jet_wire.proofs.sender.Sender.TheSendSync as sender_send
use Rattle.jet_tasklet.proofs.tasklet.Tasklet.TheSendSync as tasklet_send
use Rattle.jet_tasklet.specs.contracts.tasklet.Tasklet as tasklet
use Rattle.jet_tasklet.specs.contracts.any.AnyTasklet as any

-- an expression is a tree, which crosses where each layer of it does
expr_send : IsSend expr.the_row
expr_send = search (sendable, crosses, node.crosses) depth 60 fits 20000

map_send : IsSend map.the_row
map_send = search (sendable, expr_send) depth 20

filter_send : IsSend filter.the_row
filter_send = search (sendable, expr_send) depth 20

flat_send : IsSend flat.the_row
flat_send = search (sendable, crosses, expr_send) depth 20

-- the one field of the variant that holds a tasklet of this stage
kind_send : (P : RattleType) → IsSend P → IsSend (tasklet.the_row P) × Unit {0}
kind_send P s = (tasklet_send.the_send P s, tt)

pub any_send : IsSend any.the_row
any_send =
    let stamped = kind_send stamp.the_row stamp_send.the_send in
    let mapped = kind_send map.the_row map_send in
    let filtered = kind_send filter.the_row filter_send in
    let flattened = kind_send flat.the_row flat_send in
    let joined = kind_send join.the_row join_send.the_send in
    let framed = kind_send frame.the_row frame_send.the_send in
    let combined = kind_send combine.the_row combine_send.the_send in
    variants_send any.enum (stamped, (mapped, (filtered, (flattened, (joined, (framed, (combined, ((sender_send.the_send, tt), ((receiver_send.the_send, tt), tt)))))))))
