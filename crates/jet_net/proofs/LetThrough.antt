-- What a link in which nothing is on the way allows.
use Rattle.std.proofs.Common.{◌≡◌, inl, inr, arith}
use Rattle.jet_net.specs.Link.{Link, LinkHasMet, MayNotBegin, MayNotPush, MayNotAcknowledge}

pub may_acknowledge : (l : Link) → LinkHasMet l → l.acks ≡ 0 → MayNotAcknowledge l → ⊥
may_acknowledge l met none full = let slots = met.ack_ring in let some = met.some_slots.1 in omega (arith, slots, some, none, full)

pub may_begin : (l : Link) → LinkHasMet l → l.acks ≡ 0 → l.packets ≡ 0 → l.received ≡ 0 → MayNotBegin l → ⊥
may_begin l met acks packets received (idle, inl barred) =
    let all = met.all_acked packets received acks in
    let some = met.some_window in
    let limit = met.limit in
    omega (arith, barred, all, some, limit)
may_begin l met acks packets received (idle, inr empty) =
    let together = met.together in
    let some = met.some_buffers in
    omega (arith, empty, idle, acks, packets, received, together, some)

pub may_push : (l : Link) → LinkHasMet l → l.packets ≡ 0 → MayNotPush l → ⊥
may_push l met none full = let slots = met.packet_ring in let some = met.some_slots.0 in omega (arith, slots, some, none, full)
