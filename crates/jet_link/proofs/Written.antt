-- What the two ends look like once they have pushed.
use Rattle.std.proofs.Common.{◌≡◌, ◌∙◌, ap, ℕ, ◌+◌, ◌%◌, ◌^◌, List, [], ◌∷◌, ◌++◌, length, Option, None, false}
use Rattle.jet_pool.specs.Pool.{BufValue}
use Rattle.jet_ring.specs.Ring.{Ring, TxView}
use Rattle.jet_link.specs.declared.ack.Ack.{Ack}
use Rattle.jet_link.specs.declared.packet.Packet.{Packet}
use Rattle.jet_link.specs.Link.{kept}
use Rattle.jet_link.specs.Views.{SendView, RecvView}

-- an end of a ring, of its parts
abbrev end : {T : Type 0} → Ring → List T → ℕ → TxView T
end r s n = record { ring = r; sent = s; free = n }

end_is : {T : Type 0} (r q : Ring) (s t : List T) (n : ℕ) → r ≡ q → s ≡ t → end r s n ≡ end q t n
end_is r q s t n re se = ap (λ x. end x s n) re ∙ ap (λ x. end q x n) se

pub pushed_is : (a : SendView) (w : Option BufValue) (t : TxView Packet) (p : Packet) (bytes : List ℕ) → w ≡ None → t.ring ≡ a.packets.ring → t.sent ≡ a.packets.sent ++ p ∷ [] → p.buf.bytes ≡ bytes
    → record a { counts = record a.counts { sent = (a.counts.sent + length bytes) % 2 ^ 64 }; work = w; packets = t }
    ≡ record a { counts = record a.counts { sent = kept (a.counts.sent + length p.buf.bytes) }; work = None; packets = record a.packets { sent = a.packets.sent ++ p ∷ []; free = t.free } }
pushed_is a w t p bytes we re se be = cc (we, be, end_is t.ring a.packets.ring t.sent (a.packets.sent ++ p ∷ []) t.free re se)

pub acked_is : (a : RecvView) (h : Option Packet) (t : TxView Ack) (x : Ack) (offer : ℕ) → h ≡ None → t.ring ≡ a.acks.ring → t.sent ≡ a.acks.sent ++ x ∷ []
    → record a { acks = t; held = h; whole = false; offer = offer } ≡ record a { acks = record a.acks { sent = a.acks.sent ++ x ∷ []; free = t.free }; held = None; whole = false; offer = offer }
acked_is a h t x offer he re se = cc (he, end_is t.ring a.acks.ring t.sent (a.acks.sent ++ x ∷ []) t.free re se)
