-- The end that receives, once the packet in hand is acknowledged.
use Rattle.std.proofs.Common.{max, ◌≡◌, ℕ, ◌+◌, [], ◌∷◌, ◌++◌, length, refl, sym, subst, arith, Option, Some, None, true, false}
use Rattle.std.specs.Prelude.{Bool}
use Rattle.jet_ring.specs.Ring as ring
use Rattle.jet_ring.specs.declared.ends.Tx.{Tx}
use Rattle.jet_link.specs.declared.ack.Ack.{Ack}
use Rattle.jet_link.specs.declared.packet.Packet.{Packet}
use Rattle.jet_link.specs.declared.recv_end.RecvEnd.{RecvEnd}
use Rattle.jet_link.specs.Ends.{recv_of, IsRecvEnd}
use Rattle.jet_link.specs.Link.{Raised, less, whole_offer, whole_processed}
use Rattle.jet_link.proofs.RecvEnds.{end_acked, offer_raised}

abbrev pub ack_of : RecvEnd → Packet → ℕ → Ack
ack_of me p new = record { buf = p.buf; processed = me.processed; offer = new }

module _ (me : RecvEnd) (p : Packet) (gone : Option Packet) (later : Tx Ack) (new size : ℕ) (held : me.held ≡ Some p) (whole : me.whole ≡ true) (left : gone ≡ None)
    (counted : size ≡ length p.buf.bytes) (got : ring.sent later ≡ ring.sent me.acks ++ ack_of me p new ∷ []) (r : Raised me.offer (less me.processed size) size me.grant new) where
  -- the end as it was, with what is known of the packet in hand
  was : IsRecvEnd me.shape me.packets me.acks (Some p) true me.processed me.offer me.grant me.part me.turns
  was =
      subst (λ (b : Bool). IsRecvEnd me.shape me.packets me.acks (Some p) b me.processed me.offer me.grant me.part me.turns) whole
      (subst (λ (h : Option Packet). IsRecvEnd me.shape me.packets me.acks h me.whole me.processed me.offer me.grant me.part me.turns) held me.right)

  by_packet : Raised me.offer (less me.processed (length p.buf.bytes)) (length p.buf.bytes) me.grant new
  by_packet = subst (λ (n : ℕ). Raised me.offer (less me.processed n) n me.grant new) counted r

  pub right_acked : IsRecvEnd me.shape me.packets later gone false me.processed new me.grant me.part me.turns
  right_acked =
      subst (λ (h : Option Packet). IsRecvEnd me.shape me.packets later h false me.processed new me.grant me.part me.turns) (sym left)
      (end_acked me.shape me.packets me.acks later p (ack_of me p new) me.processed me.offer me.grant me.part me.turns new was got refl refl refl (omega (arith, p.small)) by_packet)

  pub offer_acked : whole_offer me.shape (recv_of me.packets later gone false me.processed new me.grant)
      ≡ max (whole_offer me.shape (recv_of me.packets me.acks me.held me.whole me.processed me.offer me.grant)) (whole_processed (recv_of me.packets me.acks me.held me.whole me.processed me.offer me.grant) + me.grant)
  offer_acked =
      let F : Option Packet → Bool → Option Packet → Type 0 = λ h b g.
      whole_offer me.shape (recv_of me.packets later g false me.processed new me.grant)
      ≡ max (whole_offer me.shape (recv_of me.packets me.acks h b me.processed me.offer me.grant)) (whole_processed (recv_of me.packets me.acks h b me.processed me.offer me.grant) + me.grant) in
      let rose = offer_raised me.shape me.packets me.acks later p (ack_of me p new) me.processed me.offer me.grant me.part me.turns new was got refl refl refl (omega (arith, p.small)) by_packet in
      subst (λ (g : Option Packet). F me.held me.whole g) (sym left) (subst (λ (h : Option Packet). F h me.whole None) (sym held) (subst (λ (b : Bool). F (Some p) b None) (sym whole) rose))
